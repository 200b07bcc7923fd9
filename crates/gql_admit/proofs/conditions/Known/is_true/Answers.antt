-- What is no truth value comes to no truth.
use Rattle.gql_admit.specs.KnownVariables.{known_by}
use Rattle.gql_admit.proofs.TruthLemmas.{boolean_truth, enum_truth, list_truth, null_truth, number_truth, object_truth, string_truth}
use Rattle.gql_admit.proofs.conditions.Known.is_true.Goals as goal

pub returns-in-Boolean : goal.returns-in-Boolean
returns-in-Boolean c = rw c.in-Boolean.is (boolean_truth (known_by c.args.self.now) c.in-Boolean.truth)

pub returns-in-Null : goal.returns-in-Null
returns-in-Null c = rw c.in-Null.is (null_truth (known_by c.args.self.now))

pub returns-in-Number : goal.returns-in-Number
returns-in-Number c = rw c.in-Number.is (number_truth (known_by c.args.self.now) _)

pub returns-in-String : goal.returns-in-String
returns-in-String c = rw c.in-String.is (string_truth (known_by c.args.self.now) _)

pub returns-in-Enum : goal.returns-in-Enum
returns-in-Enum c = rw c.in-Enum.is (enum_truth (known_by c.args.self.now) _)

pub returns-in-List : goal.returns-in-List
returns-in-List c = rw c.in-List.is (list_truth (known_by c.args.self.now) _)

pub returns-in-Object : goal.returns-in-Object
returns-in-Object c = rw c.in-Object.is (object_truth (known_by c.args.self.now) _)
