use Rattle.std.proofs.Common.{◌≡◌, None, take}
use Rattle.gql_schema.specs.Faults.{named_field_fault}
use Rattle.gql_lists.specs.First.{first_found}
use Rattle.gql_schema.specs.Table.{types_of}
use Rattle.gql_schema.proofs.checks.check_fields.Given as goal

abbrev pub invariant-loop-place : goal.invariant-loop-place
invariant-loop-place g l = first_found (named_field_fault g.T.Declares.declares (types_of l.types) l.owner) (take l.place l.fields) ≡ None
