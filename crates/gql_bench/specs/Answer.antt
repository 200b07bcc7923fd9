-- What a resolver answers to a call in a world of cells, by its rule.
use Rattle.std.specs.Prelude.{ℕ, ℤ, pos, List, map, Option, Some, None, Ok, Err, option_and_then}
use Rattle.std.specs.Prelude.{option_map, get_or, if◌then◌else◌}
use Rattle.gql_base.specs.Kinds.{object_of}
use Rattle.gql_base.specs.Pairs.{under}
use Rattle.gql_base.specs.declared.value.Value.{Value}
use Rattle.gql_base.specs.declared.value.Value.TheVariants as values
use Rattle.gql_resolve.specs.Call.{Call}
use Rattle.gql_resolve.specs.FieldValue.{value_in}
use Rattle.gql_resolve.specs.Lawful.{plain_answer}
use Rattle.gql_resolve.specs.declared.answer.Answer.{Answer}
use Rattle.gql_resolve.specs.declared.field_value.FieldValue.{FieldValue}
use Rattle.gql_resolve.specs.declared.field_value.FieldValue.TheVariants as given
use Rattle.gql_bench.specs.Bump.{bump_outcome}
use Rattle.gql_bench.specs.Entities.{entities_outcome}
use Rattle.gql_bench.specs.Outcome.{Outcome, plain_error}
use Rattle.gql_bench.specs.Sum.{sum_outcome}
use Rattle.gql_bench.specs.declared.rule.Rule.{Rule}
use Rattle.gql_bench.specs.declared.rule.RuleKind.{RuleKind}
use Rattle.gql_bench.specs.declared.rule.RuleKind.TheVariants as kinds

-- the value of the member of this name, where there is one
abbrev pub given_under : List ℕ → List (List ℕ × Value) → Option (FieldValue ℤ)
given_under name members = option_map (λ value. given.Value value) (under name members)

-- the members of a parent that is an object value
abbrev pub parent_members : FieldValue ℤ → Option (List (List ℕ × Value))
parent_members parent = option_and_then object_of (value_in parent)

-- the member of this name of a parent, where it is an object value that has it
abbrev pub parent_member : List ℕ → FieldValue ℤ → Option (FieldValue ℤ)
parent_member name parent = option_and_then (given_under name) (parent_members parent)

-- the cell at a place, which is one of the cells
abbrev pub cell_at : ℕ → List ℤ → FieldValue ℤ
cell_at place cells = given.Value (values.Number (get_or cells place (pos 0)))

-- what comes of the cell that `bump` names: a root of a mutation raises it, others read it
abbrev pub bump_or_read : ℕ → Call ℤ → List ℤ → Outcome
bump_or_read place call cells =
    if call.is_root then bump_outcome call.arguments (get_or cells place (pos 0))
    else Ok (Some (cell_at place cells))

-- what comes by a rule
abbrev pub kind_outcome : RuleKind → Call ℤ → List ℤ → Outcome
kind_outcome (kinds.Const value) call cells = Ok (Some value)
kind_outcome kinds.None call cells = Ok None
kind_outcome (kinds.Fail message) call cells = Err (plain_error message)
kind_outcome (kinds.Member name) call cells = Ok (parent_member name call.parent)
kind_outcome (kinds.Arg name) call cells = Ok (given_under name call.arguments)
kind_outcome (kinds.Sum paths) call cells = sum_outcome paths call.arguments
kind_outcome kinds.Entities call cells = entities_outcome call.arguments
kind_outcome (kinds.Read place) call cells = Ok (Some (cell_at place cells))
kind_outcome (kinds.Bump place) call cells = bump_or_read place call cells

-- the answer by a rule, with the rule's added errors and its headers
abbrev pub answer_by : Rule → Call ℤ → List ℤ → Answer ℤ
answer_by rule call cells =
    record {
      result = kind_outcome rule.kind call cells;
      added = map plain_error rule.added;
      headers = rule.headers;
    }

-- the same, if there is a rule; without one there is no value
abbrev pub rule_answer : Option Rule → Call ℤ → List ℤ → Answer ℤ
rule_answer None call cells = plain_answer None
rule_answer (Some rule) call cells = answer_by rule call cells
