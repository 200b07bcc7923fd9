use Rattle.std.proofs.Common.{◌≡◌, ℕ, List, None, take}
use Rattle.gql_schema.specs.Faults.{input_field_fault}
use Rattle.gql_schema.specs.InputObject.{input_fields}
use Rattle.gql_schema.specs.declared.input_value.InputValue.{InputValue}
use Rattle.gql_lists.specs.First.{first_found}
use Rattle.gql_schema.specs.Table.{types_of}
use Rattle.gql_schema.proofs.checks.check_input_fields.Given as goal

abbrev pub invariant-loop-place : goal.invariant-loop-place
invariant-loop-place l = first_found (λ (p : List ℕ × InputValue). input_field_fault (types_of l.types) l.input p.1) (take l.place (input_fields l.input)) ≡ None
