use Rattle.std.proofs.Common.{◌≡◌, ℕ, List, None, take}
use Rattle.gql_schema.specs.Faults.{promise_fault}
use Rattle.gql_schema.specs.Interface.{promised_fields}
use Rattle.gql_schema.specs.declared.interface_field.InterfaceField.{InterfaceField}
use Rattle.gql_lists.specs.First.{first_found}
use Rattle.gql_schema.specs.Table.{types_of}
use Rattle.gql_schema.proofs.promises.check_promises.Given as goal

abbrev pub invariant-loop-place : goal.invariant-loop-place
invariant-loop-place l = first_found (λ (p : List ℕ × InterfaceField). promise_fault (types_of l.types) l.object l.interface p.1) (take l.place (promised_fields l.interface)) ≡ None
