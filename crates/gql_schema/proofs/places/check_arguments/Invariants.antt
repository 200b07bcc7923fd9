use Rattle.std.proofs.Common.{◌≡◌, None, take}
use Rattle.gql_schema.specs.Faults.{argument_fault}
use Rattle.gql_lists.specs.First.{first_found}
use Rattle.gql_schema.specs.Table.{types_of}
use Rattle.gql_schema.proofs.places.check_arguments.Given as goal

abbrev pub invariant-loop-place : goal.invariant-loop-place
invariant-loop-place l = first_found (λ p. argument_fault (types_of l.types) l.owner p.1) (take l.place l.arguments) ≡ None
