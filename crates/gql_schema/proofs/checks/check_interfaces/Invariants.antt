use Rattle.std.proofs.Common.{◌≡◌, None, take}
use Rattle.gql_schema.specs.Faults.{implemented_fault}
use Rattle.gql_schema.specs.Object.{interfaces_of}
use Rattle.gql_lists.specs.First.{first_found}
use Rattle.gql_schema.specs.Table.{types_of}
use Rattle.gql_schema.proofs.checks.check_interfaces.Given as goal

abbrev pub invariant-loop-place : goal.invariant-loop-place
invariant-loop-place l = first_found (implemented_fault (types_of l.types) l.object) (take l.place (interfaces_of l.object)) ≡ None
