use Rattle.std.proofs.Common.{◌≡◌, false, take}
use Rattle.std.specs.List.{list_any}
use Rattle.gql_schema.specs.Entities.{is_entity_pair}
use Rattle.gql_schema.specs.Table.{types_of}
use Rattle.gql_schema.proofs.types.Types.has_entities.Given as goal

abbrev pub invariant-loop-place : goal.invariant-loop-place
invariant-loop-place l = list_any is_entity_pair (take l.place (types_of l.self)) ≡ false
