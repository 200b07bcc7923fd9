use Rattle.std.proofs.Common.{◌≡◌, filter, take}
use Rattle.gql_base.specs.Pairs.{names_of}
use Rattle.gql_schema.specs.Entities.{is_entity_pair}
use Rattle.gql_schema.specs.Table.{types_of}
use Rattle.gql_schema.proofs.types.Types.entities.Given as goal

abbrev pub invariant-loop-place : goal.invariant-loop-place
invariant-loop-place l = l.names ≡ names_of (filter is_entity_pair (take l.place (types_of l.self)))
