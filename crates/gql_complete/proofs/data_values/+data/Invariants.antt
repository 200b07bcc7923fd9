use Rattle.std.proofs.Common.{◌≡◌, map, Some, take}
use Rattle.gql_place.specs.Raised.{all_items}
use Rattle.gql_schema.specs.Table.{types_of}
use Rattle.gql_complete.specs.Data.{data_at}
use Rattle.gql_complete.proofs.data_values.+data.Given as goal

abbrev pub invariant-are_data-loop-value : goal.invariant-are_data-loop-value
invariant-are_data-loop-value g l =
    all_items (map (data_at g.row.V.Denot (types_of l.known.types.now) l.ty) (take l.value-index l.values)) ≡ Some (take l.value-index l.values)
