use Rattle.std.proofs.Common.{◌≡◌, ◌+◌, ◌<◌, ◌++◌, length, map}
use Rattle.std.specs.Vec.{vec_capacity, vec_len}
use Rattle.std.specs.Vec.Iter.{into_iter_items}
use Rattle.gql_place.specs.Pieces.{data_place}
use Rattle.gql_place.proofs.pieces.places_before.Given as goal

-- the places so far and those of what is left are those of all, and there is room for one more
abbrev pub invariant-loop-value : goal.invariant-loop-value
invariant-loop-value l = record {
  made : l.places.items ++ map data_place (into_iter_items l.value-iterator) ≡ map data_place l.fn.values.items;
  room : vec_len l.places + length (into_iter_items l.value-iterator) < vec_capacity l.places;
}
