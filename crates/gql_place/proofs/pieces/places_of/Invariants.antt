use Rattle.std.proofs.Common.{◌≡◌, ◌++◌, map}
use Rattle.std.specs.Vec.Iter.{into_iter_items}
use Rattle.gql_place.specs.Pieces.{data_place}
use Rattle.gql_place.proofs.pieces.places_of.Given as goal

-- the places so far and those of what is left are those of all
abbrev pub invariant-loop-value : goal.invariant-loop-value
invariant-loop-value l =
    l.places.items ++ map data_place (into_iter_items l.value-iterator) ≡ map data_place l.fn.values.items
