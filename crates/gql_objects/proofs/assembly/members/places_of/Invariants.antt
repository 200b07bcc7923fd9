use Rattle.std.proofs.Common.{◌≡◌, ◌++◌, drop, map}
use Rattle.gql_place.specs.Alike.{SameItems}
use Rattle.gql_place.specs.Pieces.{place_in, places_in}
use Rattle.gql_objects.specs.Members.{places_behind_all, places_with}
use Rattle.gql_collect.specs.Levels.{asked_behind}
use Rattle.gql_objects.specs.PlaceStore.{present}
use Rattle.gql_objects.proofs.assembly.members.places_of.Given as goal

abbrev pub invariant-loop-node : goal.invariant-loop-node
invariant-loop-node l = record {
  own : SameItems l.whole
      (places_in l.own ++ places_with l.object (map asked_behind (drop l.node-index l.nodes)) (map place_in (present l.places.items)))
      (places_with l.object (map asked_behind l.nodes) (map place_in (present l.initial.places.items)));
  left : places_behind_all (map asked_behind (drop l.node-index l.nodes)) (map place_in (present l.places.items))
      ≡ places_behind_all (map asked_behind l.nodes) (map place_in (present l.initial.places.items));
}
