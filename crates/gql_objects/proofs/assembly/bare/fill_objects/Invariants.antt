use Rattle.std.proofs.Common.{◌≡◌, ℕ, ◌+◌, map}
use Rattle.gql_place.specs.Pieces.{place_in, places_in}
use Rattle.gql_objects.specs.Assembly.{AreApart, members_each}
use Rattle.gql_complete.specs.FillShape.{all_trees}
use Rattle.gql_objects.specs.Parents.{standing_behind}
use Rattle.gql_objects.specs.PlaceStore.{present}
use Rattle.gql_objects.proofs.BareLemmas.{IsGoing, some_objects}
use Rattle.gql_objects.proofs.assembly.bare.fill_objects.Given as goal

abbrev pub invariant-loop-object : goal.invariant-loop-object
invariant-loop-object g l =
    (left : ℕ) → l._object + left ≡ l.list.count → AreApart l.list.whole (map standing_behind l.initial.parents.items)
    → IsGoing l.list.pos l.list.non_null l.list.whole left (places_in l.pieces)
    (all_trees l.list.pos l.list.non_null (some_objects l.list.count)
    (members_each (map standing_behind l.initial.parents.items) (map place_in (present l.initial.own.items))))
    (map standing_behind l.parents.items) (map place_in (present l.own.items))
