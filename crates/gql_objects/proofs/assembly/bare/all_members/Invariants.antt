use Rattle.std.proofs.Common.{◌++◌, drop, map}
use Rattle.gql_place.specs.Alike.{Paired, SameMembers}
use Rattle.gql_place.specs.Pieces.{members_in, place_in}
use Rattle.gql_objects.specs.Assembly.{AreApart, members_each}
use Rattle.gql_objects.specs.Parents.{standing_behind}
use Rattle.gql_objects.specs.PlaceStore.{present}
use Rattle.gql_objects.proofs.assembly.bare.all_members.Given as goal

abbrev pub invariant-loop-parent : goal.invariant-loop-parent
invariant-loop-parent g l =
    AreApart l.whole (map standing_behind l.parents)
    → Paired (SameMembers l.whole)
    (map members_in l.members.items ++ members_each (map standing_behind (drop l.parent-index l.parents))
    (map place_in (present l.own.items)))
    (members_each (map standing_behind l.parents) (map place_in (present l.initial.own.items)))
