use Rattle.std.proofs.Common.{◌≡◌, length}
use Rattle.gql_objects.specs.PlaceStore.{present}
use Rattle.gql_objects.proofs.assembly.members.next_present.Given as goal

abbrev pub invariant-open : goal.invariant-open
invariant-open l = present l.places.items ≡ present l.initial.places.items

abbrev pub decreases-open : goal.decreases-open
decreases-open l = length l.places.items
