use Rattle.std.proofs.Common.{ℕ, ◌≡◌, length}
use Rattle.gql_objects.specs.PlaceStore.{stands_for}
use Rattle.gql_objects.proofs.assembly.assemble.add_open.Given as goal

abbrev pub invariant-loop-i : goal.invariant-loop-i
invariant-loop-i l = record {
  length_is : length l.places.items ≡ l.i;
  same : (k : ℕ) → stands_for l.places.items k ≡ stands_for l.initial.places.items k;
}
