use Rattle.gql_objects.proofs.MovingLemmas.{IsMoved}
use Rattle.gql_objects.proofs.assembly.assemble.move_before.Given as goal

abbrev pub invariant-loop-place : goal.invariant-loop-place
invariant-loop-place l = IsMoved l.initial.behind.items l._place l.places.items l.behind.items
