use Rattle.gql_rules.specs.Circles.{AreTold}
use Rattle.gql_rules.proofs.circles.tell_places.Given as goal

abbrev pub invariant-loop-place : goal.invariant-loop-place
invariant-loop-place l = AreTold l.graph l.place l.circular.items
