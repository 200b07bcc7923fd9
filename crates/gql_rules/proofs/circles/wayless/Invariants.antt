use Rattle.gql_rules.specs.Circles.{AreTurned}
use Rattle.gql_rules.proofs.circles.wayless.Given as goal

abbrev pub invariant-loop-place : goal.invariant-loop-place
invariant-loop-place l = AreTurned l.graph l._place l.turned
