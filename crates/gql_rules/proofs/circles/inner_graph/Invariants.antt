use Rattle.gql_rules.specs.Circles.{IsInner}
use Rattle.gql_rules.proofs.circles.inner_graph.Given as goal

abbrev pub invariant-loop-place : goal.invariant-loop-place
invariant-loop-place l = IsInner l.graph l.ranks l.place l.inner
