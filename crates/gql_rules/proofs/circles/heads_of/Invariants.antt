use Rattle.gql_rules.specs.Circles.{AreHeads}
use Rattle.gql_rules.proofs.circles.heads_of.Given as goal

abbrev pub invariant-loop-place : goal.invariant-loop-place
invariant-loop-place l = AreHeads l.count l.ranks l.table l.heads
