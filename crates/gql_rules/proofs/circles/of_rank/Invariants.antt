use Rattle.gql_rules.specs.Circles.{AreOfRank}
use Rattle.gql_rules.proofs.circles.of_rank.Given as goal

abbrev pub invariant-loop-place : goal.invariant-loop-place
invariant-loop-place l = AreOfRank l.places l.ranks l.rank l.kept
