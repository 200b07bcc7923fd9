use Rattle.std.proofs.Common.{length}
use Rattle.gql_rules.specs.Circles.{AreTurned}
use Rattle.gql_rules.proofs.circles.turn_ways.Given as goal

abbrev pub invariant-loop-to : goal.invariant-loop-to
invariant-loop-to l = AreTurned l.graph (length l.graph) l.turned
