use Rattle.std.proofs.Common.{length}
use Rattle.gql_rules.specs.Circles.{AreTurned}
use Rattle.gql_rules.proofs.circles.turned_graph.Given as goal

abbrev pub invariant-loop-from : goal.invariant-loop-from
invariant-loop-from l = AreTurned l.graph (length l.graph) l.turned
