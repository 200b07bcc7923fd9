use Rattle.std.proofs.Common.{arith, ◌≡◌, length, subst}
use Rattle.gql_rules.specs.Circles.{AreTurned}
use Rattle.gql_rules.proofs.circles.wayless.Goals as goal

pub returns : goal.returns
returns c =
    let over : c.loop-place._place ≡ length c.args.graph.now = omega arith in
    subst (λ n. AreTurned c.args.graph.now n c.loop-place.turned) over c.loop-place.invariant
