use Rattle.std.proofs.Common.{arith, ◌≡◌, length, subst}
use Rattle.gql_rules.specs.Circles.{AreTold}
use Rattle.gql_rules.proofs.circles.tell_places.Goals as goal

pub returns : goal.returns
returns c =
    let over : c.loop-place.place ≡ length c.args.graph.now = omega arith in
    subst (λ n. AreTold c.args.graph.now n c.loop-place.circular.items) over c.loop-place.invariant
