use Rattle.std.proofs.Common.{arith, ◌≡◌, length, subst}
use Rattle.gql_rules.specs.Circles.{IsInner}
use Rattle.gql_rules.proofs.CircleLemmas.{inner_more}
use Rattle.gql_rules.proofs.circles.inner_graph.Goals as goal

pub loop-place-preserved : goal.loop-place-preserved
loop-place-preserved c =
    inner_more c.args.graph.now c.args.ranks.now c.loop-place.place c.loop-place.inner c.push.new.self c.in_ok-inner_places.field-0
    c.loop-place.invariant
    c.in_ok-inner_places.ensures c.in_ok-push.ensures.ok

pub returns : goal.returns
returns c =
    let over : c.loop-place.place ≡ length c.args.graph.now = omega arith in
    subst (λ n. IsInner c.args.graph.now c.args.ranks.now n c.loop-place.inner) over c.loop-place.invariant
