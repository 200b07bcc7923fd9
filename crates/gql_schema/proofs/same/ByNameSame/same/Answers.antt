use Rattle.gql_base.proofs.PairLemmas.{take-more-same, same-name}
use Rattle.gql_schema.proofs.same.ByNameSame.same.Goals as goal

pub loop-place-preserved : goal.loop-place-preserved
loop-place-preserved g c =
    let name = same-name c.at.result.0.now c.at-in-loop-place.result.0.now c.if-ne.ensures in
    let item = c.same.ensures.0 c.if-not-same.false in
    take-more-same c.args.self.now c.args.other.now c.loop-place.place _ _ c.at.ensures c.at-in-loop-place.ensures (λ i. (name i, item i))
    c.loop-place.invariant
