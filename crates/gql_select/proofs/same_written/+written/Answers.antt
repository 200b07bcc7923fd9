use Rattle.gql_base.proofs.PairLemmas.{take-more-same, same-name}
use Rattle.gql_select.proofs.same_written.+written.Goals as goal

pub same_members-loop-place-preserved : goal.same_members-loop-place-preserved
same_members-loop-place-preserved t c =
    let name = same-name c.at.result.0.now c.at-in-loop-place.result.0.now c.if-ne.ensures in
    let value = c.same_value.ensures.0 c.if-not-same_value.false in
    take-more-same c.args.one.now c.args.other.now c.loop-place.place _ _ c.at.ensures c.at-in-loop-place.ensures (λ i. (name i, value i))
    c.loop-place.invariant
