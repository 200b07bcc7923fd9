use Rattle.gql_collect.proofs.UnitingLemmas.{item_more}
use Rattle.gql_collect.proofs.merge_selection_sets.united_item.Goals as goal

pub loop-occurrence-preserved : goal.loop-occurrence-preserved
loop-occurrence-preserved c =
    item_more c.args.first.now c.args.more.now c.loop-occurrence.occurrence-index c.occurrence-item.result _ _ c.loop-occurrence-test.true c.occurrence-item.is
    c.loop-occurrence.invariant c.in_ok-add_selections.ensures
