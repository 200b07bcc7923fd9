use Rattle.gql_collect.proofs.OccurrenceLemmas.{beneath_more}
use Rattle.gql_collect.proofs.collect.collect_beneath.Goals as goal

pub loop-occurrence-preserved : goal.loop-occurrence-preserved
loop-occurrence-preserved c =
    beneath_more c.args.collector.now c.args.object.now c.args.first.now c.args.more.now c.loop-occurrence.occurrence-index c.occurrence-item.result _ _
    c.loop-occurrence-test.true c.occurrence-item.is c.loop-occurrence.invariant c.in_ok-add_own_fields-2.ensures
