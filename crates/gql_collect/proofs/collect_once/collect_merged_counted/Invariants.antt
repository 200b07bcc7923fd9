use Rattle.std.proofs.Common.{◌≤◌, ◌+◌}
use Rattle.gql_select.specs.Once.{nothing}
use Rattle.gql_select.specs.Standing.{standing_among, standing_in}
use Rattle.gql_collect.specs.CollectOnce.{IsAt, left_in, walked}
use Rattle.gql_collect.proofs.CollectOnceLemmas.{own_of}
use Rattle.gql_collect.proofs.collect_once.collect_merged_counted.Given as goal

abbrev pub invariant-loop-occurrence : goal.invariant-loop-occurrence
invariant-loop-occurrence g l = record {
  found : IsAt l.collector.fragments.now
      (walked l.collector l.collector.levels l.object nothing (own_of l.first l.more l.occurrence-index)) l.found;
  bound :
      l.steps + left_in l.collector.fragments.now l.found
      ≤ l.fn.steps + (standing_among (own_of l.first l.more l.occurrence-index) + standing_in l.collector.fragments.now);
}
