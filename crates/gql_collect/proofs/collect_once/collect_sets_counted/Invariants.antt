use Rattle.std.proofs.Common.{◌≤◌, ◌+◌, take}
use Rattle.gql_select.specs.Once.{nothing}
use Rattle.gql_select.specs.Standing.{standing_among, standing_in}
use Rattle.gql_collect.specs.CollectOnce.{IsAt, left_in, selections_of_all, walked}
use Rattle.gql_collect.proofs.collect_once.collect_sets_counted.Given as goal

abbrev pub invariant-loop-set : goal.invariant-loop-set
invariant-loop-set g l = record {
  found : IsAt l.collector.fragments.now
      (walked l.collector l.collector.levels l.object nothing (selections_of_all (take l.set-index l.sets))) l.found;
  bound :
      l.steps + left_in l.collector.fragments.now l.found
      ≤ l.fn.steps + (standing_among (selections_of_all (take l.set-index l.sets)) + standing_in l.collector.fragments.now);
}
