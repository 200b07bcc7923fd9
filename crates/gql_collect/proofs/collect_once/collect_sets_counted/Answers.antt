use Rattle.std.proofs.Common.{◌≡◌, ◌≤◌, ◌+◌, ap, subst, length, take, arith}
use Rattle.gql_select.specs.Behind.{all_behind}
use Rattle.gql_select.specs.Once.{nothing}
use Rattle.gql_select.specs.Standing.{standing_among}
use Rattle.gql_collect.specs.CollectOnce.{IsAt, selections_of_all, walked}
use Rattle.gql_collect.proofs.CollectOnceLemmas.{at_nothing, left_most, sets_all, sets_less, sets_none, sets_standing, sets_walked}
use Rattle.gql_collect.proofs.collect_once.collect_sets_counted.Goals as goal

pub loop-set-init : goal.loop-set-init
loop-set-init g c = record {
  found =
      sets_none c.args.sets.now c.args.collector.now c.args.object.now c.nothing_found-found.result
      (at_nothing c.args.collector.now.fragments.now c.nothing_found-found.result c.nothing_found-found.ensures.entered c.nothing_found-found.ensures.fields);
  bound = omega (arith, left_most c.args.collector.now.fragments.now c.nothing_found-found.result);
}

pub loop-set-preserved : goal.loop-set-preserved
loop-set-preserved g c = record {
  found =
      sets_walked c.args.sets.now c.loop-set.set-index c.set-item.result c.loop-set-test.true c.set-item.is c.args.collector.now c.args.object.now _
      (subst (λ selections. IsAt c.args.collector.now.fragments.now
      (walked c.args.collector.now c.args.collector.now.levels c.args.object.now
      (walked c.args.collector.now c.args.collector.now.levels c.args.object.now nothing (selections_of_all (take c.loop-set.set-index c.args.sets.now)))
      selections) c.add_fields.new.found)
      c.as_slice-selections.ensures (c.in_ok-add_fields.ensures.walked _ c.loop-set.invariant.found));
  bound =
      omega (
        arith,
        c.add_fields.ensures.bound,
        c.loop-set.invariant.bound,
        ap standing_among c.as_slice-selections.ensures,
        sets_standing c.args.sets.now c.loop-set.set-index c.set-item.result c.loop-set-test.true c.set-item.is,
      );
}

pub returns-in_err-add_fields-clause-bound : goal.returns-in_err-add_fields-clause-bound
returns-in_err-add_fields-clause-bound g c =
    omega (
      arith,
      c.add_fields.ensures.bound,
      c.loop-set.invariant.bound,
      ap standing_among c.as_slice-selections.ensures,
      sets_standing c.args.sets.now c.loop-set.set-index c.set-item.result c.loop-set-test.true c.set-item.is,
      sets_less c.args.sets.now (c.loop-set.set-index + 1),
    )

pub returns-clause-fields : goal.returns-clause-fields
returns-clause-fields g c =
    let over : length c.args.sets.now ≤ c.loop-set.set-index = omega (arith, c.loop-set-test.false) in
    subst (λ selections. all_behind c.loop-set.found.fields.items
    ≡ (walked c.args.collector.now c.args.collector.now.levels c.args.object.now nothing selections).fields)
    (sets_all c.args.sets.now c.loop-set.set-index over) c.loop-set.invariant.found.fields_are

pub returns-clause-bound : goal.returns-clause-bound
returns-clause-bound g c = omega (arith, c.loop-set.invariant.bound, sets_less c.args.sets.now c.loop-set.set-index)
