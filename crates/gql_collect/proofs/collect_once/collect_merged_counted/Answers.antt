use Rattle.std.proofs.Common.{◌≡◌, ◌≤◌, ◌+◌, ap, subst, length, arith}
use Rattle.gql_select.specs.Behind.{all_behind}
use Rattle.gql_select.specs.Once.{nothing}
use Rattle.gql_select.specs.Standing.{standing_among}
use Rattle.gql_collect.specs.CollectOnce.{IsAt, walked}
use Rattle.gql_collect.proofs.CollectOnceLemmas.{at_nothing, left_most, own_all, own_less, own_none, own_standing, own_walked}
use Rattle.gql_collect.proofs.collect_once.collect_merged_counted.Goals as goal

pub loop-occurrence-init : goal.loop-occurrence-init
loop-occurrence-init g c = record {
  found =
      subst (λ selections. IsAt c.args.collector.now.fragments.now
      (walked c.args.collector.now c.args.collector.now.levels c.args.object.now nothing selections) c.add_own_fields.new.found)
      (own_none c.args.first.now c.args.more.now)
      (c.in_ok-add_own_fields.ensures.walked nothing
      (at_nothing c.args.collector.now.fragments.now c.nothing_found-found.result c.nothing_found-found.ensures.entered c.nothing_found-found.ensures.fields));
  bound =
      omega (
        arith,
        c.add_own_fields.ensures.bound,
        left_most c.args.collector.now.fragments.now c.nothing_found-found.result,
        ap standing_among (own_none c.args.first.now c.args.more.now),
      );
}

pub loop-occurrence-preserved : goal.loop-occurrence-preserved
loop-occurrence-preserved g c = record {
  found =
      own_walked c.args.first.now c.args.more.now c.args.collector.now c.args.object.now c.loop-occurrence.occurrence-index c.occurrence-item.result _
      c.loop-occurrence-test.true c.occurrence-item.is (c.in_ok-add_own_fields-2.ensures.walked _ c.loop-occurrence.invariant.found);
  bound =
      omega (
        arith,
        c.add_own_fields-in-loop-occurrence.ensures.bound,
        c.loop-occurrence.invariant.bound,
        own_standing c.args.first.now c.args.more.now c.loop-occurrence.occurrence-index c.occurrence-item.result c.loop-occurrence-test.true
            c.occurrence-item.is,
      );
}

pub returns-in_err-add_own_fields-clause-bound : goal.returns-in_err-add_own_fields-clause-bound
returns-in_err-add_own_fields-clause-bound g c =
    omega (
      arith,
      c.add_own_fields.ensures.bound,
      left_most c.args.collector.now.fragments.now c.nothing_found-found.result,
      ap standing_among (own_none c.args.first.now c.args.more.now),
      own_less c.args.first.now c.args.more.now 0,
    )

pub returns-in_err-add_own_fields-2-clause-bound : goal.returns-in_err-add_own_fields-2-clause-bound
returns-in_err-add_own_fields-2-clause-bound g c =
    omega (
      arith,
      c.add_own_fields-in-loop-occurrence.ensures.bound,
      c.loop-occurrence.invariant.bound,
      own_standing c.args.first.now c.args.more.now c.loop-occurrence.occurrence-index c.occurrence-item.result c.loop-occurrence-test.true
          c.occurrence-item.is,
      own_less c.args.first.now c.args.more.now (c.loop-occurrence.occurrence-index + 1),
    )

pub returns-clause-fields : goal.returns-clause-fields
returns-clause-fields g c =
    let over : length c.args.more.now ≤ c.loop-occurrence.occurrence-index = omega (arith, c.loop-occurrence-test.false) in
    subst (λ selections. all_behind c.loop-occurrence.found.fields.items
    ≡ (walked c.args.collector.now c.args.collector.now.levels c.args.object.now nothing selections).fields)
    (own_all c.args.first.now c.args.more.now c.loop-occurrence.occurrence-index over) c.loop-occurrence.invariant.found.fields_are

pub returns-clause-bound : goal.returns-clause-bound
returns-clause-bound g c =
    omega (arith, c.loop-occurrence.invariant.bound, own_less c.args.first.now c.args.more.now c.loop-occurrence.occurrence-index)
