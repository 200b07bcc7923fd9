use Rattle.std.proofs.Common.{◌≡◌, ◌-◌, ◌∙◌, ◌∷◌, OnOk, false, true, refl, sym, ap, subst, arith}
use Rattle.gql_doc.specs.Depth.{fragment_set}
use Rattle.gql_doc.specs.declared.document.InlineFragment.{out-InlineFragment}
use Rattle.gql_schema.specs.Table.{types_of}
use Rattle.gql_schema.specs.TableReading.{has_type}
use Rattle.gql_select.proofs.StandingLemmas.{standing_items}
use Rattle.gql_select.specs.Once.{once_of, once_spread}
use Rattle.gql_select.specs.Standing.{is_marked, standing_among}
use Rattle.gql_collect.specs.CollectFields.{setting_by}
use Rattle.gql_collect.specs.CollectOnce.{IsAt, walked}
use Rattle.gql_collect.specs.declared.collect_once.Found.{Found}
use Rattle.gql_collect.proofs.CollectOnceLemmas.{at_entered, fragment_at, left_entered, opened_spread, spread_entered, spread_other, spread_unknown, standing_more, walked_all, walked_more}
use Rattle.gql_collect.proofs.collect_once.+once.Goals as goal

pub add_fields-loop-selection-preserved : goal.add_fields-loop-selection-preserved
add_fields-loop-selection-preserved g t c = record {
  walked = λ walk h.
      walked_more c.args.collector.now c.args.object.now (c.args.left - 1) walk c.args.selections.now c.loop-selection.selection-index c.selection-item.result _
      c.loop-selection-test.true c.selection-item.is (c.in_ok-add_selection.ensures.walked _ (c.loop-selection.invariant.walked walk h));
  bound =
      omega (
        arith,
        c.add_selection.ensures.bound,
        c.loop-selection.invariant.bound,
        standing_more c.args.selections.now c.loop-selection.selection-index c.selection-item.result c.loop-selection-test.true c.selection-item.is,
      );
}

pub add_fields-returns-clause-walked : goal.add_fields-returns-clause-walked
add_fields-returns-clause-walked g t c =
    λ walk h. walked_all c.args.collector.now c.args.object.now c.args.left walk c.args.selections.now c.loop-selection.selection-index _
    c.if-left-eq0.false (omega (arith, c.loop-selection-test.false)) (c.loop-selection.invariant.walked walk h)

pub add_inline-returns-in-None-clause-bound : goal.add_inline-returns-in-None-clause-bound
add_inline-returns-in-None-clause-bound g t c =
    omega (
      arith,
      c.add_fields.ensures.bound,
      ap standing_among c.as_slice-selections.ensures,
      standing_items (out-InlineFragment c.args.fragment.now).selection_set.node,
    )

pub add_inline-returns-else-not-covers-clause-bound :
    goal.add_inline-returns-else-not-covers-clause-bound
add_inline-returns-else-not-covers-clause-bound g t c =
    omega (
      arith,
      c.add_fields-in-Some.ensures.bound,
      ap standing_among c.as_slice-selections.ensures,
      standing_items (out-InlineFragment c.args.fragment.now).selection_set.node,
    )

pub add_selection-returns-in-FragmentSpread-clause-walked :
    goal.add_selection-returns-in-FragmentSpread-clause-walked
add_selection-returns-in-FragmentSpread-clause-walked g t c =
    λ walk is.
    let collector = c.args.collector.now in
    let object = c.args.object.now in
    subst (λ layer. OnOk c.add_spread.result (IsAt collector.fragments.now
    (once_of (setting_by collector) object (walked collector c.args.left object) walk layer) c.add_spread.new.found))
    (opened_spread c.args.selection.now c.in-FragmentSpread.spread c.in-FragmentSpread.is)
    (subst (λ name. OnOk c.add_spread.result (IsAt collector.fragments.now
    (once_spread (setting_by collector) object (walked collector c.args.left object) walk name) c.add_spread.new.found))
    c.as_str-name.ensures (c.add_spread.ensures.walked walk is))

pub add_spread-returns-in-None-clause-walked : goal.add_spread-returns-in-None-clause-walked
add_spread-returns-in-None-clause-walked g t c =
    λ walk is.
    subst (λ w. IsAt c.args.collector.now.fragments.now w c.args.found.now)
    (sym (spread_unknown c.args.collector.now c.args.object.now c.args.left walk c.args.name.now c.in-None.ensures.place)) is

pub add_fragment-returns-then-not-covers-clause-walked :
    goal.add_fragment-returns-then-not-covers-clause-walked
add_fragment-returns-then-not-covers-clause-walked g t c =
    λ walk is name at.
    let collector = c.args.collector.now in
    let found = c.args.found.now in
    let fragment = c.at.result.1.now in
    let new : is_marked found.entered.items c.args.place ≡ false =
    ap (λ marks. is_marked marks c.args.place) (sym c.as_slice.ensures.value) ∙ sym c.was_entered.ensures ∙ c.if-was_entered.false in
    let apart : c.covers.result ≡ false = cc in
    let other : has_type (types_of collector.types.now) fragment.node.type_condition.node c.args.object.now ≡ false =
    ap (λ condition. has_type (types_of collector.types.now) condition c.args.object.now) (sym c.as_str-condition.ensures)
    ∙ sym c.covers.ensures ∙ apart in
    subst (λ w. IsAt collector.fragments.now w found)
    (sym (spread_other collector c.args.object.now c.args.left walk name c.args.place found at is fragment
    (fragment_at collector.fragments.now c.args.place _ fragment c.at.ensures) new other)) is

pub add_fragment-returns-clause-walked : goal.add_fragment-returns-clause-walked
add_fragment-returns-clause-walked g t c =
    λ walk is name at.
    let collector = c.args.collector.now in
    let object = c.args.object.now in
    let found = c.args.found.now in
    let fragment = c.at.result.1.now in
    let marked : Found = record { entered = c.mark.new.entered; fields = c.args.found.now.fields } in
    let new : is_marked found.entered.items c.args.place ≡ false =
    ap (λ marks. is_marked marks c.args.place) (sym c.as_slice.ensures.value) ∙ sym c.was_entered.ensures ∙ c.if-was_entered.false in
    let through : c.covers.result ≡ true = cc in
    let covered : has_type (types_of collector.types.now) fragment.node.type_condition.node object ≡ true =
    ap (λ condition. has_type (types_of collector.types.now) condition object) (sym c.as_str-condition.ensures) ∙ sym c.covers.ensures ∙ through in
    subst (λ w. OnOk c.add_fields.result (IsAt collector.fragments.now w c.add_fields.new.found))
    (sym (spread_entered collector object c.args.left walk name c.args.place found at is fragment
    (fragment_at collector.fragments.now c.args.place _ fragment c.at.ensures) new covered))
    (subst (λ selections. OnOk c.add_fields.result (IsAt collector.fragments.now
    (walked collector c.args.left object (record walk { entered = name ∷ walk.entered }) selections) c.add_fields.new.found))
    c.as_slice-selections.ensures
    (c.add_fields.ensures.walked (record walk { entered = name ∷ walk.entered })
    (at_entered collector.fragments.now c.args.place found marked c.in_ok-mark.ensures.here c.mark.ensures.others walk name at refl is)))

pub add_fragment-returns-clause-bound : goal.add_fragment-returns-clause-bound
add_fragment-returns-clause-bound g t c =
    let collector = c.args.collector.now in
    let found = c.args.found.now in
    let fragment = c.at.result.1.now in
    let marked : Found = record { entered = c.mark.new.entered; fields = c.args.found.now.fields } in
    let new : is_marked found.entered.items c.args.place ≡ false =
    ap (λ marks. is_marked marks c.args.place) (sym c.as_slice.ensures.value) ∙ sym c.was_entered.ensures ∙ c.if-was_entered.false in
    omega (
      arith,
      c.add_fields.ensures.bound,
      left_entered collector.fragments.now c.args.place found marked c.in_ok-mark.ensures.here c.mark.ensures.others fragment
          (fragment_at collector.fragments.now c.args.place _ fragment c.at.ensures) new,
      ap standing_among c.as_slice-selections.ensures,
      standing_items (fragment_set fragment).node,
    )
