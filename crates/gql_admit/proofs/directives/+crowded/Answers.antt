use Rattle.std.proofs.Common.{◌≡◌, ◌≤◌, Some, None, false, true, length, refl, slice_get, suc, sym, subst, ap, ◌∙◌, option_and_then, arith}
use Rattle.std.specs.Option.{option_copied, option_map, option_or}
use Rattle.std.proofs.lemmas.Option.{slice_get-get_or, slice_get_read}
use Rattle.gql_base.specs.Pairs.{values_of}
use Rattle.gql_doc.specs.declared.document.Field.{out-Field}
use Rattle.gql_doc.specs.declared.document.Positioned.{Positioned}
use Rattle.gql_doc.specs.declared.document.Selection.{Selection, out-Selection}
use Rattle.gql_doc.specs.Depth.{deep_from, field_set, fragment_set, if_any, selections_of, set_beneath, set_under}
use Rattle.gql_select.specs.Crowded.{crowded_from, crowded_here}
use Rattle.gql_select.specs.Standing.{count_of, standing, standing_among}
use Rattle.gql_admit.specs.WalkedFragments.{Finds}
use Rattle.gql_admit.proofs.CrowdedLemmas.{as_field, as_inline, as_spread, clean_less, finds_all, finds_hit, finds_known, finds_next, finds_same, finds_set, finds_still, finds_up, finds_within, fragment_nests, under_found}
use Rattle.gql_select.proofs.StandingLemmas.{entered_counted, left_more, standing_items}
use Rattle.gql_lists.proofs.FirstLemmas.{none_at, there_copied}
use Rattle.gql_fields.proofs.PairLemmas.{value_at}
use Rattle.gql_admit.proofs.WalkLemmas.{spread_found, spread_none}
use Rattle.gql_admit.proofs.directives.+crowded.Goals as goal

pub crowded_selections-loop-selection-init : goal.crowded_selections-loop-selection-init
crowded_selections-loop-selection-init g t c = record {
  finds = λ levels nests clean. finds_still c.args.fragments.now c.args.limit (suc levels) c.args.entered.now None None clean refl;
  long = c.requires.long;
  bound = omega arith;
}

pub crowded_selections-crowded_selection-found-requires :
    goal.crowded_selections-crowded_selection-found-requires
crowded_selections-crowded_selection-found-requires g t c κs within =
    let fragments = c.args.fragments.now in
    let selections = c.args.selections.now in
    let selection = c.selection-item.result in
    let index = c.loop-selection.selection-index in
    let nests : option_and_then (deep_from fragments c.args.left) (set_under fragments (out-Selection selection.node)) ≡ None
    = none_at (λ (x : Positioned Selection). option_and_then (deep_from fragments c.args.left) (set_beneath fragments x)) selections index
    selection c.requires.nests
    (slice_get_read selections (length selections) index selection refl c.loop-selection-test.true c.selection-item.is) in
    (omega (arith, c.decreases), (within, (nests, c.loop-selection.invariant.long)))

pub crowded_selections-returns-then-is_some-clause-found :
    goal.crowded_selections-returns-then-is_some-clause-found
crowded_selections-returns-then-is_some-clause-found g t c = λ levels nests clean.
    let fragments = c.args.fragments.now in
    let selections = c.args.selections.now in
    let index = c.loop-selection.selection-index in
    let selection = c.selection-item.result in
    let at : slice_get selections index ≡ Some selection
    = slice_get_read selections (length selections) index selection refl c.loop-selection-test.true c.selection-item.is in
    let before = c.loop-selection.invariant.finds levels nests clean in
    let here = c.crowded_selection-found.ensures.found levels
    (none_at (λ (x : Positioned Selection). option_and_then (deep_from fragments levels) (set_beneath fragments x)) selections index
    selection nests at)
    (before.clean refl) in
    finds_hit fragments c.args.limit
    (λ (x : Positioned Selection).
    option_or (crowded_here c.args.limit (out-Selection x.node))
    (option_and_then (crowded_from fragments c.args.limit c.args.left) (set_beneath fragments x)))
    (suc levels) c.args.entered.now c.loop-selection.entered selections index before c.crowded_selection-found.new.entered selection
    (option_copied c.crowded_selection-found.result) c.is_some.result at here
    (there_copied c.crowded_selection-found.result c.is_some.result c.is_some.ensures) c.if-is_some.true

pub crowded_selections-returns-then-is_some-clause-bound :
    goal.crowded_selections-returns-then-is_some-clause-bound
crowded_selections-returns-then-is_some-clause-bound g t c =
    omega (
      arith,
      c.crowded_selection-found.ensures.bound,
      c.loop-selection.invariant.bound,
      left_more (λ (selection : Positioned Selection). count_of selection.node) c.args.selections.now c.loop-selection.selection-index
          c.selection-item.result
          (slice_get_read c.args.selections.now (length c.args.selections.now) c.loop-selection.selection-index c.selection-item.result refl
          c.loop-selection-test.true c.selection-item.is),
    )

pub crowded_selections-loop-selection-preserved : goal.crowded_selections-loop-selection-preserved
crowded_selections-loop-selection-preserved g t c = record {
  finds = λ levels nests clean.
      let fragments = c.args.fragments.now in
      let selections = c.args.selections.now in
      let index = c.loop-selection.selection-index in
      let selection = c.selection-item.result in
      let at : slice_get selections index ≡ Some selection
      = slice_get_read selections (length selections) index selection refl c.loop-selection-test.true c.selection-item.is in
      let before = c.loop-selection.invariant.finds levels nests clean in
      let here = c.crowded_selection-found.ensures.found levels
      (none_at (λ (x : Positioned Selection). option_and_then (deep_from fragments levels) (set_beneath fragments x)) selections index
      selection nests at)
      (before.clean refl) in
      finds_next fragments c.args.limit
      (λ (x : Positioned Selection).
      option_or (crowded_here c.args.limit (out-Selection x.node))
      (option_and_then (crowded_from fragments c.args.limit c.args.left) (set_beneath fragments x)))
      (suc levels) c.args.entered.now c.loop-selection.entered selections index before c.crowded_selection-found.new.entered selection
      (option_copied c.crowded_selection-found.result) c.is_some.result at here
      (there_copied c.crowded_selection-found.result c.is_some.result c.is_some.ensures) c.if-is_some.false;
  long = omega (arith, c.crowded_selection-found.auto.entered, c.loop-selection.invariant.long);
  bound =
      omega (
        arith,
        c.crowded_selection-found.ensures.bound,
        c.loop-selection.invariant.bound,
        left_more (λ (selection : Positioned Selection). count_of selection.node) c.args.selections.now c.loop-selection.selection-index
            c.selection-item.result
            (slice_get_read c.args.selections.now (length c.args.selections.now) c.loop-selection.selection-index c.selection-item.result refl
            c.loop-selection-test.true c.selection-item.is),
      );
}

pub crowded_selections-returns-clause-found : goal.crowded_selections-returns-clause-found
crowded_selections-returns-clause-found g t c = λ levels nests clean.
    finds_all c.args.fragments.now c.args.limit
    (λ (x : Positioned Selection).
    option_or (crowded_here c.args.limit (out-Selection x.node))
    (option_and_then (crowded_from c.args.fragments.now c.args.limit c.args.left) (set_beneath c.args.fragments.now x)))
    (suc levels) c.args.entered.now c.loop-selection.entered c.args.selections.now c.loop-selection.selection-index
    (c.loop-selection.invariant.finds levels nests clean) (omega (arith, c.loop-selection-test.false))

pub crowded_spread-crowded_fragment-requires : goal.crowded_spread-crowded_fragment-requires
crowded_spread-crowded_fragment-requires g t c κs within =
    let fragments = c.args.fragments.now in
    let place = c.in-Some.place in
    let nests : option_and_then (deep_from fragments c.args.left) (option_map fragment_set (slice_get (values_of fragments) place)) ≡ None
    = spread_none (deep_from fragments c.args.left) fragments c.as_str.result.now c.args.spread.now.node.fragment_name.node (Some place)
    c.as_str.ensures c.in-Some.ensures.place c.requires.nests in
    (omega (arith, c.decreases), (within, (c.in-Some.ensures.within, (nests, c.requires.long))))

pub crowded_spread-returns-in-None-clause-found : goal.crowded_spread-returns-in-None-clause-found
crowded_spread-returns-in-None-clause-found g t c = λ levels nests clean.
    finds_still c.args.fragments.now c.args.limit (suc levels) c.args.entered.now None _ clean
    (spread_found (crowded_from c.args.fragments.now c.args.limit c.args.left) c.args.fragments.now c.as_str.result.now
    c.args.spread.now.node.fragment_name.node None None c.as_str.ensures c.in-None.ensures.place refl)

pub crowded_spread-returns-in-Some-clause-found : goal.crowded_spread-returns-in-Some-clause-found
crowded_spread-returns-in-Some-clause-found g t c = λ levels nests clean.
    let fragments = c.args.fragments.now in
    let name = c.args.spread.now.node.fragment_name.node in
    let within = spread_none (deep_from fragments levels) fragments c.as_str.result.now name (Some c.in-Some.place) c.as_str.ensures
    c.in-Some.ensures.place nests in
    finds_same fragments c.args.limit (suc levels) c.args.entered.now c.crowded_fragment.new.entered (option_copied
    c.crowded_fragment.result) _ _
    (spread_found (crowded_from fragments c.args.limit c.args.left) fragments c.as_str.result.now name (Some c.in-Some.place) _
    c.as_str.ensures
    c.in-Some.ensures.place refl)
    (c.crowded_fragment.ensures.found levels within clean)

pub crowded_set-returns-clause-found : goal.crowded_set-returns-clause-found
crowded_set-returns-clause-found g t c = λ levels nests clean.
    finds_set c.args.fragments.now c.args.limit c.args.set.now c.as_slice-selections.result.now c.as_slice-selections.ensures c.args.left
    c.args.entered.now c.crowded_selections.new.entered (option_copied c.crowded_selections.result) c.requires.nests
    (λ inner below none. c.crowded_selections.ensures.found inner below none) levels nests clean

pub crowded_set-returns-clause-bound : goal.crowded_set-returns-clause-bound
crowded_set-returns-clause-bound g t c =
    let all : standing_among c.as_slice-selections.result.now ≡ standing c.args.set.now.node
    = ap standing_among c.as_slice-selections.ensures ∙ sym (standing_items c.args.set.now.node) in
    omega (arith, c.crowded_selections.ensures.bound, all)

pub crowded_field-returns-in-Some-clause-found : goal.crowded_field-returns-in-Some-clause-found
crowded_field-returns-in-Some-clause-found g t c = λ levels nests clean.
    let fragments = c.args.fragments.now in
    let field = c.args.field.now in
    let old = c.args.entered.now in
    let new = c.crowded_set.new.entered in
    let found = option_copied c.crowded_set.result in
    let leads : if_any (selections_of (field_set field)) (field_set field) ≡ Some c.in-Some.set.now = sym c.in-Some.ensures in
    let within : deep_from fragments levels c.in-Some.set.now ≡ None
    = subst (λ o. option_and_then (deep_from fragments levels) o ≡ None) leads nests in
    let most : length (out-Field field.node).directives ≤ c.args.limit = omega arith in
    finds_same fragments c.args.limit (suc levels) old new found (crowded_from fragments c.args.limit c.args.left c.in-Some.set.now) _
    (ap (option_and_then (crowded_from fragments c.args.limit c.args.left)) (sym leads) ∙ under_found c.args.limit field _ most)
    (finds_up fragments c.args.limit levels (suc levels) old new found _ (omega arith) clean
    (c.crowded_set.ensures.found levels within
    (clean_less fragments c.args.limit levels (suc levels) old (omega arith) clean)))

pub crowded_selection-returns-in-Field-clause-found : goal.crowded_selection-returns-in-Field-clause-found
crowded_selection-returns-in-Field-clause-found g t c = λ levels nests clean.
    let fragments = c.args.fragments.now in
    let is = as_field c.args.selection.now c.in-Field.field c.in-Field.is in
    subst (λ o. Finds fragments c.args.limit (suc levels) c.args.entered.now c.crowded_field.new.entered (option_copied
    c.crowded_field.result)
    (option_or (crowded_here c.args.limit o) (option_and_then (crowded_from fragments c.args.limit c.args.left) (set_under fragments o))))
    is
    (c.crowded_field.ensures.found levels (subst (λ o. option_and_then (deep_from fragments levels) (set_under fragments o) ≡ None) (sym
    is) nests) clean)

pub crowded_selection-returns-in-FragmentSpread-clause-found : goal.crowded_selection-returns-in-FragmentSpread-clause-found
crowded_selection-returns-in-FragmentSpread-clause-found g t c = λ levels nests clean.
    let fragments = c.args.fragments.now in
    let is = as_spread c.args.selection.now c.in-FragmentSpread.spread c.in-FragmentSpread.is in
    subst (λ o. Finds fragments c.args.limit (suc levels) c.args.entered.now c.crowded_spread.new.entered (option_copied
    c.crowded_spread.result)
    (option_or (crowded_here c.args.limit o) (option_and_then (crowded_from fragments c.args.limit c.args.left) (set_under fragments o))))
    is
    (c.crowded_spread.ensures.found levels (subst (λ o. option_and_then (deep_from fragments levels) (set_under fragments o) ≡ None) (sym
    is) nests) clean)

pub crowded_selection-returns-in-InlineFragment-clause-found : goal.crowded_selection-returns-in-InlineFragment-clause-found
crowded_selection-returns-in-InlineFragment-clause-found g t c = λ levels nests clean.
    let fragments = c.args.fragments.now in
    let is = as_inline c.args.selection.now c.in-InlineFragment.inline c.in-InlineFragment.is in
    subst (λ o. Finds fragments c.args.limit (suc levels) c.args.entered.now c.crowded_set.new.entered (option_copied c.crowded_set.result)
    (option_or (crowded_here c.args.limit o) (option_and_then (crowded_from fragments c.args.limit c.args.left) (set_under fragments o))))
    is
    (finds_up fragments c.args.limit levels (suc levels) c.args.entered.now c.crowded_set.new.entered (option_copied c.crowded_set.result)
    _ (omega arith) clean
    (c.crowded_set.ensures.found levels (subst (λ o. option_and_then (deep_from fragments levels) (set_under fragments o) ≡ None) (sym is)
    nests)
    (clean_less fragments c.args.limit levels (suc levels) c.args.entered.now (omega arith) clean)))

pub crowded_fragment-returns-then-entered-place-clause-found : goal.crowded_fragment-returns-then-entered-place-clause-found
crowded_fragment-returns-then-entered-place-clause-found g t c = λ levels nests clean.
    let fragments = c.args.fragments.now in
    let place = c.args.place in
    let entered = c.args.entered.now in
    let marked : slice_get entered place ≡ Some true
    = slice_get-get_or entered place false (omega (arith, c.requires.within, c.requires.long)) ∙ ap Some c.if-entered-place.true in
    finds_known fragments c.args.limit levels place c.args.left entered marked c.requires.nests nests clean

pub crowded_fragment-returns-clause-found : goal.crowded_fragment-returns-clause-found
crowded_fragment-returns-clause-found g t c = λ levels nests clean.
    let fragments = c.args.fragments.now in
    let place = c.args.place in
    let at = value_at fragments place _ _ c.at.ensures in
    finds_same fragments c.args.limit (suc levels) c.args.entered.now c.crowded_set.new.entered (option_copied c.crowded_set.result) _ _
    (sym (ap (λ o. option_and_then (crowded_from fragments c.args.limit c.args.left) (option_map fragment_set o)) at))
    (finds_within fragments c.args.limit levels place c.args.left _ c.args.entered.now at (fragment_nests fragments c.args.left place _ at
    c.requires.nests)
    (fragment_nests fragments levels place _ at nests) clean c.crowded_set.new.entered (option_copied c.crowded_set.result)
    (λ fewer below none. c.crowded_set.ensures.found fewer below none))

pub crowded_fragment-returns-clause-bound : goal.crowded_fragment-returns-clause-bound
crowded_fragment-returns-clause-bound g t c =
    let fragments = values_of c.args.fragments.now in
    let place = c.args.place in
    omega (
      arith,
      c.crowded_set.ensures.bound,
      entered_counted fragments c.args.entered.now place _ (value_at c.args.fragments.now place _ _ c.at.ensures)
          (omega (arith, c.requires.within, c.requires.long)) c.if-entered-place.false,
    )
