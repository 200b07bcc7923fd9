use Rattle.std.proofs.Common.{◌≡◌, ◌≤◌, ◌+◌, ◌-◌, ap, subst, Some, None, length, get_or, refl, suc, sym, ◌∙◌, option_and_then, arith}
use Rattle.std.proofs.lemmas.Option.{slice_get-get_or, slice_get_read}
use Rattle.gql_doc.specs.declared.document.InlineFragment.{out-InlineFragment}
use Rattle.gql_doc.specs.declared.document.Positioned.{Positioned}
use Rattle.gql_doc.specs.declared.document.Selection.{Selection}
use Rattle.gql_doc.specs.Depth.{deep_from, field_set, selections_of, set_beneath}
use Rattle.gql_base.specs.Pairs.{values_of}
use Rattle.gql_admit.specs.Counted.{budget, unless_found}
use Rattle.gql_select.specs.Standing.{count_of, standing, standing_among}
use Rattle.gql_admit.proofs.CountedLemmas.{deeper_counted, fragment_counted, fragment_stopped, least_low, none_found, set_found, stays_itself, stays_on, stays_put}
use Rattle.gql_select.proofs.StandingLemmas.{count_field, count_inline, left_more, standing_items}
use Rattle.gql_admit.proofs.DepthLemmas.{fine_known, fine_put, fragment_found}
use Rattle.gql_lists.proofs.FirstLemmas.{first_here, first_more}
use Rattle.gql_fields.proofs.PairLemmas.{value_at}
use Rattle.gql_admit.proofs.WalkLemmas.{spread_found}
use Rattle.gql_admit.proofs.depth.+deep.Goals as goal

pub deep_fragment-returns-then-suffices-clause-found :
    goal.deep_fragment-returns-then-suffices-clause-found
deep_fragment-returns-then-suffices-clause-found g t c =
    fine_known c.args.fragments.now c.args.fine.now c.args.place c.args.left (get_or c.args.fine.now c.args.place None) c.suffices.result
    c.requires.fine
    (slice_get-get_or c.args.fine.now c.args.place None (omega (arith, c.requires.fine.long, c.requires.within)))
    c.suffices.ensures c.if-suffices.true

pub deep_fragment-returns-in-Some-clause-found : goal.deep_fragment-returns-in-Some-clause-found
deep_fragment-returns-in-Some-clause-found g t c =
    fragment_found c.args.fragments.now c.args.left c.args.place _ _ _ c.at.ensures c.in-Some.ensures.found

pub deep_fragment-returns-in-None-clause-found : goal.deep_fragment-returns-in-None-clause-found
deep_fragment-returns-in-None-clause-found g t c =
    fragment_found c.args.fragments.now c.args.left c.args.place _ _ _ c.at.ensures c.in-None.ensures.found

pub deep_fragment-returns-in-None-clause-fine : goal.deep_fragment-returns-in-None-clause-fine
deep_fragment-returns-in-None-clause-fine g t c =
    let now = c.deep_set.new.fine in
    let place = c.args.place in
    fine_put c.args.fragments.now now place c.args.left c.fewest.result (get_or now place None) _ c.in-None.ensures.fine
    (value_at c.args.fragments.now place _ _ c.at.ensures) c.in-None.ensures.found
    (slice_get-get_or now place None (omega (arith, c.in-None.ensures.fine.long, c.requires.within))) c.fewest.ensures.known

pub deep_selections-returns-then-is_some-clause-found :
    goal.deep_selections-returns-then-is_some-clause-found
deep_selections-returns-then-is_some-clause-found g t c =
    first_here
    (λ (selection : Positioned Selection). option_and_then (deep_from c.args.fragments.now c.args.left) (set_beneath c.args.fragments.now
    selection))
    c.args.selections.now c.loop-selection.selection-index c.selection-item.result c.deep_selection-found.result c.is_some.result
    c.loop-selection.invariant.before
    (slice_get_read c.args.selections.now (length c.args.selections.now) c.loop-selection.selection-index c.selection-item.result refl
    c.loop-selection-test.true c.selection-item.is)
    c.deep_selection-found.ensures.found c.is_some.ensures c.if-is_some.true

pub deep_selections-loop-selection-preserved : goal.deep_selections-loop-selection-preserved
deep_selections-loop-selection-preserved g t c = record {
  before =
      first_more
      (λ (selection : Positioned Selection). option_and_then (deep_from c.args.fragments.now c.args.left) (set_beneath c.args.fragments.now
      selection))
      c.args.selections.now c.loop-selection.selection-index c.selection-item.result c.deep_selection-found.result c.is_some.result
      c.loop-selection.invariant.before
      (slice_get_read c.args.selections.now (length c.args.selections.now) c.loop-selection.selection-index c.selection-item.result refl
      c.loop-selection-test.true c.selection-item.is)
      c.deep_selection-found.ensures.found c.is_some.ensures c.if-is_some.false;
  fine = c.deep_selection-found.ensures.fine;
  known = stays_on c.args.fine.now c.loop-selection.fine c.deep_selection-found.new.fine c.loop-selection.invariant.known
      c.deep_selection-found.ensures.known;
  bound =
      omega (
        arith,
        c.deep_selection-found.ensures.bound,
        c.loop-selection.invariant.bound,
        none_found c.deep_selection-found.result c.is_some.result
            (budget (suc c.args.left) (values_of c.args.fragments.now) c.deep_selection-found.new.fine) c.is_some.ensures c.if-is_some.false,
        left_more (λ (selection : Positioned Selection). count_of selection.node) c.args.selections.now c.loop-selection.selection-index
            c.selection-item.result
            (slice_get_read c.args.selections.now (length c.args.selections.now) c.loop-selection.selection-index c.selection-item.result refl
            c.loop-selection-test.true c.selection-item.is),
      );
}

pub deep_selections-returns-then-is_some-clause-bound :
    goal.deep_selections-returns-then-is_some-clause-bound
deep_selections-returns-then-is_some-clause-bound g t c =
    omega (
      arith,
      c.deep_selection-found.ensures.bound,
      c.loop-selection.invariant.bound,
      left_more (λ (selection : Positioned Selection). count_of selection.node) c.args.selections.now c.loop-selection.selection-index
          c.selection-item.result
          (slice_get_read c.args.selections.now (length c.args.selections.now) c.loop-selection.selection-index c.selection-item.result refl
          c.loop-selection-test.true c.selection-item.is),
    )

pub deep_spread-returns-in-None-clause-found : goal.deep_spread-returns-in-None-clause-found
deep_spread-returns-in-None-clause-found g t c =
    spread_found (deep_from c.args.fragments.now c.args.left) c.args.fragments.now c.as_str.result.now
    c.args.spread.now.node.fragment_name.node None None
    c.as_str.ensures c.in-None.ensures.place refl

pub deep_spread-returns-in-Some-clause-found : goal.deep_spread-returns-in-Some-clause-found
deep_spread-returns-in-Some-clause-found g t c =
    spread_found (deep_from c.args.fragments.now c.args.left) c.args.fragments.now c.as_str.result.now
    c.args.spread.now.node.fragment_name.node
    (Some c.in-Some.place) c.deep_fragment.result c.as_str.ensures c.in-Some.ensures.place c.deep_fragment.ensures.found

pub deep_fragment-returns-then-suffices-clause-known :
    goal.deep_fragment-returns-then-suffices-clause-known
deep_fragment-returns-then-suffices-clause-known g t c = stays_itself c.args.fine.now

pub deep_fragment-returns-in-Some-clause-bound : goal.deep_fragment-returns-in-Some-clause-bound
deep_fragment-returns-in-Some-clause-bound g t c =
    omega (
      arith,
      fragment_stopped (values_of c.args.fragments.now) c.args.place c.args.left _ (value_at c.args.fragments.now c.args.place _ _ c.at.ensures)
          c.args.fine.now c.args.steps.now c.deep_set.new.steps (sym c.suffices.ensures ∙ c.if-suffices.false) (omega (arith, c.in-Some.ensures.bound)),
    )

pub deep_fragment-returns-in-None-clause-known : goal.deep_fragment-returns-in-None-clause-known
deep_fragment-returns-in-None-clause-known g t c =
    let now = c.deep_set.new.fine in
    stays_on c.args.fine.now now _ c.in-None.ensures.known
    (stays_put now c.args.place c.fewest.result (least_low (get_or now c.args.place None) c.fewest.result c.args.left c.fewest.ensures.known))

pub deep_fragment-returns-in-None-clause-bound : goal.deep_fragment-returns-in-None-clause-bound
deep_fragment-returns-in-None-clause-bound g t c =
    let now = c.deep_set.new.fine in
    let place = c.args.place in
    fragment_counted (values_of c.args.fragments.now) place c.args.left _ (value_at c.args.fragments.now place _ _ c.at.ensures) c.args.fine.now now
    c.fewest.result c.args.steps.now c.deep_set.new.steps (sym c.suffices.ensures ∙ c.if-suffices.false)
    (omega (arith, c.in-None.ensures.fine.long, c.requires.within)) c.fewest.ensures.left
    (least_low (get_or now place None) c.fewest.result c.args.left c.fewest.ensures.known) c.in-None.ensures.known c.in-None.ensures.bound

pub deep_set-returns-clause-bound : goal.deep_set-returns-clause-bound
deep_set-returns-clause-bound g t c =
    let fragments = values_of c.args.fragments.now in
    let left : suc (c.args.left - 1) ≡ c.args.left = omega arith in
    let all : standing_among c.as_slice.result.now ≡ standing c.args.set.now.node
    = ap standing_among c.as_slice.ensures ∙ sym (standing_items c.args.set.now.node) in
    subst (λ n. c.deep_selections.new.steps + unless_found c.deep_selections.result (budget n fragments c.deep_selections.new.fine)
    ≤ c.args.steps.now + (standing c.args.set.now.node + budget n fragments c.args.fine.now)) left
    (omega (arith, c.deep_selections.ensures.bound, all))

pub deep_selection-returns-in-Some-clause-bound : goal.deep_selection-returns-in-Some-clause-bound
deep_selection-returns-in-Some-clause-bound g t c =
    let field = c.in-Field.field in
    let its : standing c.in-Some.set.now.node ≡ standing (field_set field).node
    = set_found (selections_of (field_set field)) (field_set field) c.in-Some.set.now c.in-Some.ensures in
    omega (
      arith,
      its,
      c.tick.ensures,
      count_field c.args.selection.now field c.in-Field.is,
      deeper_counted (values_of c.args.fragments.now) c.args.fine.now c.deep_set.new.fine c.args.left c.tick.new.self c.deep_set.new.steps
          (standing c.in-Some.set.now.node) c.deep_set.result c.deep_set.ensures.known c.deep_set.ensures.bound,
    )

pub deep_selection-returns-in-InlineFragment-clause-bound : goal.deep_selection-returns-in-InlineFragment-clause-bound
deep_selection-returns-in-InlineFragment-clause-bound g t c =
    let inline = c.in-InlineFragment.inline in
    let walked = c.deep_set-in-InlineFragment in
    omega (
      arith,
      c.tick.ensures,
      count_inline c.args.selection.now inline c.in-InlineFragment.is,
      deeper_counted (values_of c.args.fragments.now) c.args.fine.now walked.new.fine c.args.left c.tick.new.self walked.new.steps
          (standing (out-InlineFragment inline.node).selection_set.node) walked.result walked.ensures.known walked.ensures.bound,
    )
