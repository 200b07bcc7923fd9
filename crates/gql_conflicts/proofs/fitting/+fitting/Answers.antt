use Rattle.std.proofs.Common.{rules, ◌≡◌, ◌≤◌, IsTrue, length, ap, ◌∙◌, arith}
use Rattle.gql_doc.specs.declared.document.Selection.{out-Selection, the_lemmas}
use Rattle.gql_doc.specs.declared.document.Selection.TheOpen.{Selection-F}
use Rattle.gql_conflicts.specs.Proposals.{fits}
use Rattle.gql_conflicts.proofs.BelowLemmas.{each_passed}
use Rattle.gql_conflicts.proofs.FittingLemmas.{field_has, field_is, inline_is, spread_is}
use Rattle.gql_conflicts.proofs.fitting.+fitting.Goals as goal

pub all_fit-returns : goal.all_fit-returns
all_fit-returns t c =
    let over : length c.args.selections.now ≤ c.loop-selection.selection-index = omega arith in
    λ so. each_passed (λ selection. fits c.args.fragments.now c.args.proposal.now c.args.class selection.node) c.args.selections.now c.loop-selection.selection-index
    c.loop-selection.invariant over

pub field_fits-returns-else-not-branch : goal.field_fits-returns-else-not-branch
field_fits-returns-else-not-branch t c =
    let so : IsTrue c.in_ok-stands_for-in-Some.field-0 = cc in
    field_has c.args.fragments.now c.args.proposal.now c.args.class c.all_fit.result c.args.field.now c.in-Some.entry c.as_slice-selections.result.now c.in-Some.ensures
    (c.in_ok-stands_for-in-Some.ensures so) c.as_slice-selections.ensures c.all_fit.ensures

pub selection_fits-returns-in-Field : goal.selection_fits-returns-in-Field
selection_fits-returns-in-Field t c =
    let opened : out-Selection c.args.selection.now ≡ Selection-F.Field c.in-Field.field = ap out-Selection c.in-Field.is ∙ search (rules, the_lemmas) in
    field_is c.args.fragments.now c.args.proposal.now c.args.class c.field_fits.result c.args.selection.now c.in-Field.field opened c.field_fits.ensures

pub selection_fits-returns-in-FragmentSpread : goal.selection_fits-returns-in-FragmentSpread
selection_fits-returns-in-FragmentSpread t c =
    let opened : out-Selection c.args.selection.now ≡ Selection-F.FragmentSpread c.in-FragmentSpread.spread = ap out-Selection c.in-FragmentSpread.is ∙ search (rules, the_lemmas) in
    spread_is c.args.fragments.now c.args.proposal.now c.args.class c.args.selection.now c.in-FragmentSpread.spread c.as_str-name.result.now c.name_fits.result opened c.as_str-name.ensures
    c.name_fits.ensures

pub selection_fits-returns-in-InlineFragment : goal.selection_fits-returns-in-InlineFragment
selection_fits-returns-in-InlineFragment t c =
    let opened : out-Selection c.args.selection.now ≡ Selection-F.InlineFragment c.in-InlineFragment.inline = ap out-Selection c.in-InlineFragment.is ∙ search (rules, the_lemmas) in
    inline_is c.args.fragments.now c.args.proposal.now c.args.class c.all_fit.result c.args.selection.now c.in-InlineFragment.inline c.as_slice-selections.result.now opened
    c.as_slice-selections.ensures c.all_fit.ensures
