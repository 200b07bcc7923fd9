-- What the loop over selections reads.
use Rattle.std.proofs.Common.{sym, ◌∙◌}
use Rattle.std.proofs.lemmas.Result.{err_from_is_err_and}
use Rattle.gql_tokens.specs.declared.token.Punctuator.TheVariants.{CloseBrace}
use Rattle.gql_doc.specs.Drafts.{added, first_item}
use Rattle.gql_doc.specs.Drafting.{selection_draft, selections_draft}
use Rattle.gql_doc.specs.Reading.{other_than}
use Rattle.gql_doc.proofs.LoopLaws.{loop_first, loop_fails, loop_goes, loop_stops, loop_ends}
use Rattle.gql_doc.proofs.SelectionDrafts.{selection_shrinks}
use Rattle.gql_doc.proofs.selections.+set.Goals as goal

pub read_selections-more-init : goal.read_selections-more-init
unfolding selections_draft
read_selections-more-init t c =
    rw c.in_ok-selections.ensures (loop_first added (other_than CloseBrace) (selection_draft c.args.levels) first_item c.in_ok-first.first c.args.cursor.now _ c.in_ok-first.ensures)

pub read_selections-returns-in_err-first : goal.read_selections-returns-in_err-first
unfolding selections_draft
read_selections-returns-in_err-first t c =
    let p = err_from_is_err_and c.from_residual.result c.from_residual.ensures.1 in
    rw (p.1, p.2) (loop_fails added (other_than CloseBrace) (selection_draft c.args.levels) first_item _ c.args.cursor.now _ c.in_err-first.ensures)

pub read_selections-returns-in_err-selection : goal.read_selections-returns-in_err-selection
read_selections-returns-in_err-selection t c =
    let p = err_from_is_err_and c.from_residual-in_err-selection.result c.from_residual-in_err-selection.ensures.1 in
    rw (p.1, p.2) (loop_stops added (other_than CloseBrace) (selection_draft c.args.levels) (selection_shrinks c.args.levels) c.more.selections _ c.more.cursor _ _ (sym c.is_before.ensures ∙ c.more-test.true) c.in_err-selection.ensures c.more.invariant)

pub read_selections-more-smaller : goal.read_selections-more-smaller
read_selections-more-smaller t c = selection_shrinks c.args.levels _ _ _ c.in_ok-selection.ensures

pub read_selections-more-preserved : goal.read_selections-more-preserved
read_selections-more-preserved t c =
    rw c.in_ok-add_item.ensures (loop_goes added (other_than CloseBrace) (selection_draft c.args.levels) (selection_shrinks c.args.levels) c.more.selections _ c.more.cursor _ _ (sym c.is_before.ensures ∙ c.more-test.true) c.in_ok-selection.ensures c.more.invariant)

pub read_selections-returns : goal.read_selections-returns
read_selections-returns t c =
    loop_ends added (other_than CloseBrace) (selection_draft c.args.levels) (selection_shrinks c.args.levels) _ _ _ (sym c.is_before.ensures ∙ c.more-test.false) c.more.invariant
