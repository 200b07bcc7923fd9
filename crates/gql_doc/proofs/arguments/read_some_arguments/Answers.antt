-- What the loop reads.
use Rattle.std.proofs.Common.{sym, ◌∙◌}
use Rattle.std.proofs.lemmas.Result.{err_from_is_err_and}
use Rattle.gql_tokens.specs.declared.token.Punctuator.TheVariants.{CloseParen}
use Rattle.gql_doc.specs.Drafts.{added, first_item}
use Rattle.gql_doc.specs.Drafting.{argument_draft, some_arguments_draft}
use Rattle.gql_doc.specs.Reading.{other_than}
use Rattle.gql_doc.proofs.LoopLaws.{loop_first, loop_fails, loop_goes, loop_stops, loop_ends}
use Rattle.gql_doc.proofs.ValueDrafts.{argument_shrinks}
use Rattle.gql_doc.proofs.arguments.read_some_arguments.Goals as goal

pub more-init : goal.more-init
unfolding some_arguments_draft
more-init c = rw c.in_ok-arguments.ensures (loop_first added (other_than CloseParen) (argument_draft c.args.variables) first_item c.in_ok-first.first c.args.cursor.now _ c.in_ok-first.ensures)

pub returns-in_err-first : goal.returns-in_err-first
unfolding some_arguments_draft
returns-in_err-first c =
    let p = err_from_is_err_and c.from_residual.result c.from_residual.ensures.1 in
    rw (p.1, p.2) (loop_fails added (other_than CloseParen) (argument_draft c.args.variables) first_item _ c.args.cursor.now _ c.in_err-first.ensures)

pub returns-in_err-argument : goal.returns-in_err-argument
returns-in_err-argument c =
    let p = err_from_is_err_and c.from_residual-in_err-argument.result c.from_residual-in_err-argument.ensures.1 in
    rw (p.1, p.2) (loop_stops added (other_than CloseParen) (argument_draft c.args.variables) (argument_shrinks c.args.variables) c.more.arguments _ c.more.cursor _ _ (sym c.is_before.ensures ∙ c.more-test.true) c.in_err-argument.ensures c.more.invariant)

pub more-smaller : goal.more-smaller
more-smaller c = (argument_shrinks c.args.variables) _ _ _ c.in_ok-argument.ensures

pub more-preserved : goal.more-preserved
more-preserved c =
    rw c.in_ok-add_item.ensures (loop_goes added (other_than CloseParen) (argument_draft c.args.variables) (argument_shrinks c.args.variables) c.more.arguments _ c.more.cursor _ _ (sym c.is_before.ensures ∙ c.more-test.true) c.in_ok-argument.ensures c.more.invariant)

pub returns : goal.returns
returns c = loop_ends added (other_than CloseParen) (argument_draft c.args.variables) (argument_shrinks c.args.variables) _ _ _ (sym c.is_before.ensures ∙ c.more-test.false) c.more.invariant
