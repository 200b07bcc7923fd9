-- What the loop reads.
use Rattle.std.proofs.Common.{sym, ◌∙◌, refl}
use Rattle.std.proofs.lemmas.Result.{err_from_is_err_and}
use Rattle.gql_tokens.specs.declared.token.Punctuator.TheVariants.{At}
use Rattle.gql_doc.specs.Drafts.{added}
use Rattle.gql_doc.specs.Drafting.{directive_draft, directives_draft}
use Rattle.gql_doc.specs.Reading.{is_sign}
use Rattle.gql_doc.proofs.LoopLaws.{loop_goes, loop_stops, loop_ends}
use Rattle.gql_doc.proofs.ValueDrafts.{directive_shrinks}
use Rattle.gql_doc.proofs.arguments.read_directives.Goals as goal

pub directives-init : goal.directives-init
unfolding directives_draft
directives-init c = rw c.plain-directives.ensures (rw c.new.ensures refl)

pub returns-in_err-directive : goal.returns-in_err-directive
returns-in_err-directive c =
    let p = err_from_is_err_and c.from_residual.result c.from_residual.ensures.1 in
    rw (p.1, p.2) (loop_stops added (is_sign At) (directive_draft c.args.variables) (directive_shrinks c.args.variables) c.directives.directives _ c.directives.cursor _ _ (sym c.is_at.ensures ∙ c.directives-test.true) c.in_err-directive.ensures c.directives.invariant)

pub directives-smaller : goal.directives-smaller
directives-smaller c = directive_shrinks c.args.variables _ _ _ c.in_ok-directive.ensures

pub directives-preserved : goal.directives-preserved
directives-preserved c =
    rw c.in_ok-add_item.ensures (loop_goes added (is_sign At) (directive_draft c.args.variables) (directive_shrinks c.args.variables) c.directives.directives _ c.directives.cursor _ _ (sym c.is_at.ensures ∙ c.directives-test.true) c.in_ok-directive.ensures c.directives.invariant)

pub returns : goal.returns
returns c = loop_ends added (is_sign At) (directive_draft c.args.variables) (directive_shrinks c.args.variables) _ _ _ (sym c.is_at.ensures ∙ c.directives-test.false) c.directives.invariant
