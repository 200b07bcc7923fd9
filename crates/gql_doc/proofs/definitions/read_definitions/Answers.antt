-- What the loop reads.
use Rattle.std.proofs.Common.{sym, ◌∙◌}
use Rattle.std.proofs.lemmas.Result.{err_from_is_err_and}
use Rattle.gql_doc.specs.Drafting.{definition_draft, definitions_draft}
use Rattle.gql_doc.specs.Gathered.{gathered, nothing_gathered}
use Rattle.gql_doc.specs.Reading.{before_end}
use Rattle.gql_doc.proofs.DefinitionDrafts.{definition_shrinks}
use Rattle.gql_doc.proofs.LoopLaws.{loop_first, loop_fails, loop_goes, loop_stops, loop_ends}
use Rattle.gql_doc.proofs.definitions.read_definitions.Goals as goal

pub more-init : goal.more-init
unfolding definitions_draft
more-init c =
    rw (c.in_ok-add.ensures, c.new-definitions.ensures) (loop_first gathered before_end definition_draft (gathered nothing_gathered) c.in_ok-first.first c.args.cursor.now _ c.in_ok-first.ensures)

pub returns-in_err-first : goal.returns-in_err-first
unfolding definitions_draft
returns-in_err-first c =
    let p = err_from_is_err_and c.from_residual.result c.from_residual.ensures.1 in
    rw (p.1, p.2) (loop_fails gathered before_end definition_draft (gathered nothing_gathered) _ c.args.cursor.now _ c.in_err-first.ensures)

pub returns-in_err-definition : goal.returns-in_err-definition
returns-in_err-definition c =
    let p = err_from_is_err_and c.from_residual-in_err-definition.result c.from_residual-in_err-definition.ensures.1 in
    rw (p.1, p.2) (loop_stops gathered before_end definition_draft definition_shrinks c.more.definitions _ c.more.cursor _ _ (sym c.is_before_end.ensures ∙ c.more-test.true) c.in_err-definition.ensures c.more.invariant)

pub more-smaller : goal.more-smaller
more-smaller c = definition_shrinks _ _ _ c.in_ok-definition.ensures

pub more-preserved : goal.more-preserved
more-preserved c =
    rw c.in_ok-add-2.ensures (loop_goes gathered before_end definition_draft definition_shrinks c.more.definitions _ c.more.cursor _ _ (sym c.is_before_end.ensures ∙ c.more-test.true) c.in_ok-definition.ensures c.more.invariant)

pub returns : goal.returns
returns c = loop_ends gathered before_end definition_draft definition_shrinks _ _ _ (sym c.is_before_end.ensures ∙ c.more-test.false) c.more.invariant
