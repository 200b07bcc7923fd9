-- What the loops over values and members read.
use Rattle.std.proofs.Common.{sym, ◌∙◌, refl}
use Rattle.std.proofs.lemmas.Result.{err_from_is_err_and}
use Rattle.gql_tokens.specs.declared.token.Punctuator.TheVariants.{CloseBracket, CloseBrace}
use Rattle.gql_doc.specs.Drafts.{added, with_member}
use Rattle.gql_doc.specs.Drafting.{value_draft, member_draft, values_draft, members_draft}
use Rattle.gql_doc.specs.Reading.{other_than}
use Rattle.gql_doc.proofs.LoopLaws.{loop_goes, loop_stops, loop_ends}
use Rattle.gql_doc.proofs.ValueDrafts.{value_shrinks, member_shrinks}
use Rattle.gql_doc.proofs.values.+value.Goals as goal

pub read_values-values-init : goal.read_values-values-init
unfolding values_draft
read_values-values-init t c = rw c.plain-values.ensures (rw c.new.ensures refl)

pub read_values-returns-in_err-value : goal.read_values-returns-in_err-value
read_values-returns-in_err-value t c =
    let p = err_from_is_err_and c.from_residual.result c.from_residual.ensures.1 in
    rw (p.1, p.2) (loop_stops added (other_than CloseBracket) (value_draft c.args.variables c.args.levels) (value_shrinks c.args.variables c.args.levels) c.values.values _ c.values.cursor _ _ (sym c.is_before.ensures ∙ c.values-test.true) c.in_err-value.ensures c.values.invariant)

pub read_values-values-smaller : goal.read_values-values-smaller
read_values-values-smaller t c = value_shrinks c.args.variables c.args.levels _ _ _ c.in_ok-value.ensures

pub read_values-values-preserved : goal.read_values-values-preserved
read_values-values-preserved t c =
    rw c.in_ok-add_item.ensures (loop_goes added (other_than CloseBracket) (value_draft c.args.variables c.args.levels) (value_shrinks c.args.variables c.args.levels) c.values.values _ c.values.cursor _ _ (sym c.is_before.ensures ∙ c.values-test.true) c.in_ok-value.ensures c.values.invariant)

pub read_values-returns : goal.read_values-returns
read_values-returns t c =
    loop_ends added (other_than CloseBracket) (value_draft c.args.variables c.args.levels) (value_shrinks c.args.variables c.args.levels) _ _ _ (sym c.is_before.ensures ∙ c.values-test.false) c.values.invariant

pub read_members-members-init : goal.read_members-members-init
unfolding members_draft
read_members-members-init t c = rw c.plain-members.ensures (rw c.new.ensures refl)

pub read_members-returns-in_err-member : goal.read_members-returns-in_err-member
read_members-returns-in_err-member t c =
    let p = err_from_is_err_and c.from_residual.result c.from_residual.ensures.1 in
    rw (p.1, p.2) (loop_stops with_member (other_than CloseBrace) (member_draft c.args.variables c.args.levels) (member_shrinks c.args.variables c.args.levels) c.members.members _ c.members.cursor _ _ (sym c.is_before.ensures ∙ c.members-test.true) c.in_err-member.ensures c.members.invariant)

pub read_members-members-smaller : goal.read_members-members-smaller
read_members-members-smaller t c = member_shrinks c.args.variables c.args.levels _ _ _ c.in_ok-member.ensures

pub read_members-members-preserved : goal.read_members-members-preserved
read_members-members-preserved t c =
    rw c.in_ok-add_member.ensures (loop_goes with_member (other_than CloseBrace) (member_draft c.args.variables c.args.levels) (member_shrinks c.args.variables c.args.levels) c.members.members _ c.members.cursor _ _ (sym c.is_before.ensures ∙ c.members-test.true) c.in_ok-member.ensures c.members.invariant)

pub read_members-returns : goal.read_members-returns
read_members-returns t c =
    loop_ends with_member (other_than CloseBrace) (member_draft c.args.variables c.args.levels) (member_shrinks c.args.variables c.args.levels) _ _ _ (sym c.is_before.ensures ∙ c.members-test.false) c.members.invariant
