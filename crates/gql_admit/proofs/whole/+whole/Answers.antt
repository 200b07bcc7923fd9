use Rattle.std.proofs.Common.{IsTrue, length, refl, arith, subst, sym}
use Rattle.std.proofs.lemmas.Option.{slice_get_read}
use Rattle.gql_admit.specs.Whole.{AreWhole, IsWhole}
use Rattle.gql_admit.proofs.WholeLemmas.{field_whole, inline_whole, set_whole, whole_begins, whole_more, whole_passed}
use Rattle.gql_admit.proofs.whole.+whole.Goals as goal

pub are_whole-loop-selection-init : goal.are_whole-loop-selection-init
are_whole-loop-selection-init t c = whole_begins c.args.selections.now

pub are_whole-loop-selection-preserved : goal.are_whole-loop-selection-preserved
are_whole-loop-selection-preserved t c =
    let so : IsTrue c.is_whole.result = cc in
    whole_more c.args.selections.now c.loop-selection.selection-index _ c.loop-selection.invariant
    (slice_get_read c.args.selections.now (length c.args.selections.now) c.loop-selection.selection-index c.selection-item.result refl (omega arith) c.selection-item.is)
    (c.is_whole.ensures so)

pub are_whole-returns : goal.are_whole-returns
are_whole-returns t c = λ yes.
    whole_passed c.args.selections.now c.loop-selection.selection-index c.loop-selection.invariant (omega arith)

pub is_set_whole-returns : goal.is_set_whole-returns
is_set_whole-returns t c = λ yes. set_whole c.args.set.now (subst AreWhole c.as_slice.ensures (c.are_whole.ensures yes))

pub is_whole-returns-then-is_empty : goal.is_whole-returns-then-is_empty
is_whole-returns-then-is_empty t c = λ yes.
    subst IsWhole (sym c.in-Field.is) (field_whole c.in-Field.field (c.is_empty.ensures.0 c.if-is_empty.true) (c.is_set_whole.ensures yes))

pub is_whole-returns-then-is_empty-2 : goal.is_whole-returns-then-is_empty-2
is_whole-returns-then-is_empty-2 t c = λ yes.
    subst IsWhole (sym c.in-InlineFragment.is)
    (inline_whole c.in-InlineFragment.inline (c.is_empty-in-InlineFragment.ensures.0 c.if-is_empty-2.true) (c.is_set_whole-then-is_empty-2.ensures yes))
