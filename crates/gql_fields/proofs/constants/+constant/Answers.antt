use Rattle.std.proofs.Common.{arith, ℕ, Bool, List, refl, sym, ◌∙◌, length}
use Rattle.std.proofs.lemmas.Option.{slice_get_read}
use Rattle.gql_doc.specs.declared.document.DocValue.{DocValue}
use Rattle.gql_fields.specs.UsePlaces.{constant_member, is_constant}
use Rattle.gql_lists.proofs.AllLemmas.{all_fails, all_mapped, all_more, all_passed}
use Rattle.gql_fields.proofs.constants.+constant.Goals as goal

pub items_are_constant-returns-then-not-is_constant : goal.items_are_constant-returns-then-not-is_constant
items_are_constant-returns-then-not-is_constant t c =
    all_fails is_constant c.args.items.now c.loop-value.value-index _ c.is_constant.result
    (slice_get_read c.args.items.now (length c.args.items.now) c.loop-value.value-index c.value-item.result refl (omega arith)
    c.value-item.is)
    c.is_constant.ensures c.if-not-is_constant.true
    ∙ sym (all_mapped (λ (constant : Bool). constant) is_constant c.args.items.now)

pub items_are_constant-loop-value-preserved : goal.items_are_constant-loop-value-preserved
items_are_constant-loop-value-preserved t c =
    all_more is_constant c.args.items.now c.loop-value.value-index _ c.is_constant.result c.loop-value.invariant
    (slice_get_read c.args.items.now (length c.args.items.now) c.loop-value.value-index c.value-item.result refl (omega arith)
    c.value-item.is)
    c.is_constant.ensures c.if-not-is_constant.false

pub items_are_constant-returns : goal.items_are_constant-returns
items_are_constant-returns t c =
    all_passed is_constant c.args.items.now c.loop-value.value-index c.loop-value.invariant (omega arith)
    ∙ sym (all_mapped (λ (constant : Bool). constant) is_constant c.args.items.now)

pub members_are_constant-returns-then-not-is_constant : goal.members_are_constant-returns-then-not-is_constant
members_are_constant-returns-then-not-is_constant t c =
    all_fails (λ (m : List ℕ × DocValue). is_constant m.1) c.args.members.now c.loop-at.at _ c.is_constant.result c.at.ensures
    c.is_constant.ensures
    c.if-not-is_constant.true
    ∙ sym (all_mapped (λ (m : List ℕ × Bool). m.1) constant_member c.args.members.now)

pub members_are_constant-loop-at-preserved : goal.members_are_constant-loop-at-preserved
members_are_constant-loop-at-preserved t c =
    all_more (λ (m : List ℕ × DocValue). is_constant m.1) c.args.members.now c.loop-at.at _ c.is_constant.result c.loop-at.invariant
    c.at.ensures
    c.is_constant.ensures c.if-not-is_constant.false

pub members_are_constant-returns : goal.members_are_constant-returns
members_are_constant-returns t c =
    all_passed (λ (m : List ℕ × DocValue). is_constant m.1) c.args.members.now c.loop-at.at c.loop-at.invariant (omega arith)
    ∙ sym (all_mapped (λ (m : List ℕ × Bool). m.1) constant_member c.args.members.now)
