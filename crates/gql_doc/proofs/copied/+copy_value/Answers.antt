use Rattle.std.proofs.Common.{◌≡◌, List, ℕ, [], ◌∷◌, ◌++◌, take, IfOk, ap, sym, ◌∙◌, subst, arith}
use lib.Seq.{take_all}
use Rattle.std.specs.List.{zip}
use Rattle.gql_doc.specs.declared.document.DocValue.{DocValue}
use Rattle.gql_base.specs.Pairs.{names_of, values_of}
use Rattle.gql_base.proofs.PairLemmas.{values_taken, zipped_again}
use Rattle.gql_doc.proofs.copied.+copy_value.Goals as goal

pub copy_members-loop-place-preserved : goal.copy_members-loop-place-preserved
copy_members-loop-place-preserved t c =
    let taken = values_taken c.args.members.now c.loop-place.place c.at.result.0.now c.at.result.1.now c.at.ensures in
    c.in_ok-push.ensures.items ∙ (λ i. c.loop-place.invariant i ++ c.in_ok-copy_value.ensures i ∷ []) ∙ sym taken

pub copy_members-returns : goal.copy_members-returns
copy_members-returns t c =
    let members = c.args.members.now in
    let all : take c.loop-place.place members ≡ members = take_all c.loop-place.place members (omega (arith, c.loop-place-test.false, c.len-place-end.ensures.length)) in
    let whole : zip (names_of members) c.loop-place.values.items ≡ members
    = ap (zip (names_of members)) (c.loop-place.invariant ∙ ap values_of all) ∙ zipped_again members in
    let P : List (List ℕ × DocValue) → Type 0 = λ ps. IfOk c.with_values.result (λ copies. copies ≡ ps) in
    subst P whole c.with_values.ensures
