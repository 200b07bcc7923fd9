use Rattle.std.proofs.Common.{◌≡◌, List, ℕ, [], ◌∷◌, ◌++◌, map, take, IfOk, ap, refl, sym, ◌∙◌, subst, arith}
use lib.Seq.{take_all}
use Rattle.std.proofs.lemmas.List.{map-append}
use Rattle.std.specs.List.{zip}
use Rattle.gql_base.specs.declared.value.Value.{Value}
use Rattle.gql_base.specs.Pairs.{names_of, values_of}
use Rattle.gql_base.proofs.PairLemmas.{values_taken}
use Rattle.gql_doc.specs.declared.document.DocValue.{DocValue}
use Rattle.gql_doc.specs.Drafts.{constant_in, constant_member}
use Rattle.gql_doc.proofs.constants.+constant.Goals as goal

constants_zipped : (ms : List (List ℕ × DocValue)) → zip (names_of ms) (map constant_in (values_of ms)) ≡ map constant_member ms
constants_zipped [] = refl
constants_zipped (m ∷ ms) = ap (λ rest. (m.0, constant_in m.1) ∷ rest) (constants_zipped ms)

pub members_of-loop-place-preserved : goal.members_of-loop-place-preserved
members_of-loop-place-preserved t c =
    let taken = values_taken c.args.members.now c.loop-place.place c.at.result.0.now c.at.result.1.now c.at.ensures in
    c.in_ok-push.ensures.items ∙ (λ i. c.loop-place.invariant i ++ c.in_ok-constant_of.ensures i ∷ [])
    ∙ sym (ap (map constant_in) taken ∙ map-append constant_in (values_of (take c.loop-place.place c.args.members.now)) (c.at.result.1.now ∷ []))

pub members_of-returns : goal.members_of-returns
members_of-returns t c =
    let members = c.args.members.now in
    let all : take c.loop-place.place members ≡ members = take_all c.loop-place.place members (omega (arith, c.loop-place-test.false, c.len-place-end.ensures.length)) in
    let whole : zip (names_of members) c.loop-place.constants.items ≡ map constant_member members
    = ap (zip (names_of members)) (c.loop-place.invariant ∙ ap (λ ms. map constant_in (values_of ms)) all) ∙ constants_zipped members in
    let P : List (List ℕ × Value) → Type 0 = λ ps. IfOk c.with_values.result (λ copies. copies ≡ ps) in
    subst P whole c.with_values.ensures
