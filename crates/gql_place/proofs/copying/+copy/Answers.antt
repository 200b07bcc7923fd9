use Rattle.std.proofs.Common.{◌≡◌, List, ℕ, [], ◌∷◌, ◌++◌, take, IfOk, ap, sym, ◌∙◌, subst, arith}
use lib.Seq.{take_all}
use Rattle.std.specs.List.{zip}
use Rattle.gql_base.specs.Pairs.{names_of, values_of}
use Rattle.gql_base.proofs.PairLemmas.{values_taken, zipped_again}
use Rattle.gql_place.specs.declared.place.Place.{Place}
use Rattle.gql_place.proofs.copying.+copy.Goals as goal

pub copy_members-loop-index-preserved : goal.copy_members-loop-index-preserved
copy_members-loop-index-preserved t c =
    let taken = values_taken c.args.members.now c.loop-index.index c.at.result.0.now c.at.result.1.now c.at.ensures in
    c.in_ok-push.ensures.items ∙ (λ i. c.loop-index.invariant i ++ c.in_ok-copy_place.ensures i ∷ []) ∙ sym taken

pub copy_members-returns : goal.copy_members-returns
copy_members-returns t c =
    let members = c.args.members.now in
    let all : take c.loop-index.index members ≡ members = take_all c.loop-index.index members (omega (arith, c.loop-index-test.false, c.len-index-end.ensures.length)) in
    let whole : zip (names_of members) c.loop-index.places.items ≡ members
    = ap (zip (names_of members)) (c.loop-index.invariant ∙ ap values_of all) ∙ zipped_again members in
    let P : List (List ℕ × Place) → Type 0 = λ ps. IfOk c.with_values.result (λ copies. copies ≡ ps) in
    subst P whole c.with_values.ensures
