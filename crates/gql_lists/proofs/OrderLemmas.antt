-- In a total order what ties is the same: of numbers, of texts, and of orders that are taken one
-- after another.
use Rattle.std.proofs.Common.{◌≡◌, Less, Equal, Greater, ℕ, true, List, [], ◌∷◌, refl}
use Rattle.std.proofs.lemmas.Cmp.{ranked, by_ranked}
use Rattle.std.specs.Cmp.Lexicographic.{slice_cmp}
use Rattle.std.specs.Ordering.{is_eq, nat_cmp, ordering_then}
use Rattle.std.specs.declared.cmp.Ordering.{Ordering}

pub number_ties : (x y : ℕ) → nat_cmp x y ≡ Equal → x ≡ y
number_ties x y tied =
    by_ranked _ _ _ (nat_cmp x y) (ranked x y (nat_cmp x y) refl) (λ is below. absurd (let e : Less ≡ Equal = cc in cc)) (λ is same. same) (λ is above. absurd (let e : Greater ≡ Equal = cc in cc))

pub first_ties : (a b : Ordering) → ordering_then a b ≡ Equal → a ≡ Equal
first_ties Less b tied = cc
first_ties Equal b tied = refl
first_ties Greater b tied = cc

pub second_ties : (a b : Ordering) → ordering_then a b ≡ Equal → b ≡ Equal
second_ties Less b tied = cc
second_ties Equal b tied = tied
second_ties Greater b tied = cc

pub text_ties : (xs ys : List ℕ) → slice_cmp nat_cmp xs ys ≡ Equal → xs ≡ ys
text_ties [] [] tied = refl
text_ties [] (y ∷ ys) tied = cc
text_ties (x ∷ xs) [] tied = cc
text_ties (x ∷ xs) (y ∷ ys) tied =
    let here = number_ties x y (first_ties (nat_cmp x y) (slice_cmp nat_cmp xs ys) tied) in
    let behind = text_ties xs ys (second_ties (nat_cmp x y) (slice_cmp nat_cmp xs ys) tied) in
    λ i. here i ∷ behind i

pub is_equal : (o : Ordering) → is_eq o ≡ true → o ≡ Equal
is_equal Less h = cc
is_equal Equal h = refl
is_equal Greater h = cc
