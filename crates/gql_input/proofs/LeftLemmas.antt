-- What is left of a list from a place on.
use Rattle.std.proofs.Common.{◌≡◌, ℕ, zero, suc, ◌+◌, ◌≤◌, List, [], ◌∷◌, Some, drop, length, slice_get, refl, ap, ◌∙◌, arith}

pub next_left : {A : Type 0} (xs : List A) (place : ℕ) (x : A) → slice_get xs place ≡ Some x → drop place xs ≡ x ∷ drop (place + 1) xs
next_left [] place x at = cc
next_left (y ∷ ys) zero x at = (let same : y ≡ x = cc in ap (λ z. z ∷ ys) same)
next_left (y ∷ ys) (suc place) x at = next_left ys place x at ∙ ap (λ n. x ∷ drop n (y ∷ ys)) {x = suc (place + 1)} {y = suc place + 1} (omega arith)

pub none_left : {A : Type 0} (xs : List A) (place : ℕ) → length xs ≤ place → drop place xs ≡ []
none_left [] zero past = refl
none_left [] (suc place) past = refl
none_left (y ∷ ys) zero past = absurd (omega arith)
none_left (y ∷ ys) (suc place) past = none_left ys place (omega arith)
