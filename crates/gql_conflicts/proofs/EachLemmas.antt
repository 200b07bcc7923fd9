-- What holds of each item of a list.
use Rattle.std.proofs.Common.{◌≡◌, zero, suc, List, [], ◌∷◌, ◌++◌, refl, ap, ◌∙◌, arith}
use Rattle.std.specs.List.{AllByRecursion, Contains, flat_map}

pub here : {A : Type 0} (x : A) (xs : List A) → Contains (x ∷ xs) x
here x xs = (zero, omega arith, refl)

pub later : {A : Type 0} (y : A) (xs : List A) (x : A) → Contains xs x → Contains (y ∷ xs) x
later y xs x (k, within, is) = (suc k, omega (arith, within), is)

pub each_append : {A : Type 0} (P : A → Type 0) (xs ys : List A) → AllByRecursion P xs → AllByRecursion P ys → AllByRecursion P (xs ++ ys)
each_append P [] ys one two = two
each_append P (x ∷ xs) ys one two = (one.0, each_append P xs ys one.1 two)

pub each_other : {A : Type 0} (P Q : A → Type 0) → ((x : A) → P x → Q x) → (xs : List A) → AllByRecursion P xs → AllByRecursion Q xs
each_other P Q turn [] all = tt
each_other P Q turn (x ∷ xs) all = (turn x all.0, each_other P Q turn xs all.1)

-- where each item gives nothing, all give nothing
pub none_of_each : {A B : Type 0} (h : A → List B) (xs : List A) → AllByRecursion (λ x. h x ≡ []) xs → flat_map h xs ≡ []
none_of_each h [] all = refl
none_of_each h (x ∷ xs) all = ap (λ ys. ys ++ flat_map h xs) all.0 ∙ none_of_each h xs all.1

pub none_of_any : {A B : Type 0} (h : A → List B) → ((x : A) → h x ≡ []) → (xs : List A) → flat_map h xs ≡ []
none_of_any h none [] = refl
none_of_any h none (x ∷ xs) = ap (λ ys. ys ++ flat_map h xs) (none x) ∙ none_of_any h none xs
