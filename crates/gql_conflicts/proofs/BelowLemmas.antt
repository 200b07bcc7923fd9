-- What holds of each number below another, and of each item before a place.
use Rattle.std.proofs.Common.{◌≡◌, ◌⊎◌, inl, inr, ℕ, zero, suc, ◌+◌, ◌<◌, ◌≤◌, List, [], ◌∷◌, take, length, Some, slice_get, refl, ap, sym, subst, ◌∙◌, add-one, arith}
use Rattle.std.proofs.lemmas.List.{take_all}
use Rattle.std.specs.List.{Contains}
use Rattle.std.specs.Option.{option_map}
use Rattle.std.proofs.lemmas.Option.{slice_get-map}
use Rattle.gql_base.specs.Pairs.{values_of}

less_or_same : (at n : ℕ) → at < n + 1 → (at < n) ⊎ (at ≡ n)
less_or_same zero zero h = inr refl
less_or_same zero (suc n) h = inl (omega arith)
less_or_same (suc at) zero h = absurd (omega (arith, h))
less_or_same (suc at) (suc n) h = elim (less_or_same at n (omega (arith, h))) [ inl l ↦ inl (omega (arith, l)) | inr e ↦ inr (ap suc e) ]

-- one more number
pub below_more : (P : ℕ → Type 0) (n : ℕ) → ((at : ℕ) → at < n → P at) → P n → (at : ℕ) → at < n + 1 → P at
below_more P n before this at within = elim (less_or_same at n within) [ inl l ↦ before at l | inr e ↦ subst P (sym e) this ]

-- an item stands somewhere
pub contains_at : {A : Type 0} (xs : List A) (x : A) → Contains xs x → (i : ℕ) × (slice_get xs i ≡ Some x)
contains_at [] x (k, within, is) = absurd (omega (arith, within))
contains_at (y ∷ ys) x (zero, within, is) = (zero, ap Some is)
contains_at (y ∷ ys) x (suc k, within, is) = let (i, at) = contains_at ys x (k, omega (arith, within), is) in (suc i, at)

-- one more item
each_one_more : {A : Type 0} (P : A → Type 0) (xs : List A) (i : ℕ) (x : A) → ((y : A) → Contains (take i xs) y → P y) → slice_get xs i ≡ Some x → P x
    → (y : A) → Contains (take (suc i) xs) y → P y
each_one_more P [] i x before at this y (k, within, is) = cc
each_one_more P (z ∷ zs) zero x before at this y (zero, within, is) = let same : z ≡ x = cc in subst P (sym same ∙ is) this
each_one_more P (z ∷ zs) zero x before at this y (suc k, within, is) = absurd (omega (arith, within))
each_one_more P (z ∷ zs) (suc i) x before at this y (zero, within, is) = before y (zero, omega arith, is)
each_one_more P (z ∷ zs) (suc i) x before at this y (suc k, within, is) =
    each_one_more P zs i x (λ w (m, inside, same). before w (suc m, omega (arith, inside), same)) at this y (k, omega (arith, within), is)

pub each_more : {A : Type 0} (P : A → Type 0) (xs : List A) (i : ℕ) (x : A) → ((y : A) → Contains (take i xs) y → P y) → slice_get xs i ≡ Some x → P x
    → (y : A) → Contains (take (i + 1) xs) y → P y
each_more P xs i x before at this = rw add-one (each_one_more P xs i x before at this)

-- all items, once the last is passed
pub each_passed : {A : Type 0} (P : A → Type 0) (xs : List A) (i : ℕ) → ((y : A) → Contains (take i xs) y → P y) → length xs ≤ i → (y : A) → Contains xs y → P y
each_passed P xs i before over = subst (λ ys. (y : _) → Contains ys y → P y) (take_all i xs over) before

pub none_before : {A : Type 0} (P : A → Type 0) (xs : List A) (y : A) → Contains (take 0 xs) y → P y
none_before P [] y (k, within, is) = absurd (omega (arith, within))
none_before P (x ∷ xs) y (k, within, is) = absurd (omega (arith, within))

-- the value of the pair at a place
pub value_at : {T : Type 0} (ps : List (List ℕ × T)) (i : ℕ) (name : List ℕ) (value : T) → slice_get ps i ≡ Some (name, value)
    → slice_get (values_of ps) i ≡ Some value
value_at ps i name value at = slice_get-map (λ p. p.1) ps i ∙ ap (option_map (λ p. p.1)) at
