-- What a loop that looks for an item which passes a test knows of those that it has passed.
use Rattle.std.proofs.Common.{◌≡◌, ℕ, zero, suc, ◌+◌, Bool, true, false, ◌||◌, List, [], ◌∷◌, take, Some, slice_get, refl, sym, ◌∙◌, add-one}
use Rattle.std.specs.List.{list_any}

module _ {A : Type 0} (f : A → Bool) where
  more-any : (xs : List A) (i : ℕ) (x : A) → list_any f (take i xs) ≡ false → slice_get xs i ≡ Some x → f x ≡ false → list_any f (take (suc i) xs) ≡ false
  more-any [] i x before at here = cc
  more-any (y ∷ ys) zero x before at here =
      let same : y ≡ x = cc in
      rw same (rw here refl)
  more-any (y ∷ ys) (suc i) x before at here =
      let P : Bool → Type 0 = λ b. (b || list_any f (take i ys)) ≡ false → (b || list_any f (take (suc i) ys)) ≡ false in
      (elim (f y) as P [ true ↦ λ h. h | false ↦ λ h. more-any ys i x h at here ]) before

  -- one more item that fails the test
  pub any_more : (xs : List A) (i : ℕ) (x : A) (passed : Bool) → list_any f (take i xs) ≡ false → slice_get xs i ≡ Some x → passed ≡ f x → passed ≡ false
      → list_any f (take (i + 1) xs) ≡ false
  any_more xs i x passed before at told so = rw add-one (more-any xs i x before at (sym told ∙ so))

  passes-any : (xs : List A) (i : ℕ) (x : A) → slice_get xs i ≡ Some x → f x ≡ true → true ≡ list_any f xs
  passes-any [] i x at here = cc
  passes-any (y ∷ ys) zero x at here =
      let same : y ≡ x = cc in
      rw same (rw here refl)
  passes-any (y ∷ ys) (suc i) x at here =
      let P : Bool → Type 0 = λ b. true ≡ (b || list_any f ys) in
      elim (f y) as P [ true ↦ refl | false ↦ passes-any ys i x at here ]

  -- an item that passes
  pub any_passes : (xs : List A) (i : ℕ) (x : A) (passed : Bool) → slice_get xs i ≡ Some x → passed ≡ f x → passed ≡ true → true ≡ list_any f xs
  any_passes xs i x passed at told so = passes-any xs i x at (sym told ∙ so)
