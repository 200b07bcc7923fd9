-- What a loop that tests each item knows of those that it has passed.
use Rattle.std.proofs.Common.{◌≡◌, ℕ, zero, suc, ◌+◌, Bool, true, false, ◌&&◌, List, [], ◌∷◌, ◌++◌, map, take, length, ◌≤◌, Some, slice_get, refl, ap, sym, ◌∙◌, add-one}
use Rattle.std.proofs.lemmas.List.{take_all}
use Rattle.std.specs.List.{list_all}

module _ {A : Type 0} (f : A → Bool) where
  more-all : (xs : List A) (i : ℕ) (x : A) → list_all f (take i xs) ≡ true → slice_get xs i ≡ Some x → f x ≡ true → list_all f (take (suc i) xs) ≡ true
  more-all [] i x before at here = cc
  more-all (y ∷ ys) zero x before at here =
      let same : y ≡ x = cc in
      rw same (rw here refl)
  more-all (y ∷ ys) (suc i) x before at here =
      let P : Bool → Type 0 = λ b. (b && list_all f (take i ys)) ≡ true → (b && list_all f (take (suc i) ys)) ≡ true in
      (elim (f y) as P [ true ↦ λ h. more-all ys i x h at here | false ↦ λ h. h ]) before

  -- one more item that passes the test
  pub all_more : (xs : List A) (i : ℕ) (x : A) (passed : Bool) → list_all f (take i xs) ≡ true → slice_get xs i ≡ Some x → passed ≡ f x → passed ≡ true
      → list_all f (take (i + 1) xs) ≡ true
  all_more xs i x passed before at told so = rw add-one (more-all xs i x before at (sym told ∙ so))

  -- an item that doesn't
  fails-all : (xs : List A) (i : ℕ) (x : A) → slice_get xs i ≡ Some x → f x ≡ false → false ≡ list_all f xs
  fails-all [] i x at here = cc
  fails-all (y ∷ ys) zero x at here =
      let same : y ≡ x = cc in
      rw same (rw here refl)
  fails-all (y ∷ ys) (suc i) x at here =
      let P : Bool → Type 0 = λ b. false ≡ (b && list_all f ys) in
      elim (f y) as P [ true ↦ fails-all ys i x at here | false ↦ refl ]

  pub all_fails : (xs : List A) (i : ℕ) (x : A) (passed : Bool) → slice_get xs i ≡ Some x → passed ≡ f x → passed ≡ false → false ≡ list_all f xs
  all_fails xs i x passed at told so = fails-all xs i x at (sym told ∙ so)

  -- all items once the last is passed
  pub all_passed : (xs : List A) (i : ℕ) → list_all f (take i xs) ≡ true → length xs ≤ i → true ≡ list_all f xs
  all_passed xs i before over = sym before ∙ ap (list_all f) (take_all i xs over)

-- the items of two lists
pub all_append : {A : Type 0} (f : A → Bool) (xs ys : List A) → list_all f (xs ++ ys) ≡ (list_all f xs && list_all f ys)
all_append f [] ys = refl
all_append f (x ∷ xs) ys =
    let P : Bool → Type 0 = λ b. (b && list_all f (xs ++ ys)) ≡ ((b && list_all f xs) && list_all f ys) in
    elim (f x) as P [ true ↦ all_append f xs ys | false ↦ refl ]

-- a test of what items become is a test of the items
pub all_mapped : {A C : Type 0} (f : A → Bool) (h : C → A) (xs : List C) → list_all f (map h xs) ≡ list_all (λ x. f (h x)) xs
all_mapped f h [] = refl
all_mapped f h (x ∷ xs) = ap (λ b. f (h x) && b) (all_mapped f h xs)

-- three tests, one after another
pub three_first : (a b c r : Bool) → r ≡ a → r ≡ false → false ≡ (a && b && c)
three_first a b c r told so = rw (sym told ∙ so) refl

pub three_second : (a b c r s : Bool) → r ≡ a → r ≡ true → s ≡ b → s ≡ false → false ≡ (a && b && c)
three_second a b c r s told so next failed = rw (sym told ∙ so, sym next ∙ failed) refl

pub three_third : (a b c r s q : Bool) → r ≡ a → r ≡ true → s ≡ b → s ≡ true → q ≡ c → q ≡ (a && b && c)
three_third a b c r s q told so next passed last = rw (sym told ∙ so, sym next ∙ passed) last
