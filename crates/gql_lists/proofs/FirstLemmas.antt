-- What a loop that looks for the first of some knows of those that it has passed.
use Rattle.std.proofs.Common.{◌≡◌, ℕ, zero, suc, ◌+◌, Bool, true, false, List, [], ◌∷◌, take, length, ◌≤◌, Option, Some, None, is_some, slice_get, refl, ap, sym, ◌∙◌, add-one}
use Rattle.std.proofs.lemmas.List.{take_all}
use Rattle.std.specs.Option.{option_copied, option_or}
use denote.Ref.{Bor}
use Rattle.gql_lists.specs.First.{first_found}

module _ {A B : Type 0} (f : A → Option B) where
  pub first_passed : (xs : List A) (i : ℕ) → first_found f (take i xs) ≡ None → length xs ≤ i → None ≡ first_found f xs
  first_passed xs i before over = sym before ∙ ap (first_found f) (take_all i xs over)

  more-first : (xs : List A) (i : ℕ) (x : A) → first_found f (take i xs) ≡ None → slice_get xs i ≡ Some x → f x ≡ None → first_found f (take (suc i) xs) ≡ None
  more-first [] i x before at here = cc
  more-first (y ∷ ys) zero x before at here =
      let same : y ≡ x = cc in
      rw same (rw here refl)
  more-first (y ∷ ys) (suc i) x before at here =
      let P : Option B → Type 0 = λ o. option_or o (first_found f (take i ys)) ≡ None → option_or o (first_found f (take (suc i) ys)) ≡ None in
      (elim (f y) as P [ None ↦ λ h. more-first ys i x h at here | Some b ↦ λ h. cc ]) before

  hit-first : (xs : List A) (i : ℕ) (x : A) (found : Option B) → first_found f (take i xs) ≡ None → slice_get xs i ≡ Some x → found ≡ f x → is_some found ≡ true
      → found ≡ first_found f xs
  hit-first [] i x found before at told there = cc
  hit-first (y ∷ ys) zero x found before at told there =
      let same : y ≡ x = cc in
      let P : Option B → Type 0 = λ o. is_some o ≡ true → o ≡ option_or o (first_found f ys) in
      rw same (rw (sym told) ((elim found as P [ None ↦ λ h. cc | Some b ↦ λ h. refl ]) there))
  hit-first (y ∷ ys) (suc i) x found before at told there =
      let P : Option B → Type 0 = λ o. option_or o (first_found f (take i ys)) ≡ None → found ≡ option_or o (first_found f ys) in
      (elim (f y) as P [ None ↦ λ h. hit-first ys i x found h at told there | Some b ↦ λ h. cc ]) before

  -- the first item that gives something
  pub first_here : (xs : List A) (i : ℕ) (x : A) (found : Option B) (there : Bool) → first_found f (take i xs) ≡ None → slice_get xs i ≡ Some x → found ≡ f x
      → there ≡ is_some found → there ≡ true → found ≡ first_found f xs
  first_here xs i x found there before at told test so = hit-first xs i x found before at told (sym test ∙ so)

  nothing : (o : Option B) → is_some o ≡ false → o ≡ None
  nothing None h = refl
  nothing (Some b) h = cc

  -- one more item that gives nothing
  pub first_more : (xs : List A) (i : ℕ) (x : A) (found : Option B) (there : Bool) → first_found f (take i xs) ≡ None → slice_get xs i ≡ Some x → found ≡ f x
      → there ≡ is_some found → there ≡ false → first_found f (take (i + 1) xs) ≡ None
  first_more xs i x found there before at told test so =
      rw add-one (more-first xs i x before at (sym told ∙ nothing found (sym test ∙ so)))

-- what one look of the first of two finds, and what the rest does
pub none_here : {A : Type 0} (a b : Option A) → option_or a b ≡ None → a ≡ None
none_here None b none = refl
none_here (Some x) b none = none

pub none_behind : {A : Type 0} (a b : Option A) → option_or a b ≡ None → b ≡ None
none_behind None b none = none
none_behind (Some x) b none = cc

pub both_none : {A : Type 0} (a b : Option A) → a ≡ None → b ≡ None → option_or a b ≡ None
both_none None b first second = second
both_none (Some x) b first second = cc

-- where nothing is found among some, nothing is found at any of them
pub none_at : {A B : Type 0} (f : A → Option B) (xs : List A) (i : ℕ) (x : A) → first_found f xs ≡ None → slice_get xs i ≡ Some x → f x ≡ None
none_at f [] i x none at = cc
none_at f (y ∷ ys) zero x none at =
    let same : y ≡ x = cc in
    rw (sym same) (none_here _ _ none)
none_at f (y ∷ ys) (suc i) x none at = none_at f ys i x (none_behind _ _ none) at

-- two looks that find the same of each, where two others find nothing
pub first_same : {A B C D : Type 0} (f : A → Option B) (g : A → Option C) (h k : A → Option D) → ((x : A) → f x ≡ None → g x ≡ None → h x ≡ k x)
    → (xs : List A) → first_found f xs ≡ None → first_found g xs ≡ None → first_found h xs ≡ first_found k xs
first_same f g h k same [] none also = refl
first_same f g h k same (x ∷ xs) none also =
    let here = same x (none_here _ _ none) (none_here _ _ also) in
    let behind = first_same f g h k same xs (none_behind _ _ none) (none_behind _ _ also) in
    λ i. option_or (here i) (behind i)

-- of a borrowed thing: it is there where what it stands for is
pub there_copied : {T : Type 0} (found : Option (Bor T)) (there : Bool) → there ≡ is_some found → there ≡ is_some (option_copied found)
there_copied None there told = told
there_copied (Some x) there told = told
