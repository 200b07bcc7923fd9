-- What is told of the items of a list, one after another, by the names that were kept of those before.
use Rattle.std.proofs.Common.{◌≡◌, ℕ, zero, suc, ◌+◌, Bool, true, false, ◌||◌, cond, List, [], ◌∷◌, ◌++◌, map, take, Some, slice_get, refl, ap, sym, ◌∙◌, append_assoc, append-nil, add-one}
use Rattle.std.specs.Str.{bytes_eq}
use Rattle.std.specs.Cmp.Lexicographic.{bytes_decides}
use Rattle.gql_schema.specs.NameSet.{is_among, with_name}
use Rattle.gql_fields.specs.GivenNames.{AreNames, told_along}
use Rattle.gql_fields.specs.declared.breach.Breach.{Breach}

-- what is among some and one more
among-last : (n : List ℕ) (ms : List (List ℕ)) (m : List ℕ) → is_among n (ms ++ m ∷ []) ≡ (is_among n ms || bytes_eq n m)
among-last n [] m = or-none (bytes_eq n m)
  where
    or-none : (b : Bool) → (b || false) ≡ b
    or-none true = refl
    or-none false = refl
among-last n (k ∷ ks) m =
    let P : Bool → Type 0 = λ b. (b || is_among n (ks ++ m ∷ [])) ≡ ((b || is_among n ks) || bytes_eq n m) in
    elim (bytes_eq n k) as P [ true ↦ refl | false ↦ among-last n ks m ]

-- a name that is there is told again without a change
or-there : (a b : Bool) → (b ≡ true → a ≡ true) → a ≡ (a || b)
or-there true b h = refl
or-there false true h = h refl
or-there false false h = refl

same_among : (n m : List ℕ) (ms : List (List ℕ)) → bytes_eq n m ≡ true → is_among m ms ≡ true → is_among n ms ≡ true
same_among n m ms same there = ap (λ k. is_among k ms) ((bytes_decides n m).0 same) ∙ there

-- the names kept, with one more
pub none_named : AreNames [] []
none_named = record { same = λ n. refl }

kept_more : (names kept : List (List ℕ)) (m : List ℕ) → AreNames names kept → AreNames (names ++ m ∷ []) (with_name kept m)
kept_more names kept m are = record { same = λ n. here n ∙ (λ i. are.same n i || bytes_eq n m) ∙ sym (among-last n names m) }
  where
    here : (n : List ℕ) → is_among n (with_name kept m) ≡ (is_among n kept || bytes_eq n m)
    here n =
        let P : Bool → Type 0 = λ b. (is_among m kept ≡ b)
        → is_among n (cond b kept (kept ++ m ∷ [])) ≡ (is_among n kept || bytes_eq n m) in
        (elim (is_among m kept) as P [
          | true ↦ λ h. or-there (is_among n kept) (bytes_eq n m) (λ same. same_among n m kept same h)
          | false ↦ λ h. among-last n kept m
        ]) refl

pub map_more : {A B : Type 0} (f : A → B) (xs : List A) (i : ℕ) (x : A) → slice_get xs i ≡ Some x
    → map f (take (suc i) xs) ≡ map f (take i xs) ++ f x ∷ []
map_more f [] i x at = cc
map_more f (y ∷ ys) zero x at =
    let same : y ≡ x = cc in
    ap (λ z. f z ∷ []) same
map_more f (y ∷ ys) (suc i) x at = ap (λ bs. f y ∷ bs) (map_more f ys i x at)

module _ {A : Type 0} (name_of : A → List ℕ) where
  -- the names of one item more
  pub named_along : (xs : List A) (i : ℕ) (x : A) (kept more : List (List ℕ)) → slice_get xs i ≡ Some x
      → AreNames (map name_of (take i xs)) kept
      → more ≡ with_name kept (name_of x) → AreNames (map name_of (take (i + 1) xs)) more
  named_along xs i x kept more at are is = record {
    same = λ n.
        ap (is_among n) is
        ∙ (kept_more (map name_of (take i xs)) kept (name_of x) are).same n
        ∙ ap (is_among n) (sym (map_more name_of xs i x at))
        ∙ ap (λ k. is_among n (map name_of (take k xs))) (sym (add-one i));
  }

  module _ (tell : List (List ℕ) → A → List Breach) where
    along-more : (before : List (List ℕ)) (xs : List A) (i : ℕ) (x : A) → slice_get xs i ≡ Some x
        → told_along name_of tell before (take (suc i) xs)
        ≡ told_along name_of tell before (take i xs) ++ tell (before ++ map name_of (take i xs)) x
    along-more before [] i x at = cc
    along-more before (a ∷ rest) zero x at =
        let same : a ≡ x = cc in
        append-nil (tell before a) ∙ (λ j. tell (sym (append-nil before) j) (same j))
    along-more before (a ∷ rest) (suc i) x at =
        ap (λ bs. tell before a ++ bs)
        (along-more (before ++ name_of a ∷ []) rest i x at
        ∙ ap (λ ns. told_along name_of tell (before ++ name_of a ∷ []) (take i rest) ++ tell ns x)
        (append_assoc before (name_of a ∷ []) (map name_of (take i rest))))
        ∙ sym (append_assoc (tell before a) (told_along name_of tell (before ++ name_of a ∷ []) (take i rest))
        (tell (before ++ name_of a ∷ map name_of (take i rest)) x))

    -- one item more, where what is told goes by the names alone
    pub along_step : ((names kept : List (List ℕ)) (x : A) → AreNames names kept → tell kept x ≡ tell names x)
        → (xs : List A) (i : ℕ) (x : A) (kept : List (List ℕ)) (start now more : List Breach) → slice_get xs i ≡ Some x
        → AreNames (map name_of (take i xs)) kept → now ≡ start ++ told_along name_of tell [] (take i xs) → more ≡ now ++ tell kept x
        → more ≡ start ++ told_along name_of tell [] (take (i + 1) xs)
    along_step told-kept xs i x kept start now more at are before added =
        let names = map name_of (take i xs) in
        let front = told_along name_of tell [] (take i xs) in
        added ∙ (λ j. before j ++ told-kept names kept x are j)
        ∙ append_assoc start front (tell names x)
        ∙ ap (λ bs. start ++ bs) (sym (along-more [] xs i x at))
        ∙ ap (λ n. start ++ told_along name_of tell [] (take n xs)) (sym (add-one i))
