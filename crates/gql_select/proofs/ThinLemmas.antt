-- Lists without some later repetitions, and what is united of them under keys.
use Rattle.std.proofs.Common.{◌≡◌, ℕ, zero, suc, List, [], ◌∷◌, ◌++◌, refl, ap, sym, subst, subst₂, ◌∙◌, inl, inr, append_assoc, arith}
use Rattle.std.specs.List.{AllByRecursion, Contains}
use Rattle.std.specs.Str.{bytes_eq}
use Rattle.std.proofs.lemmas.List.{append-nil}
use Rattle.std.proofs.lemmas.List.Elements.{Contains-append_cases, Contains-append_left, Contains-append_right}
use Rattle.gql_base.specs.Pairs.{unite, unite_all}
use Rattle.gql_select.specs.Reading.{keyed, Reading}
use Rattle.gql_select.specs.Thinned.{empty, goes, stays, Thinned}
use Rattle.gql_select.proofs.ConflictLemmas.{Found, found_new, found_on}
use Rattle.gql_select.proofs.MergeLemmas.{first_in, later_in}
use Rattle.gql_select.proofs.UnitingLemmas.{either, unite_here, unite_past}

module _ {X : Type 0} where
  pub contains_none : (x : X) → Contains [] x → ⊥
  contains_none x (k, within, is) = absurd (omega arith)

  pub contains_one : (x y : X) → Contains (x ∷ []) y → x ≡ y
  contains_one x y (zero, within, is) = is
  contains_one x y (suc k, within, is) = absurd (omega arith)

  one_more : (xs : List X) (y : X) (ys : List X) → (xs ++ y ∷ []) ++ ys ≡ xs ++ y ∷ ys
  one_more xs y ys = append_assoc xs (y ∷ []) ys

  -- items after both lists, which stay
  pub all_stay : (xs ys zs : List X) → Thinned X xs ys → Thinned X (xs ++ zs) (ys ++ zs)
  all_stay xs ys [] thin = rw (append-nil xs, append-nil ys) thin
  all_stay xs ys (z ∷ zs) thin =
      subst₂ (λ a b. Thinned X a b) (one_more xs z zs) (one_more ys z zs) (all_stay (xs ++ z ∷ []) (ys ++ z ∷ []) zs (stays z thin))

  -- items after the first, each of which stands in the second
  pub all_go : (xs ys zs : List X) → Thinned X xs ys → ((z : X) → Contains zs z → Contains ys z) → Thinned X (xs ++ zs) ys
  all_go xs ys [] thin there = rw (append-nil xs) thin
  all_go xs ys (z ∷ zs) thin there =
      subst (λ a. Thinned X a ys) (one_more xs z zs)
      (all_go (xs ++ z ∷ []) ys zs (goes z thin (there z (first_in z zs))) (λ x at. there x (later_in z x zs at)))

  pub thin_itself : (xs : List X) → Thinned X xs xs
  thin_itself xs = all_stay [] [] xs empty

  -- both lists hold the same items
  pub in_thin : (xs ys : List X) → Thinned X xs ys → (x : X) → Contains xs x → Contains ys x
  in_thin xs ys empty x at = at
  in_thin xs ys (stays {xs = us} {ys = vs} y thin) x at = elim (Contains-append_cases us (y ∷ []) x at) [
    | inl before ↦ Contains-append_left vs (y ∷ []) x (in_thin us vs thin x before)
    | inr here ↦ Contains-append_right vs (y ∷ []) x here
  ]
  in_thin xs ys (goes {xs = us} {ys = vs} y thin there) x at = elim (Contains-append_cases us (y ∷ []) x at) [
    | inl before ↦ in_thin us vs thin x before
    | inr here ↦ subst (Contains vs) (contains_one y x here) there
  ]

  pub thin_in : (xs ys : List X) → Thinned X xs ys → (x : X) → Contains ys x → Contains xs x
  thin_in xs ys empty x at = at
  thin_in xs ys (stays {xs = us} {ys = vs} y thin) x at = elim (Contains-append_cases vs (y ∷ []) x at) [
    | inl before ↦ Contains-append_left us (y ∷ []) x (thin_in us vs thin x before)
    | inr here ↦ Contains-append_right us (y ∷ []) x here
  ]
  thin_in xs ys (goes {xs = us} {ys = vs} y thin there) x at = Contains-append_left us (y ∷ []) x (thin_in us vs thin x at)

-- what is asked of united values: two that are close stay close with one more on both sides, and with one on
-- the left that is there on the right already
pub record IsClose {F : Type 0} (join : F → F → F) (Close IsThere : F → F → Type 0) : Type 0 where
  pub itself : (x : F) → Close x x
  pub both : (f g x : F) → Close f g → Close (join f x) (join g x)
  pub left : (f g x : F) → Close f g → IsThere x g → Close (join f x) g
  pub first : (x : F) → IsThere x x
  pub added : (g x : F) → IsThere x (join g x)
  pub later : (y g x : F) → IsThere y g → IsThere y (join g x)

-- pairs of the same keys, with close values
abbrev pub ArePaired : {F : Type 0} → (F → F → Type 0) → List (List ℕ × F) → List (List ℕ × F) → Type 0
ArePaired Close [] [] = Unit {0}
ArePaired Close [] (q ∷ qs) = ⊥
ArePaired Close (p ∷ ps) [] = ⊥
ArePaired Close (p ∷ ps) (q ∷ qs) = (p.0 ≡ q.0) × (Close p.1 q.1 × ArePaired Close ps qs)

module _ {O F X : Type 0} (reading : Reading O F X) (join : F → F → F) where
  -- occurrences, united under their keys
  abbrev united : List F → List (List ℕ × F)
  united fs = unite_all join [] (keyed reading fs)

  into_more : (ps : List (List ℕ × F)) (fs : List F) (x : F)
      → unite_all join ps (keyed reading (fs ++ x ∷ [])) ≡ unite join (unite_all join ps (keyed reading fs)) (reading.key x) x
  into_more ps [] x = refl
  into_more ps (f ∷ fs) x = into_more (unite join ps (reading.key f) f) fs x

  -- what holds of occurrences, and of two that are united, holds of all that is united
  module _ (P : F → Type 0) (closed : (f g : F) → P f → P g → P (join f g)) where
    each_put : (k : List ℕ) (x : F) (ps : List (List ℕ × F)) → P x → AllByRecursion (λ p. P p.1) ps
        → AllByRecursion (λ p. P p.1) (unite join ps k x)
    each_put k x [] here all = (here, tt)
    each_put k x (p ∷ ps) here all =
        either (bytes_eq k p.0) (AllByRecursion (λ q. P q.1) (unite join (p ∷ ps) k x))
        (λ e. subst (AllByRecursion (λ q. P q.1)) (sym (unite_here join p ps k x e)) (closed p.1 x all.0 here, all.1))
        (λ e. subst (AllByRecursion (λ q. P q.1)) (sym (unite_past join p ps k x e)) (all.0, each_put k x ps here all.1))

    pub each_into : (ps : List (List ℕ × F)) (fs : List F) → AllByRecursion (λ p. P p.1) ps → ((f : F) → Contains fs f → P f)
        → AllByRecursion (λ p. P p.1) (unite_all join ps (keyed reading fs))
    each_into ps [] all each = all
    each_into ps (f ∷ fs) all each =
        each_into (unite join ps (reading.key f) f) fs (each_put (reading.key f) f ps (each f (first_in f fs)) all)
        (λ g at. each g (later_in f g fs at))

  module _ (Close IsThere : F → F → Type 0) (is : IsClose join Close IsThere) where
    paired_both : (k : List ℕ) (x : F) (ps qs : List (List ℕ × F)) → ArePaired Close ps qs
        → ArePaired Close (unite join ps k x) (unite join qs k x)
    paired_both k x [] [] paired = (refl, (is.itself x, tt))
    paired_both k x [] (q ∷ qs) paired = absurd paired
    paired_both k x (p ∷ ps) [] paired = absurd paired
    paired_both k x (p ∷ ps) (q ∷ qs) paired =
        either (bytes_eq k p.0) (ArePaired Close (unite join (p ∷ ps) k x) (unite join (q ∷ qs) k x))
        (λ e. subst₂ (ArePaired Close) (sym (unite_here join p ps k x e))
        (sym (unite_here join q qs k x (ap (bytes_eq k) (sym paired.0) ∙ e)))
        (paired.0, (is.both p.1 q.1 x paired.1.0, paired.1.1)))
        (λ e. subst₂ (ArePaired Close) (sym (unite_past join p ps k x e))
        (sym (unite_past join q qs k x (ap (bytes_eq k) (sym paired.0) ∙ e)))
        (paired.0, (paired.1.0, paired_both k x ps qs paired.1.1)))

    paired_left : (k : List ℕ) (x : F) (ps qs : List (List ℕ × F)) → ArePaired Close ps qs → Found k (IsThere x) qs
        → ArePaired Close (unite join ps k x) qs
    paired_left k x [] [] paired found = absurd found
    paired_left k x [] (q ∷ qs) paired found = absurd paired
    paired_left k x (p ∷ ps) [] paired found = absurd paired
    paired_left k x (p ∷ ps) (q ∷ qs) paired found =
        either (bytes_eq k p.0) (ArePaired Close (unite join (p ∷ ps) k x) (q ∷ qs))
        (λ e. subst (λ a. ArePaired Close a (q ∷ qs)) (sym (unite_here join p ps k x e))
        (paired.0, (is.left p.1 q.1 x paired.1.0 (found.0 (ap (bytes_eq k) (sym paired.0) ∙ e)), paired.1.1)))
        (λ e. subst (λ a. ArePaired Close a (q ∷ qs)) (sym (unite_past join p ps k x e))
        (paired.0, (paired.1.0, paired_left k x ps qs paired.1.1 (found.1 (ap (bytes_eq k) (sym paired.0) ∙ e)))))

    -- each occurrence is there under its key
    abbrev AllThere : List F → List (List ℕ × F) → Type 0
    AllThere ys qs = (y : F) → Contains ys y → Found (reading.key y) (IsThere y) qs

    there_more : (ys : List F) (x : F) (qs : List (List ℕ × F)) → AllThere ys qs → AllThere (ys ++ x ∷ []) (unite join qs (reading.key x) x)
    there_more ys x qs all = λ y at. elim (Contains-append_cases ys (x ∷ []) y at) [
      | inl before ↦ found_on (reading.key y) join (IsThere y) (λ a b. is.later y a b) qs (reading.key x, x) (all y before)
      | inr here ↦ subst (λ z. Found (reading.key z) (IsThere z) (unite join qs (reading.key x) x)) (contains_one x y here)
          (found_new (reading.key x) join (IsThere x) x (is.first x) (λ a. is.added a x) qs)
    ]

    -- what is united of a list is close to what is united of it without repetitions
    thinned_paired : (xs ys : List F) → Thinned F xs ys → ArePaired Close (united xs) (united ys) × AllThere ys (united ys)
    thinned_paired xs ys empty = (tt, λ y at. absurd (contains_none y at))
    thinned_paired xs ys (stays {xs = us} {ys = vs} x thin) =
        let h : ArePaired Close (united us) (united vs) × AllThere vs (united vs)
        = thinned_paired us vs thin in (
          subst₂ (ArePaired Close) (sym (into_more [] us x)) (sym (into_more [] vs x))
              (paired_both (reading.key x) x (united us) (united vs) h.0),
          subst (AllThere (vs ++ x ∷ [])) (sym (into_more [] vs x)) (there_more vs x (united vs) h.1),
        )
    thinned_paired xs ys (goes {xs = us} {ys = vs} x thin there) =
        let h : ArePaired Close (united us) (united vs) × AllThere vs (united vs)
        = thinned_paired us vs thin in (
          subst (λ a. ArePaired Close a (united vs)) (sym (into_more [] us x))
              (paired_left (reading.key x) x (united us) (united vs) h.0 (h.1 x there)),
          h.1,
        )

    pub united_paired : (xs ys : List F) → Thinned F xs ys → ArePaired Close (united xs) (united ys)
    united_paired xs ys thin = (thinned_paired xs ys thin).0
