-- A list in strict order is told by what it holds.
use Rattle.std.proofs.Common.{◌≡◌, Less, Equal, List, [], ◌∷◌, refl, sym, subst, ◌∙◌, inl, inr}
use Rattle.std.specs.Cmp.{IsTotalOrder}
use Rattle.std.specs.List.{AllByRecursion, Contains}
use Rattle.std.specs.List.Sorted.{IsStrictlySortedBy}
use Rattle.std.specs.declared.cmp.Ordering.{Ordering}
use Rattle.std.proofs.lemmas.Cmp.{tied_itself}
use Rattle.std.proofs.lemmas.List.Elements.{Contains-append_cases}
use Rattle.gql_fields.specs.declared.breach.Breach.{Breach}
use Rattle.gql_fields.specs.BreachOrder.{Lists, breach_order, breach_total}
use Rattle.gql_rules.proofs.BreachLemmas.{first_in, later_in, none_in, one_in}

module _ {K : Type 0} (R : K → K → Ordering) (total : IsTotalOrder R) where
  below_each : (x : K) (xs : List K) → AllByRecursion (λ y. R x y ≡ Less) xs → (y : K) → Contains xs y → R x y ≡ Less
  below_each x [] below y at = none_in y (R x y ≡ Less) at
  below_each x (z ∷ zs) below y at =
      elim (Contains-append_cases (z ∷ []) zs y at) [
        | inl here ↦ subst (λ w. R x w ≡ Less) (one_in z y here) below.0
        | inr behind ↦ below_each x zs below.1 y behind
      ]

  never_below_itself : (x : K) → R x x ≡ Less → ⊥
  never_below_itself x less = let wrong : Less ≡ Equal = sym less ∙ tied_itself total x in cc

  -- the first of two lists
  module _ (x y : K) (xs ys : List K) (above : AllByRecursion (λ z. R x z ≡ Less) xs) (below : AllByRecursion (λ z. R y z ≡ Less) ys) where
    one_first : Contains (y ∷ ys) x → Contains (x ∷ xs) y → x ≡ y
    one_first there back =
        elim (Contains-append_cases (y ∷ []) ys x there) [
          | inl here ↦ sym (one_in y x here)
          | inr behind ↦
              elim (Contains-append_cases (x ∷ []) xs y back) [
                | inl here ↦ one_in x y here
                | inr further ↦
                    absurd (never_below_itself x (total.trans x y x (below_each x xs above y further) (below_each y ys below x behind)))
              ]
        ]

  -- what stands behind the first stands behind the same first
  behind_same : (x y z : K) (xs ys : List K) → x ≡ y → AllByRecursion (λ w. R x w ≡ Less) xs → Contains xs z → Contains (y ∷ ys) z → Contains ys z
  behind_same x y z xs ys same above at there =
      elim (Contains-append_cases (y ∷ []) ys z there) [
        | inl here ↦
            absurd (never_below_itself x (subst (λ w. R x w ≡ Less) (sym (same ∙ one_in y z here)) (below_each x xs above z at)))
        | inr behind ↦ behind
      ]

  pub one_list : (xs ys : List K) → IsStrictlySortedBy R xs → IsStrictlySortedBy R ys → ((z : K) → Contains xs z → Contains ys z)
      → ((z : K) → Contains ys z → Contains xs z) → xs ≡ ys
  unfolding IsStrictlySortedBy
  one_list [] [] s t there back = refl
  one_list [] (y ∷ ys) s t there back = none_in y ([] ≡ y ∷ ys) (back y (first_in y ys))
  one_list (x ∷ xs) [] s t there back = none_in x (x ∷ xs ≡ []) (there x (first_in x xs))
  one_list (x ∷ xs) (y ∷ ys) s t there back =
      let same = one_first x y xs ys s.0 t.0 (there x (first_in x xs)) (back y (first_in y ys)) in
      let rest = one_list xs ys s.1 t.1
      (λ z at. behind_same x y z xs ys same s.0 at (there z (later_in x z xs at)))
      (λ z at. behind_same y x z ys xs (sym same) t.0 at (back z (later_in y z ys at))) in
      λ i. same i ∷ rest i

-- all that is meant has one list
pub one_listed : (IsMeant : Breach → Type 0) (one other : List Breach) → Lists IsMeant one → Lists IsMeant other → one ≡ other
one_listed IsMeant one other a b =
    one_list breach_order breach_total one other a.in_order b.in_order
    (λ found at. (b.exact found).1 ((a.exact found).0 at))
    (λ found at. (a.exact found).1 ((b.exact found).0 at))
