-- Fields that come one after another, under names that differ.
use Rattle.std.proofs.Common.{◌≡◌, ℕ, suc, ◌+◌, ◌≤◌, Bool, true, false, cond, List, [], ◌∷◌, ◌++◌, length, drop, get_or, drop-cons, slice_get, Some, None, refl, ap, sym, ◌∙◌, subst, add-one}
use Rattle.std.proofs.lemmas.List.{drop_all}
use Rattle.std.proofs.lemmas.Option.{slice_get_within, get_or_from_slice_get}
use Rattle.std.specs.Cmp.Lexicographic.{nat_list_eq_equiv}
use Rattle.std.specs.Str.{bytes_eq}
use Rattle.gql_base.specs.Pairs.{under, HasDistinctNames}
use Rattle.gql_bench.specs.FieldTable.{fields_behind}

drop-at : {A : Type 0} (xs : List A) (k : ℕ) (x : A) → slice_get xs k ≡ Some x → drop k xs ≡ x ∷ drop (k + 1) xs
drop-at xs k x at =
    let within = slice_get_within xs k x at in
    let here : get_or xs k x ≡ x = get_or_from_slice_get xs k x x at in
    drop-cons xs k x within ∙ ap (λ y. y ∷ drop (suc k) xs) here ∙ ap (λ n. x ∷ drop n xs) (sym (add-one k))

-- none of these names stands among the fields
abbrev pub AreFresh : {F T : Type 0} → List (List ℕ × T) → List (List ℕ × F) → Type 0
AreFresh fields [] = Unit {0}
AreFresh fields (p ∷ ps) = (under p.0 fields ≡ None) × AreFresh fields ps

none-fresh : (T : Type 0) {F : Type 0} (left : List (List ℕ × F)) → AreFresh {F = F} {T = T} [] left
none-fresh T [] = tt
none-fresh T (p ∷ ps) = (refl, none-fresh T ps)

other-way : (m n : List ℕ) → bytes_eq n m ≡ false → bytes_eq m n ≡ false
other-way m n e = nat_list_eq_equiv.symm m n ∙ e

-- one more field leaves another name fresh
beside : {T : Type 0} (ps : List (List ℕ × T)) (m n : List ℕ) (x : T) → under m ps ≡ None → bytes_eq m n ≡ false
    → under m (ps ++ (n, x) ∷ []) ≡ None
beside [] m n x none other = rw other refl
beside (p ∷ ps) m n x none other =
    let P : Bool → Type 0 = λ b. cond b (Some p.1) (under m ps) ≡ None → cond b (Some p.1) (under m (ps ++ (n, x) ∷ [])) ≡ None in
    (elim (bytes_eq m p.0) as P [ true ↦ λ h. cc | false ↦ λ h. beside ps m n x h other ]) none

fresh-more : {F T : Type 0} (fields : List (List ℕ × T)) (n : List ℕ) (x : T) (left : List (List ℕ × F)) → under n left ≡ None
    → AreFresh fields left → AreFresh (fields ++ (n, x) ∷ []) left
fresh-more fields n x [] none fresh = tt
fresh-more fields n x (p ∷ ps) none (here, rest) =
    let P : Bool → Type 0 = λ b. bytes_eq n p.0 ≡ b → cond b (Some p.1) (under n ps) ≡ None → AreFresh (fields ++ (n, x) ∷ []) (p ∷ ps) in
    (elim (bytes_eq n p.0) as P [
      | true ↦ λ same h. cc
      | false ↦ λ other h. (beside fields p.0 n x here (other-way p.0 n other), fresh-more fields n x ps h rest)
    ]) refl none

-- what is left goes after the fields that stand, whose names are others
pub record IsGoing {F T : Type 0} (made : ℕ → List ℕ → F → T) (start : ℕ) (all : List (List ℕ × F)) (fields : List (List ℕ × T)) (number : ℕ)
    (left : List (List ℕ × F)) : Type 0 where
  pub is : fields_behind made [] start all ≡ fields_behind made fields number left
  pub fresh : AreFresh fields left
  pub distinct : HasDistinctNames left

module _ {F T : Type 0} (made : ℕ → List ℕ → F → T) (start : ℕ) (all : List (List ℕ × F)) where
  pub going_start : (fields : List (List ℕ × T)) → fields ≡ [] → HasDistinctNames all → IsGoing made start all fields start all
  going_start fields none distinct = record {
    is = ap (λ fs. fields_behind made fs start all) (sym none);
    fresh = subst (λ fs. AreFresh fs all) (sym none) (none-fresh T all);
    distinct = distinct;
  }

  module _ (fields : List (List ℕ × T)) (number k : ℕ) (p : List ℕ × F) (going : IsGoing made start all fields number (drop k all)) (at : slice_get all k ≡ Some p) where
    going-here : IsGoing made start all fields number (p ∷ drop (k + 1) all)
    going-here = subst (IsGoing made start all fields number) (drop-at all k p at) going

    -- the next name is fresh
    pub going_next : under p.0 fields ≡ None
    going_next = going-here.fresh.0

    -- one more field
    pub going_more : (more : List (List ℕ × T)) (x : T) → x ≡ made number p.0 p.1 → more ≡ fields ++ (p.0, x) ∷ []
        → IsGoing made start all more (number + 1) (drop (k + 1) all)
    going_more more x is added = record {
      is = going-here.is ∙ ap (λ fs. fields_behind made fs (number + 1) (drop (k + 1) all)) (sym (added ∙ ap (λ y. fields ++ (p.0, y) ∷ []) is));
      fresh = subst (λ fs. AreFresh fs (drop (k + 1) all)) (sym added) (fresh-more fields p.0 x (drop (k + 1) all) going-here.distinct.0 going-here.fresh.1);
      distinct = going-here.distinct.1;
    }

  -- no field is left
  pub going_done : (fields : List (List ℕ × T)) (number k : ℕ) → IsGoing made start all fields number (drop k all) → length all ≤ k
      → fields ≡ fields_behind made [] start all
  going_done fields number k going past = sym (going.is ∙ ap (fields_behind made fields number) (drop_all k all past))
