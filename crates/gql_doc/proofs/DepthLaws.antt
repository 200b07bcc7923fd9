-- Laws on how deep sets lie.
use Rattle.std.proofs.Common.{◌≡◌, ℕ, zero, suc, ◌≤◌, List, [], ◌∷◌, Option, Some, None, refl, sym, ap, subst, ◌∙◌, arith}
use Rattle.std.specs.Prelude.{option_and_then}
use Rattle.std.specs.List.{Contains}
use Rattle.std.specs.Option.{option_or}
use Rattle.gql_doc.specs.declared.document.Positioned.{Positioned}
use Rattle.gql_doc.specs.declared.document.SelectionSet.{SelectionSet}
use Rattle.gql_doc.specs.declared.document.Selection.{Selection, out-Selection}
use Rattle.gql_doc.specs.declared.document.Selection.TheOpen.{Selection-F}
use Rattle.gql_doc.specs.declared.document.Field.{Field}
use Rattle.gql_doc.specs.First.{first_in}
use Rattle.gql_doc.specs.Depth.{Fragments, selections_of, if_any, field_set, set_under, set_beneath, deep_from}

-- where the first look finds nothing, the other finds nothing
lesser : {A B C : Type 0} (o : Option A) (f : A → Option B) (g : A → Option C) → ((x : A) → f x ≡ None → g x ≡ None)
    → option_and_then f o ≡ None → option_and_then g o ≡ None
lesser None f g less none = refl
lesser (Some x) f g less none = less x none

first_none : {A : Type 0} (a b : Option A) → option_or a b ≡ None → a ≡ None
first_none None b none = refl
first_none (Some x) b none = none

second_none : {A : Type 0} (a b : Option A) → option_or a b ≡ None → b ≡ None
second_none None b none = none
second_none (Some x) b none = cc

both_none : {A : Type 0} (a b : Option A) → a ≡ None → b ≡ None → option_or a b ≡ None
both_none None b first second = second
both_none (Some x) b first second = cc

-- what holds of each that is looked at
first_lesser : {A B C : Type 0} (f : A → Option B) (g : A → Option C) → ((x : A) → f x ≡ None → g x ≡ None) → (xs : List A)
    → first_in f xs ≡ None → first_in g xs ≡ None
first_lesser f g less [] none = refl
first_lesser f g less (x ∷ xs) none =
    both_none _ _ (less x (first_none _ _ none)) (first_lesser f g less xs (second_none _ _ none))

-- where the whole look finds nothing, a look at one of them finds nothing
pub first_at : {A B : Type 0} (f : A → Option B) (xs : List A) (x : A) → first_in f xs ≡ None → Contains xs x → f x ≡ None
first_at f [] x none (k, below, is) = absurd (omega arith)
first_at f (y ∷ ys) x none (zero, below, is) = subst (λ z. f z ≡ None) is (first_none _ _ none)
first_at f (y ∷ ys) x none (suc k, below, is) = first_at f ys x (second_none _ _ none) (k, omega arith, is)

module _ (fragments : Fragments) where
  -- where so many levels suffice, more do
  pub deep_less : (less more : ℕ) (set : Positioned SelectionSet) → less ≤ more → deep_from fragments less set ≡ None
      → deep_from fragments more set ≡ None
  deep_less zero more set most none = cc
  deep_less (suc less) zero set most none = absurd (omega arith)
  deep_less (suc less) (suc more) set most none =
      first_lesser _ _
      (λ selection. lesser (set_beneath fragments selection) (deep_from fragments less) (deep_from fragments more)
      (λ inner. deep_less less more inner (omega arith)))
      (selections_of set) none

  -- the sets under a set that nests within one level more
  pub nests_beneath : (left : ℕ) (set : Positioned SelectionSet) (selection : Positioned Selection) (inner : Positioned SelectionSet)
      → deep_from fragments (suc left) set ≡ None → Contains (selections_of set) selection → set_beneath fragments selection ≡ Some inner
      → deep_from fragments left inner ≡ None
  nests_beneath left set selection inner none stands leads =
      let here = first_at (λ selection. option_and_then (deep_from fragments left) (set_beneath fragments selection)) (selections_of set) selection none stands in
      subst (λ o. option_and_then (deep_from fragments left) o ≡ None) leads here

  -- the set of a field, also an empty one, nests within the levels of the set that the field stands in
  pub field_nests : (levels : ℕ) (set : Positioned SelectionSet) (selection : Positioned Selection) (field : Positioned Field)
      → deep_from fragments levels set ≡ None → Contains (selections_of set) selection → out-Selection selection.node ≡ Selection-F.Field field
      → deep_from fragments levels (field_set field) ≡ None
  field_nests zero set selection field none stands is = cc
  field_nests (suc left) set selection field none stands is =
      let by : (xs : List (Positioned Selection)) → selections_of (field_set field) ≡ xs → deep_from fragments (suc left) (field_set field) ≡ None =
      elim [
        | [] ↦ λ empty. subst (λ xs. first_in (λ x. option_and_then (deep_from fragments left) (set_beneath fragments x)) xs ≡ None) (sym empty) refl
        | (x ∷ xs) ↦ λ some.
            let leads : set_beneath fragments selection ≡ Some (field_set field) = ap (set_under fragments) is ∙ ap (λ ys. if_any ys (field_set field)) some in
            deep_less left (suc left) (field_set field) (omega arith) (nests_beneath left set selection (field_set field) none stands leads)
      ] in
      by _ refl
