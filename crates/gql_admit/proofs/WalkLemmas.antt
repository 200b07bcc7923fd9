-- Steps of a walk over sets, whatever it looks for.
use Rattle.std.proofs.Common.{◌≡◌, ℕ, zero, suc, List, [], ◌∷◌, Option, Some, None, slice_get, slice_set, refl, ap, sym, ◌∙◌, inl, inr}
use Rattle.std.specs.Prelude.{◌⊎◌, option_and_then}
use Rattle.std.specs.Option.{option_map}
use Rattle.gql_base.specs.Names.{place_of}
use Rattle.gql_base.specs.Pairs.{names_of, under, values_of}
use Rattle.gql_doc.specs.declared.document.Positioned.{Positioned}
use Rattle.gql_doc.specs.declared.document.Selection.{Selection}
use Rattle.gql_doc.specs.declared.document.SelectionSet.{SelectionSet}
use Rattle.gql_doc.specs.Depth.{Fragments, fragment_set, if_any}
use Rattle.gql_fields.proofs.PairLemmas.{under_at}

-- a set that isn't empty
pub if_some : (selections : List (Positioned Selection)) (set : Positioned SelectionSet) → (selections ≡ [] → ⊥) → if_any selections set ≡ Some set
if_some [] set some = absurd (some refl)
if_some (x ∷ xs) set some = refl

-- what stands at a place after a write
pub written_at : {A : Type 0} (xs : List A) (i j : ℕ) (v w : A) → slice_get (slice_set xs i v) j ≡ Some w
    → ((i ≡ j) × (v ≡ w)) ⊎ (slice_get xs j ≡ Some w)
written_at [] i j v w at = inr at
written_at (x ∷ xs) zero zero v w at =
    let same : v ≡ w = cc in
    inl (refl, same)
written_at (x ∷ xs) zero (suc j) v w at = inr at
written_at (x ∷ xs) (suc i) zero v w at = inr at
written_at (x ∷ xs) (suc i) (suc j) v w at =
    elim (written_at xs i j v w at) [ inl h ↦ inl (ap suc h.0, h.1) | inr h ↦ inr h ]

-- what is found under a spread, by the place of its name
pub spread_found : {B : Type 0} (f : Positioned SelectionSet → Option B) (fragments : Fragments) (sought name : List ℕ) (place : Option ℕ) (found : Option B)
    → sought ≡ name → place ≡ place_of sought (names_of fragments)
    → found ≡ option_and_then f (option_map fragment_set (option_and_then (slice_get (values_of fragments)) place))
    → found ≡ option_and_then f (option_map fragment_set (under name fragments))
spread_found f fragments sought name place found same at told =
    told
    ∙ sym (ap (λ o. option_and_then f (option_map fragment_set o)) (ap (λ n. under n fragments) (sym same) ∙ under_at sought fragments place at))

-- and where nothing is to be found under a spread
pub spread_none : {B : Type 0} (f : Positioned SelectionSet → Option B) (fragments : Fragments) (sought name : List ℕ) (place : Option ℕ)
    → sought ≡ name → place ≡ place_of sought (names_of fragments) → option_and_then f (option_map fragment_set (under name fragments)) ≡ None
    → option_and_then f (option_map fragment_set (option_and_then (slice_get (values_of fragments)) place)) ≡ None
spread_none f fragments sought name place same at none =
    sym (ap (λ o. option_and_then f (option_map fragment_set o)) (ap (λ n. under n fragments) (sym same) ∙ under_at sought fragments place at))
    ∙ none
