-- How deep the selections lie that are left of a set, and the sets under them.
use Rattle.std.proofs.Common.{◌≡◌, ℕ, zero, suc, ◌-◌, ◌<◌, ◌≤◌, List, [], ◌∷◌, Option, Some, None, refl, ap, sym, subst, ◌∙◌, arith}
use Rattle.std.specs.Prelude.{option_and_then}
use Rattle.std.specs.Option.{option_map, option_or}
use Rattle.gql_base.specs.Pairs.{under}
use Rattle.gql_doc.specs.Depth.{Fragments, deep_from, field_set, fragment_set, if_any, selections_of, set_beneath, set_under}
use Rattle.gql_doc.specs.First.{first_in}
use Rattle.gql_doc.specs.declared.document.Field.{Field}
use Rattle.gql_doc.specs.declared.document.FragmentDefinition.{FragmentDefinition}
use Rattle.gql_doc.specs.declared.document.FragmentSpread.{FragmentSpread}
use Rattle.gql_doc.specs.declared.document.InlineFragment.{InlineFragment, out-InlineFragment}
use Rattle.gql_doc.specs.declared.document.Positioned.{Positioned}
use Rattle.gql_doc.specs.declared.document.Selection.{Selection, out-Selection}
use Rattle.gql_doc.specs.declared.document.Selection.TheOpen.{Selection-F}
use Rattle.gql_doc.specs.declared.document.SelectionSet.{SelectionSet}
use Rattle.gql_doc.proofs.DepthLaws.{deep_less}
use Rattle.gql_request.specs.QueryEnv.{NestsIn, levels_of}
use Rattle.gql_request.specs.declared.query_env.QueryEnv.{QueryEnv}
use Rattle.gql_resolve.specs.Nesting.{RestNests}

none_first : {A : Type 0} (a b : Option A) → option_or a b ≡ None → a ≡ None
none_first None b none = refl
none_first (Some x) b none = none

none_second : {A : Type 0} (a b : Option A) → option_or a b ≡ None → b ≡ None
none_second None b none = none
none_second (Some x) b none = cc

-- a set that nests is one whose selections do
pub set_nests : (fragments : Fragments) (left : ℕ) (set : Positioned SelectionSet) → deep_from fragments left set ≡ None → RestNests fragments left (selections_of set)
set_nests fragments zero set none = cc
set_nests fragments (suc left) set none = none

-- that what stands under a selection nests within one level less
abbrev pub FirstNests : Fragments → ℕ → Positioned Selection → Type 0
FirstNests fragments left selection = option_and_then (deep_from fragments (left - 1)) (set_beneath fragments selection) ≡ None

module _ (fragments : Fragments) (left : ℕ) (first : Positioned Selection) (rest : List (Positioned Selection)) (nests : RestNests fragments left (first ∷ rest)) where
  pub rest_nests : RestNests fragments left rest
  rest_nests = by left nests
    where
      by : (n : ℕ) → RestNests fragments n (first ∷ rest) → RestNests fragments n rest
      by zero none = cc
      by (suc n) none = none_second _ _ none

  pub some_levels : 0 < left
  some_levels = by left nests
    where
      by : (n : ℕ) → RestNests fragments n (first ∷ rest) → 0 < n
      by zero none = cc
      by (suc n) none = omega arith

  pub first_nests : FirstNests fragments left first
  first_nests = by left nests
    where
      by : (n : ℕ) → RestNests fragments n (first ∷ rest) → option_and_then (deep_from fragments (n - 1)) (set_beneath fragments first) ≡ None
      by zero none = cc
      by (suc n) none = let e : suc n - 1 ≡ n = omega arith in rw e (none_first _ _ none)

  pub inline_nests : (fragment : Positioned InlineFragment) → out-Selection first.node ≡ Selection-F.InlineFragment fragment
      → deep_from fragments (left - 1) (out-InlineFragment fragment.node).selection_set ≡ None
  inline_nests fragment is = subst (λ o. option_and_then (deep_from fragments (left - 1)) (set_under fragments o) ≡ None) is first_nests

  pub spread_nests : (spread : Positioned FragmentSpread) (fragment : Positioned FragmentDefinition) → out-Selection first.node ≡ Selection-F.FragmentSpread spread
      → under spread.node.fragment_name.node fragments ≡ Some fragment → deep_from fragments (left - 1) (fragment_set fragment) ≡ None
  spread_nests spread fragment is found =
      let at = subst (λ o. option_and_then (deep_from fragments (left - 1)) (set_under fragments o) ≡ None) is first_nests in
      subst (λ o. option_and_then (deep_from fragments (left - 1)) (option_map fragment_set o) ≡ None) found at

  -- the set of a field, also an empty one, nests within the levels that are left
  pub field_nests : (field : Positioned Field) → out-Selection first.node ≡ Selection-F.Field field → deep_from fragments left (field_set field) ≡ None
  field_nests field is = by left nests (selections_of (field_set field)) refl
    where
      by : (n : ℕ) → RestNests fragments n (first ∷ rest) → (xs : List (Positioned Selection)) → selections_of (field_set field) ≡ xs
          → deep_from fragments n (field_set field) ≡ None
      by zero none xs same = cc
      by (suc n) none [] same = subst (λ xs. first_in (λ x. option_and_then (deep_from fragments n) (set_beneath fragments x)) xs ≡ None) (sym same) refl
      by (suc n) none (x ∷ xs) same =
          let leads : set_beneath fragments first ≡ Some (field_set field) = ap (set_under fragments) is ∙ ap (λ ys. if_any ys (field_set field)) same in
          let at : option_and_then (deep_from fragments n) (set_beneath fragments first) ≡ None = none_first _ _ none in
          deep_less fragments n (suc n) (field_set field) (omega arith) (subst (λ o. option_and_then (deep_from fragments n) o ≡ None) leads at)

-- a field that is given has a set that nests within the levels of its query
pub given_nests : (env : QueryEnv) (left : ℕ) (first : Positioned Selection) (rest : List (Positioned Selection)) (field : Positioned Field)
    → RestNests env.fragments left (first ∷ rest) → left ≤ levels_of env → out-Selection first.node ≡ Selection-F.Field field → NestsIn env (field_set field)
given_nests env left first rest field nests inside is =
    deep_less env.fragments left (levels_of env) (field_set field) inside (field_nests env.fragments left first rest nests field is)
