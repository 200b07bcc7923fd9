-- The sets of collected and united fields nest within the levels of the set that the fields stand in.
use Rattle.std.proofs.Common.{◌≡◌, ℕ, zero, suc, Bool, true, false, cond, List, [], ◌∷◌, ◌++◌, Option, Some, None, refl, ap, sym, subst, arith}
use Rattle.std.specs.Prelude.{option_and_then, option_map}
use Rattle.std.specs.List.{AllByRecursion, Contains, flat_map}
use Rattle.std.specs.Option.{option_or}
use Rattle.gql_base.specs.Pairs.{under}
use Rattle.gql_doc.proofs.DepthLaws.{deep_less, field_nests, nests_beneath}
use Rattle.gql_doc.specs.Depth.{deep_from, field_set, fragment_set, selections_of, set_beneath, set_under}
use Rattle.gql_doc.specs.First.{first_in}
use Rattle.gql_doc.specs.declared.document.Field.{Field}
use Rattle.gql_doc.specs.declared.document.FragmentDefinition.{FragmentDefinition}
use Rattle.gql_doc.specs.declared.document.InlineFragment.{InlineFragment, out-InlineFragment}
use Rattle.gql_doc.specs.declared.document.Positioned.{Positioned}
use Rattle.gql_doc.specs.declared.document.Selection.{out-Selection, Selection}
use Rattle.gql_doc.specs.declared.document.Selection.TheOpen.{Selection-F}
use Rattle.gql_doc.specs.declared.document.SelectionSet.{SelectionSet}
use Rattle.gql_select.proofs.DocumentLemmas.{set_of_both}
use Rattle.gql_select.proofs.MergeLemmas.{first_in as first_contained, later_in}
use Rattle.gql_select.specs.Collected.{collect_within, fields_of, fields_of_spread, fields_under, own_selections, Setting}
use Rattle.gql_select.specs.Documents.{both}

none_step : {B : Type 0} (o rest all : Option B) → (rest ≡ None → all ≡ None) → option_or o rest ≡ None → option_or o all ≡ None
none_step None rest all next h = next h
none_step (Some b) rest all next h = cc

pub none_both : {A B : Type 0} (f : A → Option B) (xs ys : List A) → first_in f xs ≡ None → first_in f ys ≡ None → first_in f (xs ++ ys) ≡ None
none_both f [] ys one other = other
none_both f (x ∷ xs) ys one other = none_step (f x) (first_in f xs) (first_in f (xs ++ ys)) (λ h. none_both f xs ys h other) one

pub every_both : {X : Type 0} (P : X → Type 0) (xs ys : List X) → AllByRecursion P xs → AllByRecursion P ys → AllByRecursion P (xs ++ ys)
every_both P [] ys h k = k
every_both P (x ∷ xs) ys h k = (h.0, every_both P xs ys h.1 k)

module _ (setting : Setting) (object : List ℕ) (n : ℕ) where
  -- the set of a field nests
  abbrev pub FieldNests : Positioned Field → Type 0
  FieldNests field = deep_from setting.fragments n (field_set field) ≡ None

  -- so does the set of united fields
  pub both_nests : (f g : Positioned Field) → FieldNests f → FieldNests g → FieldNests (both f g)
  both_nests f g one other = by n one other
    where
      by : (m : ℕ) → deep_from setting.fragments m (field_set f) ≡ None → deep_from setting.fragments m (field_set g) ≡ None
          → deep_from setting.fragments m (field_set (both f g)) ≡ None
      by zero h k = cc
      by (suc m) h k =
          subst (λ xs. first_in (λ selection. option_and_then (deep_from setting.fragments m) (set_beneath setting.fragments selection)) xs ≡ None) (sym (set_of_both f g))
          (none_both _ (own_selections f) (own_selections g) h k)

  -- what nests under a set nests within as many levels
  beneath_nests : (m : ℕ) (set : Positioned SelectionSet) (selection : Positioned Selection) (inner : Positioned SelectionSet)
      → deep_from setting.fragments m set ≡ None → Contains (selections_of set) selection → set_beneath setting.fragments selection ≡ Some inner
      → deep_from setting.fragments m inner ≡ None
  beneath_nests zero set selection inner none at leads = cc
  beneath_nests (suc m) set selection inner none at leads =
      deep_less setting.fragments m (suc m) inner (omega arith) (nests_beneath setting.fragments m set selection inner none at leads)

  -- what holds of each field that stands in a set that nests holds of all that are collected in it
  module _ (P : Positioned Field → Type 0)
      (field_here : (set : Positioned SelectionSet) (selection : Positioned Selection) (field : Positioned Field)
      → deep_from setting.fragments n set ≡ None → Contains (selections_of set) selection → out-Selection selection.node ≡ Selection-F.Field field → P field) where
    tested_nests : (is_covered : Bool) (fields : List (Positioned Field)) → AllByRecursion P fields → AllByRecursion P (cond is_covered fields [])
    tested_nests true fields h = h
    tested_nests false fields h = tt

    module _ (left : ℕ) (deeper : (set : Positioned SelectionSet) → deep_from setting.fragments n set ≡ None
        → AllByRecursion P (collect_within setting left object (selections_of set))) where
      fragment_nests : (set : Positioned SelectionSet) (selection : Positioned Selection) (found : Option (Positioned FragmentDefinition))
          → deep_from setting.fragments n set ≡ None → Contains (selections_of set) selection
          → set_beneath setting.fragments selection ≡ option_map fragment_set found
          → AllByRecursion P (fields_of_spread setting object (collect_within setting left object) found)
      fragment_nests set selection None none at leads = tt
      fragment_nests set selection (Some fragment) none at leads =
          tested_nests (setting.covers fragment.node.type_condition.node object) _
          (deeper (fragment_set fragment) (beneath_nests n set selection (fragment_set fragment) none at leads))

      inline_nests : (condition : Option (Positioned (List ℕ))) (inner : Positioned SelectionSet) → deep_from setting.fragments n inner ≡ None
          → AllByRecursion P (fields_under setting object (collect_within setting left object) condition (selections_of inner))
      inline_nests None inner none = deeper inner none
      inline_nests (Some condition) inner none = tested_nests (setting.covers condition.node object) _ (deeper inner none)

      selection_nests : (set : Positioned SelectionSet) (selection : Positioned Selection) (opened : Selection-F Selection Field InlineFragment SelectionSet)
          → deep_from setting.fragments n set ≡ None → Contains (selections_of set) selection → out-Selection selection.node ≡ opened
          → AllByRecursion P (fields_of setting object (collect_within setting left object) opened)
      selection_nests set selection (Selection-F.Field field) none at is = (field_here set selection field none at is, tt)
      selection_nests set selection (Selection-F.FragmentSpread spread) none at is =
          fragment_nests set selection (under spread.node.fragment_name.node setting.fragments) none at (ap (set_under setting.fragments) is)
      selection_nests set selection (Selection-F.InlineFragment fragment) none at is =
          inline_nests (out-InlineFragment fragment.node).type_condition (out-InlineFragment fragment.node).selection_set
          (beneath_nests n set selection (out-InlineFragment fragment.node).selection_set none at (ap (set_under setting.fragments) is))

      all_nest : (set : Positioned SelectionSet) → deep_from setting.fragments n set ≡ None → (xs : List (Positioned Selection))
          → ((x : Positioned Selection) → Contains xs x → Contains (selections_of set) x)
          → AllByRecursion P (flat_map (λ selection. fields_of setting object (collect_within setting left object) (out-Selection selection.node)) xs)
      all_nest set none [] within = tt
      all_nest set none (x ∷ xs) within =
          every_both P _ _ (selection_nests set x (out-Selection x.node) none (within x (first_contained x xs)) refl)
          (all_nest set none xs (λ y at. within y (later_in x y xs at)))

    pub collected_all : (left : ℕ) (set : Positioned SelectionSet) → deep_from setting.fragments n set ≡ None
        → AllByRecursion P (collect_within setting left object (selections_of set))
    collected_all zero set none = tt
    collected_all (suc left) set none = all_nest left (collected_all left) set none (selections_of set) (λ x at. at)

  -- the sets of all fields that are collected in a set nest within the levels of that set
  pub collected_nest : (left : ℕ) (set : Positioned SelectionSet) → deep_from setting.fragments n set ≡ None
      → AllByRecursion FieldNests (collect_within setting left object (selections_of set))
  collected_nest = collected_all FieldNests (λ set selection field none at is. field_nests setting.fragments n set selection field none at is)
