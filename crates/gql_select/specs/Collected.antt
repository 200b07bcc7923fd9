-- The fields of selection sets, in document order, where fragments are entered (GraphQL, October
-- 2021, section 6.3.2).
use Rattle.std.specs.Prelude.{ℕ, zero, suc, Bool, List, [], ◌∷◌, Option, Some, None}
use Rattle.std.specs.Prelude.{if◌then◌else◌}
use Rattle.std.specs.List.{flat_map}
use Rattle.gql_base.specs.Pairs.{under}
use Rattle.gql_doc.specs.Depth.{Fragments, field_set, fragment_set, selections_of}
use Rattle.gql_doc.specs.declared.document.Field.{Field}
use Rattle.gql_doc.specs.declared.document.FragmentDefinition.{FragmentDefinition}
use Rattle.gql_doc.specs.declared.document.InlineFragment.{InlineFragment, out-InlineFragment}
use Rattle.gql_doc.specs.declared.document.Positioned.{Positioned}
use Rattle.gql_doc.specs.declared.document.Selection.{Selection, out-Selection}
use Rattle.gql_doc.specs.declared.document.Selection.TheOpen.{Selection-F}
use Rattle.gql_doc.specs.declared.document.SelectionSet.{SelectionSet}

-- what the fields of a request are read by
pub record Setting : Type 0 where
  pub fragments : Fragments
  -- how many levels of fragments are entered within one set, the set itself among them
  pub levels : ℕ
  -- whether a condition on a type (the first name) lets an object type (the second) in
  pub covers : List ℕ → List ℕ → Bool
  -- the object types that are possible under the field of a name (the second) on an object type
  -- (the first)
  pub beneath : List ℕ → List ℕ → List (List ℕ)

-- the selections of a field's own set
abbrev pub own_selections : Positioned Field → List (Positioned Selection)
own_selections field = selections_of (field_set field)

module _ (setting : Setting) (object : List ℕ)
    (deeper : List (Positioned Selection) → List (Positioned Field)) where
  -- the fields of a named fragment, if there is one and it applies to the object
  abbrev pub fields_of_spread : Option (Positioned FragmentDefinition) → List (Positioned Field)
  fields_of_spread None = []
  fields_of_spread (Some fragment) =
      if setting.covers fragment.node.type_condition.node object then deeper
      (selections_of (fragment_set fragment)) else []

  -- the fields of a fragment in place, which applies to each object where it has no condition
  abbrev pub fields_under : Option (Positioned (List ℕ)) → List (Positioned Selection)
      → List (Positioned Field)
  fields_under None selections = deeper selections
  fields_under (Some condition) selections =
      if setting.covers condition.node object then deeper selections else []

  -- the fields of a fragment in place
  abbrev pub fields_of_inline : InlineFragment → List (Positioned Field)
  fields_of_inline fragment = fields_under (out-InlineFragment fragment).type_condition
      (selections_of (out-InlineFragment fragment).selection_set)

  -- the fields that a selection stands for
  abbrev pub fields_of : Selection-F Selection Field InlineFragment SelectionSet
      → List (Positioned Field)
  fields_of (Selection-F.Field field) = field ∷ []
  fields_of (Selection-F.FragmentSpread spread) = fields_of_spread
      (under spread.node.fragment_name.node setting.fragments)
  fields_of (Selection-F.InlineFragment fragment) = fields_of_inline fragment.node

-- CollectFields: an object's fields in the selections, as many levels of fragments deep as are left
abbrev pub collect_within : Setting → ℕ → List ℕ → List (Positioned Selection)
    → List (Positioned Field)
collect_within setting zero object selections = []
collect_within setting (suc left) object selections =
    flat_map (λ selection. fields_of setting object (collect_within setting left object)
    (out-Selection selection.node)) selections

-- CollectFields: an object's fields in the selections
abbrev pub collect : Setting → List ℕ → List (Positioned Selection) → List (Positioned Field)
collect setting object selections = collect_within setting setting.levels object selections
