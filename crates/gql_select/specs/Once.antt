-- CollectFields as it goes through a document (GraphQL, October 2021, section 6.3.2): a fragment is
-- entered at its first spread alone, whatever its set gives.
use Rattle.std.specs.Prelude.{ℕ, zero, suc, Bool, false, List, [], ◌∷◌, ◌++◌, fold}
use Rattle.std.specs.Prelude.{Option, Some, None, option_and_then}
use Rattle.std.specs.Prelude.{if◌then◌else◌}
use Rattle.std.specs.Option.{is_none}
use Rattle.std.specs.Str.{bytes_eq}
use Rattle.gql_base.specs.Pairs.{under}
use Rattle.gql_doc.specs.Depth.{deep_from, Fragments, fragment_set, selections_of, set_beneath}
use Rattle.gql_doc.specs.First.{first_in}
use Rattle.gql_doc.specs.declared.document.Field.{Field}
use Rattle.gql_doc.specs.declared.document.FragmentDefinition.{FragmentDefinition}
use Rattle.gql_doc.specs.declared.document.InlineFragment.{InlineFragment, out-InlineFragment}
use Rattle.gql_doc.specs.declared.document.Positioned.{Positioned}
use Rattle.gql_doc.specs.declared.document.Selection.{Selection, out-Selection}
use Rattle.gql_doc.specs.declared.document.Selection.TheOpen.{Selection-F}
use Rattle.gql_doc.specs.declared.document.SelectionSet.{SelectionSet}
use Rattle.gql_lists.specs.Sets.{is_among}
use Rattle.gql_select.specs.Collected.{Setting}
use Rattle.gql_select.specs.Documents.{reading}
use Rattle.gql_select.specs.Fewer.{LeavesOut}

-- the names of the fragments that were entered, and the fields so far
pub record Walk : Type 0 where
  pub entered : List (List ℕ)
  pub fields : List (Positioned Field)

-- at the start there are none
abbrev pub nothing : Walk
nothing = record { entered = []; fields = [] }

-- whether the fragment of a name was entered
abbrev pub is_entered : List ℕ → Walk → Bool
is_entered name walk = is_among bytes_eq name walk.entered

module _ (setting : Setting) (object : List ℕ)
    (deeper : Walk → List (Positioned Selection) → Walk) (walk : Walk) where
  -- through a named fragment, if there is one and it applies to the object: then it is entered
  abbrev pub enter : List ℕ → Option (Positioned FragmentDefinition) → Walk
  enter name None = walk
  enter name (Some fragment) =
      if setting.covers fragment.node.type_condition.node object
      then deeper (record walk { entered = name ∷ walk.entered })
      (selections_of (fragment_set fragment)) else walk

  -- through the fragment of a name, unless it was entered
  abbrev pub once_spread : List ℕ → Walk
  once_spread name =
      if is_entered name walk then walk else enter name (under name setting.fragments)

  -- through a fragment in place, which applies to each object where it has no condition
  abbrev pub once_under : Option (Positioned (List ℕ)) → List (Positioned Selection) → Walk
  once_under None selections = deeper walk selections
  once_under (Some condition) selections =
      if setting.covers condition.node object then deeper walk selections else walk

  abbrev pub once_inline : InlineFragment → Walk
  once_inline fragment = once_under (out-InlineFragment fragment).type_condition
      (selections_of (out-InlineFragment fragment).selection_set)

  -- through a selection
  abbrev pub once_of : Selection-F Selection Field InlineFragment SelectionSet → Walk
  once_of (Selection-F.Field field) = record walk { fields = walk.fields ++ field ∷ [] }
  once_of (Selection-F.FragmentSpread spread) = once_spread spread.node.fragment_name.node
  once_of (Selection-F.InlineFragment fragment) = once_inline fragment.node

-- through selections in order, as many levels of fragments deep as are left
abbrev pub once_within : Setting → ℕ → List ℕ → Walk → List (Positioned Selection) → Walk
once_within setting zero object walk selections = walk
once_within setting (suc left) object walk selections =
    fold (λ walk selection. once_of setting object (once_within setting left object) walk
    (out-Selection selection.node)) walk selections

-- an object's fields in the selections, where each fragment is entered once
abbrev pub collect_once : Setting → List ℕ → List (Positioned Selection) → List (Positioned Field)
collect_once setting object selections =
    (once_within setting setting.levels object nothing selections).fields

-- whether selections, with what they spread, nest within so many levels, that of their own set
-- among them
abbrev pub nests : Fragments → ℕ → List (Positioned Selection) → Bool
nests fragments zero selections = false
nests fragments (suc left) selections =
    is_none
    (first_in
    (λ selection. option_and_then (deep_from fragments left) (set_beneath fragments selection))
    selections)

-- in sets that nest within the levels, entering each fragment once leaves out repetitions alone
abbrev pub OnceLeavesOut : Type 0
OnceLeavesOut = (setting : Setting)
    → LeavesOut (reading setting) (collect_once setting) (nests setting.fragments setting.levels)
