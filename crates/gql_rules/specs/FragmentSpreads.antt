-- Which fragments are spread in which. Fragments are told by their places in the document.
use Rattle.std.specs.Prelude.{ℕ, List, map}
use Rattle.std.specs.List.{flat_map}
use Rattle.std.specs.Option.{option_to_list}
use Rattle.gql_base.specs.Names.{place_of}
use Rattle.gql_base.specs.Pairs.{names_of, values_of}
use Rattle.gql_doc.specs.Depth.{Fragments, fragment_set}
use Rattle.gql_doc.specs.declared.document.Field.{Field}
use Rattle.gql_doc.specs.declared.document.FragmentDefinition.{FragmentDefinition}
use Rattle.gql_doc.specs.declared.document.InlineFragment.{InlineFragment}
use Rattle.gql_doc.specs.declared.document.Positioned.{Positioned}
use Rattle.gql_doc.specs.declared.document.Selection.{Selection}
use Rattle.gql_doc.specs.declared.document.Selection.TheOpen.{Selection-F, Field-F}
use Rattle.gql_doc.specs.declared.document.Selection.TheOpen.{InlineFragment-F, SelectionSet-F}
use Rattle.gql_doc.specs.declared.document.Selection.TheFolds.{fold-Field, fold-InlineFragment}
use Rattle.gql_doc.specs.declared.document.Selection.TheFolds.{fold-Selection, fold-SelectionSet}
use Rattle.gql_doc.specs.declared.document.SelectionSet.{SelectionSet}

-- one level of each part of a document, with the places of what is spread under
abbrev pub field_step : Field-F (List ℕ) (List ℕ) (List ℕ) (List ℕ) → List ℕ
field_step field = field.selection_set.node

abbrev pub inline_step : InlineFragment-F (List ℕ) (List ℕ) (List ℕ) (List ℕ) → List ℕ
inline_step fragment = fragment.selection_set.node

abbrev pub set_step : SelectionSet-F (List ℕ) (List ℕ) (List ℕ) (List ℕ) → List ℕ
set_step set = flat_map (λ selection. selection.node) set.items

module _ (names : List (List ℕ)) where
  -- a spread has the place of its fragment, if there is one
  abbrev pub selection_step : Selection-F (List ℕ) (List ℕ) (List ℕ) (List ℕ) → List ℕ
  selection_step (Selection-F.Field field) = field.node
  selection_step (Selection-F.FragmentSpread spread) =
      option_to_list (place_of spread.node.fragment_name.node names)
  selection_step (Selection-F.InlineFragment fragment) = fragment.node

  abbrev pub selection_spreads : Selection → List ℕ
  selection_spreads =
      fold-Selection (List ℕ) (List ℕ) (List ℕ) (List ℕ) selection_step field_step inline_step
      set_step

  abbrev pub field_spreads : Field → List ℕ
  field_spreads =
      fold-Field (List ℕ) (List ℕ) (List ℕ) (List ℕ) selection_step field_step inline_step set_step

  abbrev pub inline_spreads : InlineFragment → List ℕ
  inline_spreads =
      fold-InlineFragment (List ℕ) (List ℕ) (List ℕ) (List ℕ) selection_step field_step inline_step
      set_step

  -- the places of the known fragments that are spread in a set, at whatever depth
  abbrev pub set_spreads : SelectionSet → List ℕ
  set_spreads =
      fold-SelectionSet (List ℕ) (List ℕ) (List ℕ) (List ℕ) selection_step field_step inline_step
      set_step

-- the places of the fragments that are spread in a fragment
abbrev pub spread_in : List (List ℕ) → Positioned FragmentDefinition → List ℕ
spread_in names fragment = set_spreads names (fragment_set fragment).node

-- for each fragment, which fragments are spread in it
abbrev pub graph_of : Fragments → List (List ℕ)
graph_of fragments = map (spread_in (names_of fragments)) (values_of fragments)
