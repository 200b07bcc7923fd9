-- How deep the sets of a document lie. The set of a field that has one, that of a known fragment
-- where it is spread and that of an inline fragment lie one level deeper than the set around them.
use Rattle.std.specs.Prelude.{ℕ, zero, suc, List, [], ◌∷◌, Option, Some, None, option_and_then}
use Rattle.std.specs.Option.{option_map}
use Rattle.gql_base.specs.declared.pos.Pos.{Pos}
use Rattle.gql_base.specs.Pairs.{under, values_of}
use Rattle.gql_doc.specs.declared.document.Positioned.{Positioned}
use Rattle.gql_doc.specs.declared.document.ExecutableDocument.{ExecutableDocument}
use Rattle.gql_doc.specs.declared.document.DocumentOperations.{DocumentOperations}
use Rattle.gql_doc.specs.declared.document.DocumentOperations.TheVariants.{Single, Multiple}
use Rattle.gql_doc.specs.declared.document.OperationDefinition.{OperationDefinition}
use Rattle.gql_doc.specs.declared.document.FragmentDefinition.{FragmentDefinition}
use Rattle.gql_doc.specs.declared.document.SelectionSet.{SelectionSet, out-SelectionSet}
use Rattle.gql_doc.specs.declared.document.Selection.{Selection, out-Selection}
use Rattle.gql_doc.specs.declared.document.Selection.TheOpen.{Selection-F}
use Rattle.gql_doc.specs.declared.document.Field.{Field, out-Field}
use Rattle.gql_doc.specs.declared.document.InlineFragment.{InlineFragment, out-InlineFragment}
use Rattle.gql_doc.specs.First.{first_in}

-- the fragments of a document under their names
abbrev pub Fragments : Type 0
Fragments = List (List ℕ × Positioned FragmentDefinition)

abbrev pub selections_of : Positioned SelectionSet → List (Positioned Selection)
selections_of set = (out-SelectionSet set.node).items

-- the set, unless it is empty, as that of a field without one is
abbrev pub if_any : List (Positioned Selection) → Positioned SelectionSet
    → Option (Positioned SelectionSet)
if_any [] set = None
if_any (selection ∷ selections) set = Some set

abbrev pub field_set : Positioned Field → Positioned SelectionSet
field_set field = (out-Field field.node).selection_set

abbrev pub fragment_set : Positioned FragmentDefinition → Positioned SelectionSet
fragment_set fragment = fragment.node.selection_set

abbrev pub set_under : Fragments → Selection-F Selection Field InlineFragment SelectionSet
    → Option (Positioned SelectionSet)
set_under fragments (Selection-F.Field field) =
    if_any (selections_of (field_set field)) (field_set field)
set_under fragments (Selection-F.FragmentSpread spread) = option_map fragment_set
    (under spread.node.fragment_name.node fragments)
set_under fragments (Selection-F.InlineFragment fragment) =
    Some (out-InlineFragment fragment.node).selection_set

-- the set one level deeper that a selection leads to, entering a spread where it stands
abbrev pub set_beneath : Fragments → Positioned Selection → Option (Positioned SelectionSet)
set_beneath fragments selection = set_under fragments (out-Selection selection.node)

-- The place of the first set that lies too deep, in document order, where so many levels of sets
-- are left, that of this set among them. So sets nest within n levels where this is `None`, and a
-- fragment that is spread within itself is too deep.
abbrev pub deep_from : Fragments → ℕ → Positioned SelectionSet → Option Pos
deep_from fragments zero set = Some set.pos
deep_from fragments (suc left) set =
    first_in
    (λ selection. option_and_then (deep_from fragments left) (set_beneath fragments selection))
    (selections_of set)

abbrev pub operation_set : Positioned OperationDefinition → Positioned SelectionSet
operation_set operation = operation.node.selection_set

-- the operations of a document, in its order
abbrev pub operations_in : DocumentOperations → List (Positioned OperationDefinition)
operations_in (Single operation) = operation ∷ []
operations_in (Multiple operations) = values_of operations

-- the place of the first set that lies deeper than the limit, where the set of an operation has
-- depth 0
abbrev pub deep : ExecutableDocument → ℕ → Option Pos
deep document limit =
    first_in (λ operation. deep_from document.fragments (suc limit) (operation_set operation))
    (operations_in document.operations)
