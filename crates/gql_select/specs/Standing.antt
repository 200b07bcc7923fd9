-- How many selections stand in a document, at whatever depth: each counts once, where it stands,
-- however often its fragment is spread.
use Rattle.std.specs.Prelude.{ℕ, suc, ◌+◌, Bool, false, List, [], ◌∷◌, map, slice_index_or}
use Rattle.std.specs.Prelude.{if◌then◌else◌}
use Rattle.gql_base.specs.Pairs.{values_of}
use Rattle.gql_doc.specs.Depth.{Fragments, fragment_set, operation_set, operations_in}
use Rattle.gql_doc.specs.declared.document.DocumentOperations.{DocumentOperations}
use Rattle.gql_doc.specs.declared.document.ExecutableDocument.{ExecutableDocument}
use Rattle.gql_doc.specs.declared.document.FragmentDefinition.{FragmentDefinition}
use Rattle.gql_doc.specs.declared.document.OperationDefinition.{OperationDefinition}
use Rattle.gql_doc.specs.declared.document.Positioned.{Positioned}
use Rattle.gql_doc.specs.declared.document.Selection.{Selection}
use Rattle.gql_doc.specs.declared.document.Selection.TheOpen.{Selection-F, Field-F}
use Rattle.gql_doc.specs.declared.document.Selection.TheOpen.{InlineFragment-F, SelectionSet-F}
use Rattle.gql_doc.specs.declared.document.Selection.TheFolds.{fold-Selection, fold-SelectionSet}
use Rattle.gql_doc.specs.declared.document.SelectionSet.{SelectionSet}

-- one level of each part of a document, with the numbers of what stands under
abbrev pub selection_count : Selection-F ℕ ℕ ℕ ℕ → ℕ
selection_count (Selection-F.Field field) = suc field.node
selection_count (Selection-F.FragmentSpread spread) = 1
selection_count (Selection-F.InlineFragment fragment) = suc fragment.node

abbrev pub field_count : Field-F ℕ ℕ ℕ ℕ → ℕ
field_count field = field.selection_set.node

abbrev pub inline_count : InlineFragment-F ℕ ℕ ℕ ℕ → ℕ
inline_count fragment = fragment.selection_set.node

abbrev pub total : List ℕ → ℕ
total [] = 0
total (n ∷ ns) = n + total ns

abbrev pub set_count : SelectionSet-F ℕ ℕ ℕ ℕ → ℕ
set_count set = total (map (λ selection. selection.node) set.items)

-- a selection with those that stand under it
abbrev pub count_of : Selection → ℕ
count_of = fold-Selection ℕ ℕ ℕ ℕ selection_count field_count inline_count set_count

-- those of a set
abbrev pub standing : SelectionSet → ℕ
standing = fold-SelectionSet ℕ ℕ ℕ ℕ selection_count field_count inline_count set_count

-- those of some selections, one after another
abbrev pub standing_among : List (Positioned Selection) → ℕ
standing_among selections = total (map (λ selection. count_of selection.node) selections)

-- those of a fragment, and of all fragments
abbrev pub standing_under : Positioned FragmentDefinition → ℕ
standing_under fragment = standing (fragment_set fragment).node

abbrev pub standing_in : Fragments → ℕ
standing_in fragments = total (map standing_under (values_of fragments))

-- those of operations
abbrev pub standing_of : Positioned OperationDefinition → ℕ
standing_of operation = standing (operation_set operation).node

abbrev pub standing_by : DocumentOperations → ℕ
standing_by operations = total (map standing_of (operations_in operations))

-- all selections that stand in a document
abbrev pub selections_in : ExecutableDocument → ℕ
selections_in document = standing_by document.operations + standing_in document.fragments

-- the selections of the fragments whose places don't pass a test
abbrev pub standing_unless : (ℕ → Bool) → List (Positioned FragmentDefinition) → ℕ
standing_unless test [] = 0
standing_unless test (fragment ∷ fragments) =
    (if test 0 then 0 else standing_under fragment)
    + standing_unless (λ place. test (suc place)) fragments

-- whether the fragment at a place is marked as entered; where there is no mark it isn't
abbrev pub is_marked : List Bool → ℕ → Bool
is_marked entered place = slice_index_or entered place false

-- the selections of the fragments that weren't entered: those that a walk may still look at there
abbrev pub unentered : List (Positioned FragmentDefinition) → List Bool → ℕ
unentered fragments entered = standing_unless (is_marked entered) fragments
