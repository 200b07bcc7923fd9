-- Fields with too many directives. The walk is that of the depth of sets: spreads are entered where
-- they stand.
use Rattle.std.specs.Prelude.{ℕ, zero, suc, length, nat_lt, Option, Some, None}
use Rattle.std.specs.Prelude.{option_and_then}
use Rattle.std.specs.Prelude.{if◌then◌else◌}
use Rattle.std.specs.Option.{option_or}
use Rattle.gql_doc.specs.Depth.{Fragments, operation_set, operations_in, selections_of, set_beneath}
use Rattle.gql_doc.specs.First.{first_in}
use Rattle.gql_doc.specs.declared.document.ExecutableDocument.{ExecutableDocument}
use Rattle.gql_doc.specs.declared.document.Field.{Field, out-Field}
use Rattle.gql_doc.specs.declared.document.InlineFragment.{InlineFragment}
use Rattle.gql_doc.specs.declared.document.Positioned.{Positioned}
use Rattle.gql_doc.specs.declared.document.Selection.{Selection, out-Selection}
use Rattle.gql_doc.specs.declared.document.Selection.TheOpen.{Selection-F}
use Rattle.gql_doc.specs.declared.document.SelectionSet.{SelectionSet}

-- the field that a selection is, if it has more directives than the limit
abbrev pub crowded_here : ℕ → Selection-F Selection Field InlineFragment SelectionSet
    → Option (Positioned Field)
crowded_here limit (Selection-F.Field field) = if nat_lt limit
    (length (out-Field field.node).directives) then Some field else None
crowded_here limit (Selection-F.FragmentSpread spread) = None
crowded_here limit (Selection-F.InlineFragment fragment) = None

-- the first such field in document order, in so many levels of sets
abbrev pub crowded_from : Fragments → ℕ → ℕ → Positioned SelectionSet → Option (Positioned Field)
crowded_from fragments limit zero set = None
crowded_from fragments limit (suc left) set =
    first_in
    (λ selection.
    option_or (crowded_here limit (out-Selection selection.node))
    (option_and_then (crowded_from fragments limit left) (set_beneath fragments selection)))
    (selections_of set)

-- the first field of a document's operations with more directives than the limit, where sets nest
-- within so many levels
abbrev pub crowded : ExecutableDocument → ℕ → ℕ → Option (Positioned Field)
crowded document limit levels =
    first_in (λ operation. crowded_from document.fragments limit levels (operation_set operation))
    (operations_in document.operations)
