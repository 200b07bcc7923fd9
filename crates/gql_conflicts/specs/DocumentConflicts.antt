-- The conflicts between fields of one key in a document (GraphQL, October 2021, section 5.3.2).
-- Each operation is followed from its root through the fragments that it reaches. On each object
-- that is possible at a set, the first occurrence of a key that doesn't ask what the key's first
-- occurrence asks is a conflict; under a key stand the sets of all its occurrences that ask what
-- the first one asks.
use Rattle.std.specs.Prelude.{◌≡◌, ◌↔◌, ℕ, List, [], Option, Some, None}
use Rattle.std.specs.List.{Contains, flat_map}
use Rattle.gql_doc.specs.Depth.{Fragments, operation_set, operations_in, selections_of}
use Rattle.gql_doc.specs.Document.{key_of}
use Rattle.gql_doc.specs.declared.document.ExecutableDocument.{ExecutableDocument}
use Rattle.gql_doc.specs.declared.document.Field.{Field}
use Rattle.gql_doc.specs.declared.document.OperationDefinition.{OperationDefinition}
use Rattle.gql_doc.specs.declared.document.Positioned.{Positioned}
use Rattle.gql_doc.specs.declared.document.Selection.{Selection}
use Rattle.gql_select.specs.Conflicts.{conflicts}
use Rattle.gql_select.specs.Documents.{reading}
use Rattle.gql_conflicts.specs.Rooted.{Rooted, root_of, setting_of}
use Rattle.gql_conflicts.specs.declared.conflict.Conflict.{Conflict}

-- what is told of an occurrence
abbrev pub told : Positioned Field → Conflict
told field = record { pos = field.pos; key = (key_of field.node).node }

-- the conflicts in selections on an object, and under them, in so many levels
abbrev pub conflicts_on : Rooted → Fragments → ℕ → List ℕ → List (Positioned Selection)
    → List Conflict
conflicts_on rooted fragments levels object selections =
    conflicts (reading (setting_of rooted fragments levels)) told levels object selections

-- those on the root, where there is one
abbrev pub conflicts_at : Rooted → Fragments → ℕ → Option (List ℕ) → List (Positioned Selection)
    → List Conflict
conflicts_at rooted fragments levels None selections = []
conflicts_at rooted fragments levels (Some root) selections =
    conflicts_on rooted fragments levels root selections

-- those of an operation
abbrev pub operation_conflicts : Rooted → Fragments → ℕ → Positioned OperationDefinition
    → List Conflict
operation_conflicts rooted fragments levels operation =
    conflicts_at rooted fragments levels (root_of rooted operation.node.ty)
    (selections_of (operation_set operation))

-- those of all operations of a document whose sets nest within so many levels
abbrev pub document_conflicts : Rooted → ExecutableDocument → ℕ → List Conflict
document_conflicts rooted document levels =
    flat_map (operation_conflicts rooted document.fragments levels)
    (operations_in document.operations)

-- whether it is a conflict of the document
abbrev pub IsConflict : Rooted → ExecutableDocument → ℕ → Conflict → Type 0
IsConflict rooted document levels conflict =
    Contains (document_conflicts rooted document levels) conflict

-- a list tells exactly the conflicts of the document, in whichever order and how often whatever
pub record Lists (rooted : Rooted) (document : ExecutableDocument) (levels : ℕ)
    (list : List Conflict) : Type 0 where
  pub exact : (found : Conflict) → Contains list found ↔ IsConflict rooted document levels found

-- a document has no conflict, whatever the types are and however deep its sets nest
abbrev pub IsClear : ExecutableDocument → Type 0
IsClear document =
    (rooted : Rooted) (levels : ℕ) → document_conflicts rooted document levels ≡ []
