-- Selections that nest within the levels of a reader.
use Rattle.std.specs.Prelude.{◌≡◌, ℕ, true, List, Some, slice_get}
use Rattle.gql_doc.specs.Depth.{operation_set, selections_of}
use Rattle.gql_doc.specs.declared.document.Field.{Field}
use Rattle.gql_doc.specs.declared.document.OperationDefinition.{OperationDefinition}
use Rattle.gql_doc.specs.declared.document.Positioned.{Positioned}
use Rattle.gql_doc.specs.declared.document.Selection.{Selection}
use Rattle.gql_select.specs.Collected.{own_selections}
use Rattle.gql_select.specs.Once.{nests}
use Rattle.gql_conflicts.specs.Groups.{united}
use Rattle.gql_conflicts.specs.declared.group.Group.{Group}
use Rattle.gql_conflicts.specs.declared.reader.Reader.{Reader}

module _ (reader : Reader) where
  -- the reader's levels suffice for selections, where it enters each fragment once
  abbrev pub Nests : List (Positioned Selection) → Type 0
  Nests selections =
      reader.once ≡ true → nests reader.fragments.now reader.levels selections ≡ true

  -- they suffice for the set of each field, of a group or of each group, and of an operation or of
  -- each operation
  abbrev pub FieldsNest : List (Positioned Field) → Type 0
  FieldsNest fields =
      (place : ℕ) (field : Positioned Field) → slice_get fields place ≡ Some field
      → Nests (own_selections field)

  abbrev pub GroupNests : Group → Type 0
  GroupNests group = Nests (own_selections (united group))

  abbrev pub GroupsNest : List Group → Type 0
  GroupsNest groups =
      (place : ℕ) (group : Group) → slice_get groups place ≡ Some group → GroupNests group

  abbrev pub OperationNests : Positioned OperationDefinition → Type 0
  OperationNests operation = Nests (selections_of (operation_set operation))

  abbrev pub OperationsNest : List (Positioned OperationDefinition) → Type 0
  OperationsNest operations =
      (place : ℕ) (operation : Positioned OperationDefinition)
      → slice_get operations place ≡ Some operation → OperationNests operation
