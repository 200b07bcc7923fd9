-- What the exact walk tells, part by part.
use Rattle.std.specs.Prelude.{ℕ, List}
use Rattle.std.specs.List.{flat_map}
use Rattle.gql_doc.specs.declared.document.Field.{Field}
use Rattle.gql_doc.specs.declared.document.OperationDefinition.{OperationDefinition}
use Rattle.gql_doc.specs.declared.document.Positioned.{Positioned}
use Rattle.gql_doc.specs.declared.document.Selection.{Selection}
use Rattle.gql_schema.specs.TableReading.{possible}
use Rattle.gql_select.specs.Alike.{name_of}
use Rattle.gql_select.specs.Collected.{own_selections}
use Rattle.gql_select.specs.Conflicts.{conflicts}
use Rattle.gql_select.specs.Documents.{reading}
use Rattle.gql_conflicts.specs.Reader.{fields_by, setting_by}
use Rattle.gql_conflicts.specs.DocumentConflicts.{operation_conflicts, told}
use Rattle.gql_conflicts.specs.Groups.{fields_tell}
use Rattle.gql_conflicts.specs.Rooted.{objects_beneath, rooted_of}
use Rattle.gql_conflicts.specs.declared.conflict.Conflict.{Conflict}
use Rattle.gql_conflicts.specs.declared.reader.Reader.{Reader}

-- an object's fields in selections, as the reader collects them
abbrev pub collected : Reader → List ℕ → List (Positioned Selection) → List (Positioned Field)
collected reader object selections = fields_by reader.once (setting_by reader) object selections

-- the objects that are possible under a field of an object
abbrev pub objects_at : Reader → List ℕ → Positioned Field → List (List ℕ)
objects_at reader object field =
    objects_beneath (rooted_of reader.rooted.now) object (name_of field)

-- the conflicts of an operation
abbrev pub operation_tells : Reader → Positioned OperationDefinition → List Conflict
operation_tells reader operation =
    operation_conflicts (rooted_of reader.rooted.now) reader.fragments.now reader.levels operation

module _ (reader : Reader) (left : ℕ) where
  -- the conflicts in selections on an object, and under them, in as many levels as are left
  abbrev pub set_tells : List (Positioned Selection) → List ℕ → List Conflict
  set_tells selections object = conflicts (reading (setting_by reader)) told left object selections

  -- those on each object of a type
  abbrev pub type_tells : List ℕ → List (Positioned Selection) → List Conflict
  type_tells ty selections =
      flat_map (set_tells selections) (possible (rooted_of reader.rooted.now).table ty)

  -- those in the set of a field of an object, on each object that is possible there
  abbrev pub beneath_tells : List ℕ → Positioned Field → List Conflict
  beneath_tells object field =
      flat_map (set_tells (own_selections field)) (objects_at reader object field)

  -- those among fields of an object, and under them
  abbrev pub among_tells : List ℕ → List (Positioned Field) → List Conflict
  among_tells object fields = fields_tell (setting_by reader) (beneath_tells object) fields
