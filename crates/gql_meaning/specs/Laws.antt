-- The laws on what execution means.
use Rattle.std.specs.Prelude.{◌≡◌, ℕ, true, List, [], length, Option, Result}
use Rattle.std.specs.List.{Contains}
use Rattle.gql_base.specs.TypeRef.{innermost}
use Rattle.gql_base.specs.declared.error.Error.{Error}
use Rattle.gql_base.specs.declared.type_ref.TypeRef.{TypeRef}
use Rattle.gql_doc.specs.declared.document.Field.{Field}
use Rattle.gql_doc.specs.declared.document.Positioned.{Positioned}
use Rattle.gql_meaning.specs.Completion.{shape_of}
use Rattle.gql_meaning.specs.Counted.{answers_asked}
use Rattle.gql_collect.specs.Execution.{setting_in}
use Rattle.gql_meaning.specs.Responses.{asking_keys, place_apart, place_merged, world_left}
use Rattle.gql_meaning.specs.Responses.{world_left_by, Written}
use Rattle.gql_meaning.specs.Served.{Served}
use Rattle.gql_place.specs.Filled.{objects_in}
use Rattle.gql_resolve.specs.declared.field_value.FieldValue.{FieldValue}
use Rattle.gql_schema.specs.TableReading.{TypeTable, possible}
use Rattle.gql_select.specs.Conflicts.{conflicts}
use Rattle.gql_select.specs.Documents.{reading}

-- an answer comes to objects alone that its type can be
abbrev pub CompletionFits : (V : Type 0) → Type 0
CompletionFits V =
    (table : TypeTable) (ty : TypeRef) (result : Result (Option (FieldValue V)) Error)
    (object : List ℕ)
    → Contains (objects_in (shape_of table ty result)) object
    → Contains (possible table (innermost ty)) object

-- the fields of one key can be merged, everywhere in the operation
abbrev pub HasNoConflicts : {V E : Type 0} → (Positioned Field → E) → Written V → Type 0
HasNoConflicts told written =
    conflicts (reading (setting_in written.execution)) told written.execution.levels
    written.asked.object written.asked.selections ≡ []

-- an operation without conflicts comes to the same place, whether each occurrence is answered apart
-- or each key once; the worlds of a mutation are the same in both, since its root keys are merged
-- in both
abbrev pub ApartIsMerged : (V W E : Type 0) → Type 0
ApartIsMerged V W E =
    (served : Served V W) (written : Written V) (told : Positioned Field → E)
    → HasNoConflicts told written → place_apart served written ≡ place_merged served written

-- the world after all root keys that ask an answer is the last one: the others leave the world as
-- it was
abbrev pub OnlyAnswersChangeWorlds : (V W : Type 0) → Type 0
OnlyAnswersChangeWorlds V W =
    (served : Served V W) (written : Written V)
    → world_left served written
    ≡ world_left_by served written (length (asking_keys written.execution written.asked))

-- in introspection-only mode no answer is asked
abbrev pub IntrospectionAsksNothing : (V W : Type 0) → Type 0
IntrospectionAsksNothing V W =
    (served : Served V W) (written : Written V) → written.execution.only_introspection ≡ true
    → answers_asked served written ≡ 0

-- so the place is the same, whatever would be answered
abbrev pub IntrospectionNeedsNoAnswer : (V W : Type 0) → Type 0
IntrospectionNeedsNoAnswer V W =
    (served other : Served V W) (written : Written V)
    → written.execution.only_introspection ≡ true
    → place_merged served written ≡ place_merged other written

-- and the world stays as it was
abbrev pub IntrospectionChangesNoWorld : (V W : Type 0) → Type 0
IntrospectionChangesNoWorld V W =
    (served : Served V W) (written : Written V) → written.execution.only_introspection ≡ true
    → world_left served written ≡ served.world
