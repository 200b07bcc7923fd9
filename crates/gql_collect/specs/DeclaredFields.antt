-- The fields that an object declares: a field that it doesn't is no occurrence (GraphQL, October
-- 2021, section 6.3, where a field without a type is passed over).
use Rattle.std.specs.Prelude.{◌≡◌, ◌<◌, ℕ, ◌||◌, Bool, true, List, Option, Some, filter, is_some}
use Rattle.std.specs.Borrow.{Bor}
use Rattle.std.specs.List.{slice_get}
use Rattle.gql_doc.specs.declared.document.Field.{Field}
use Rattle.gql_doc.specs.declared.document.Positioned.{Positioned}
use Rattle.gql_doc.specs.declared.document.Selection.{Selection}
use Rattle.gql_collect.specs.Execution.{Execution, is_typename}
use Rattle.gql_collect.specs.TableSetting.{field_in}
use Rattle.gql_select.specs.Alike.{name_of}
use Rattle.gql_select.specs.Collected.{collect, Setting}
use Rattle.gql_select.specs.Documents.{reading}
use Rattle.gql_select.specs.Fewer.{reading_over}
use Rattle.gql_select.specs.Reading.{Reading}

-- whether an object has a field of a name: that of its own name, one that its type declares, and
-- in introspection-only mode, where no type is looked at, any
abbrev pub declares : Execution → List ℕ → List ℕ → Bool
declares execution object name =
    execution.only_introspection
    || (is_typename name || is_some (field_in execution.schema object name))

-- those of an object's occurrences whose fields it has
abbrev pub declared_among : Execution → List ℕ → List (Positioned Field) → List (Positioned Field)
declared_among execution object fields =
    filter (λ field. declares execution object (name_of field)) fields

-- an object has the fields of the first so many occurrences
abbrev pub AreDeclared : Execution → List ℕ → List (Bor (Positioned Field)) → ℕ → Type 0
AreDeclared execution object fields count = (k : ℕ) (field : Bor (Positioned Field)) → k < count
    → slice_get fields k ≡ Some field → declares execution object (name_of field.now) ≡ true

-- how an execution reads sets by a setting: the fields of an object that it has
abbrev pub declared_reading : Execution → Setting
    → Reading (List ℕ) (Positioned Field) (Positioned Selection)
declared_reading execution setting =
    reading_over (reading setting)
    (λ object selections. declared_among execution object (collect setting object selections))
