-- What an execution knows, and which call a field asks (GraphQL, October 2021, sections 6.4.1 and
-- 6.4.2).
use Rattle.std.specs.Prelude.{ℕ, ◌||◌, Bool, List, Option, None}
use Rattle.std.specs.Prelude.{option_and_then}
use Rattle.std.specs.Prelude.{option_map, if◌then◌else◌, codes}
use Rattle.std.specs.Str.{bytes_eq}
use Rattle.gql_base.specs.declared.type_ref.TypeRef.{TypeRef}
use Rattle.gql_base.specs.declared.value.Value.{Value}
use Rattle.gql_doc.specs.Depth.{Fragments}
use Rattle.gql_doc.specs.declared.document.Field.{Field}
use Rattle.gql_doc.specs.declared.document.Positioned.{Positioned}
use Rattle.gql_collect.specs.TableSetting.{declared_arguments, field_in, Schema, setting_of}
use Rattle.gql_resolve.specs.Call.{Call}
use Rattle.gql_resolve.specs.declared.field_value.FieldValue.{FieldValue}
use Rattle.gql_schema.specs.TableReading.{Declared}
use Rattle.gql_select.specs.Alike.{arguments_of, name_of}
use Rattle.gql_select.specs.Collected.{Setting}
use Rattle.gql_select.specs.Constants.{constants}

-- what an execution knows, but for answers and worlds
pub record Execution : Type 0 where
  pub schema : Schema
  -- the fragments of the document, as they are written
  pub fragments : Fragments
  -- how many levels of fragments are entered within one set, the set itself among them
  pub levels : ℕ
  -- what each variable stands for: the request's value, else its default, else null
  pub known : List ℕ → Value
  -- the data of each layer, in the order of search
  pub layers : List (List (ℕ × Value))
  -- whether only `__typename` is answered
  pub only_introspection : Bool

-- what the fields of the document are read by, before anything is skipped
abbrev pub setting_in : Execution → Setting
setting_in execution = setting_of execution.schema execution.fragments execution.levels

-- the field that tells the name of an object (section 4.1)
abbrev pub is_typename : List ℕ → Bool
is_typename name = bytes_eq name (codes "__typename")

-- an answer that is asked: its call, and the type that it is completed at
pub record Asking (V : Type 0) : Type 0 where
  pub call : Call V
  pub ty : TypeRef

module _ {V : Type 0} (is_root : Bool) (execution : Execution) where
  -- the call of a declared field with these arguments, on an object of this value
  abbrev pub asking_at : FieldValue V → List (List ℕ × Value) → Declared → Option (Asking V)
  asking_at parent arguments declared =
      option_map
      (λ resolver. record {
        call =
            record {
              is_root = is_root;
              resolver = resolver;
              parent = parent;
              arguments = arguments;
              layers = execution.layers;
            };
        ty = declared.ty;
      }) declared.number

  -- what the field of a name asks, if anything: `__typename` asks nothing, and in
  -- introspection-only mode no field does
  abbrev pub asking : List ℕ → FieldValue V → List ℕ → List (List ℕ × Value) → Option (Asking V)
  asking object parent name arguments =
      if execution.only_introspection || is_typename name then None
      else option_and_then (asking_at parent arguments) (field_in execution.schema object name)

  -- what an occurrence asks, at the constants of its arguments
  abbrev pub field_asking : List ℕ → FieldValue V → Positioned Field → Option (Asking V)
  field_asking object parent field =
      asking object parent (name_of field)
      (constants execution.known (declared_arguments execution.schema object (name_of field))
      (arguments_of field))
