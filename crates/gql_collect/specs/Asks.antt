-- What a field asks on an object, whatever the object's value (GraphQL, October 2021, sections
-- 6.4.1 and 6.4.2).
use Rattle.std.specs.Prelude.{ℕ, Bool, true, false, List, [], Option, Some, None, if◌then◌else◌}
use Rattle.gql_base.specs.declared.type_ref.TypeRef.{TypeRef}
use Rattle.gql_base.specs.declared.type_ref.TypeRef.TheVariants as ref
use Rattle.gql_base.specs.declared.value.Value.{Value}
use Rattle.gql_doc.specs.declared.document.Argument.{Argument}
use Rattle.gql_doc.specs.declared.document.Field.{Field}
use Rattle.gql_doc.specs.declared.document.Positioned.{Positioned}
use Rattle.gql_collect.specs.Execution.{Asking, Execution, is_typename}
use Rattle.gql_collect.specs.TableSetting.{arguments_in as arguments_of_declared, entities_field}
use Rattle.gql_collect.specs.TableSetting.{field_in}
use Rattle.gql_resolve.specs.Call.{Call}
use Rattle.gql_resolve.specs.declared.field_value.FieldValue.{FieldValue}
use Rattle.gql_schema.specs.TableReading.{Declared}
use Rattle.gql_select.specs.Alike.{arguments_of, name_of}
use Rattle.gql_select.specs.Constants.{constants}
use Rattle.gql_collect.specs.declared.asks.Asks.{Asks}
use Rattle.gql_collect.specs.declared.asks.Asks.TheVariants as asks

-- a declared field asks a call, where it has a resolver
abbrev pub asks_by : List (List ℕ × Value) → Declared → Option ℕ → Asks
asks_by arguments declared None = asks.Nothing
asks_by arguments declared (Some resolver) = asks.Call resolver declared.ty arguments

-- a field that isn't declared asks nothing
abbrev pub asks_at : List (List ℕ × Value) → Option Declared → Asks
asks_at arguments None = asks.Nothing
asks_at arguments (Some declared) = asks_by arguments declared declared.number

-- what it asks, at the constants of its arguments as they are written
abbrev pub asks_of_declared : (List ℕ → Value) → Option Declared → List Argument → Asks
asks_of_declared known declared written =
    asks_at (constants known (arguments_of_declared declared) written) declared

-- the field of entities, which a resolver finds
abbrev pub entities_by : ℕ → Declared
entities_by resolver = entities_field (record { root = []; resolver = resolver })

-- what the field of a name asks on an object, unless it is that of the object's own name; in
-- introspection-only mode it asks nothing
abbrev pub asks_allowed : Execution → List ℕ → List ℕ → List Argument → Asks
asks_allowed execution object name written =
    if execution.only_introspection
    then asks.Nothing
    else asks_of_declared execution.known (field_in execution.schema object name) written

-- what an occurrence asks on an object
abbrev pub asks_of : Execution → List ℕ → Positioned Field → Asks
asks_of execution object field =
    if is_typename (name_of field)
    then asks.Typename else asks_allowed execution object (name_of field) (arguments_of field)

-- the call that is asked on an object of this value, if any
abbrev pub asking_by : {V : Type 0} → Bool → List (List (ℕ × Value)) → FieldValue V → Asks
    → Option (Asking V)
asking_by is_root layers parent asks.Typename = None
asking_by is_root layers parent asks.Nothing = None
asking_by is_root layers parent (asks.Call resolver ty arguments) = Some (record {
  call =
      record {
        is_root = is_root;
        resolver = resolver;
        parent = parent;
        arguments = arguments;
        layers = layers;
      };
  ty = ty;
})

-- whether an answer is asked
abbrev pub is_call : Asks → Bool
is_call asks.Typename = false
is_call asks.Nothing = false
is_call (asks.Call resolver ty arguments) = true

-- the resolver that is called; where no answer is asked it has no meaning, as the next two
abbrev pub resolver_in : Asks → ℕ
resolver_in asks.Typename = 0
resolver_in asks.Nothing = 0
resolver_in (asks.Call resolver ty arguments) = resolver

-- the type of the answer
abbrev pub type_in : Asks → TypeRef
type_in asks.Typename = ref.Named []
type_in asks.Nothing = ref.Named []
type_in (asks.Call resolver ty arguments) = ty

-- the values of the arguments
abbrev pub arguments_in : Asks → List (List ℕ × Value)
arguments_in asks.Typename = []
arguments_in asks.Nothing = []
arguments_in (asks.Call resolver ty arguments) = arguments

-- the call that is asked on an object of this value, as a root of a mutation or as another, with
-- its type
abbrev pub asking_at : {V : Type 0} → Bool → List (List (ℕ × Value)) → FieldValue V → Asks
    → Asking V
asking_at root layers parent what = record {
  call =
      record {
        is_root = root;
        resolver = resolver_in what;
        parent = parent;
        arguments = arguments_in what;
        layers = layers;
      };
  ty = type_in what;
}
