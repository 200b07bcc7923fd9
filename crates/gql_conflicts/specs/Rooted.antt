-- A table of types with its roots, and which objects are possible in the sets of a document.
use Rattle.std.specs.Prelude.{ℕ, Bool, true, false, ◌&&◌, List, [], codes, Option, Some, None}
use Rattle.std.specs.Prelude.{option_and_then, if◌then◌else◌}
use Rattle.std.specs.Option.{option_copied}
use Rattle.std.specs.Str.{bytes_eq}
use Rattle.gql_base.specs.Pairs.{under}
use Rattle.gql_base.specs.TypeRef.{innermost}
use Rattle.gql_doc.specs.Depth.{Fragments}
use Rattle.gql_doc.specs.declared.document.OperationType.{OperationType}
use Rattle.gql_doc.specs.declared.document.OperationType.TheVariants.{Query, Mutation}
use Rattle.gql_doc.specs.declared.document.OperationType.TheVariants.{Subscription}
use Rattle.gql_schema.specs.Table.{types_of}
use Rattle.gql_schema.specs.TableReading.{Declared, TypeTable, field, has_type, is_known_object}
use Rattle.gql_schema.specs.TableReading.{possible}
use Rattle.gql_schema.specs.declared.schema_type.SchemaType.{SchemaType}
use Rattle.gql_schema.specs.declared.schema_type.SchemaType.TheVariants as types
use Rattle.gql_select.specs.Collected.{Setting}
use Rattle.gql_conflicts.specs.declared.rooted_types.RootedTypes.{RootedTypes}

-- a table of types with its roots, as plain data
pub record Rooted : Type 0 where
  pub table : TypeTable
  -- the names of the roots
  pub query : List ℕ
  pub mutation : Option (List ℕ)
  pub subscription : Option (List ℕ)
  -- whether the query root has the field `_entities`
  pub entities : Bool

-- what such a table shows
abbrev pub rooted_of : RootedTypes → Rooted
rooted_of rooted = record {
  table = types_of rooted.types.now;
  query = rooted.query.now;
  mutation = option_copied rooted.mutation;
  subscription = option_copied rooted.subscription;
  entities = rooted.entities;
}

-- whether a type is the root of subscriptions, whose fields are events
abbrev pub is_subscription : Option SchemaType → Bool
is_subscription (Some (types.Subscription subscription)) = true
is_subscription _ = false

-- the name, where it is that of an object of the table, or of a type of events
abbrev pub object_named : TypeTable → List ℕ → Option (List ℕ)
object_named table name = if is_known_object (under name table) then Some name else None

abbrev pub events_named : TypeTable → List ℕ → Option (List ℕ)
events_named table name = if is_subscription (under name table) then Some name else None

-- the name of the root of a kind of operation, where there is one (section 3.3.1)
abbrev pub root_of : Rooted → OperationType → Option (List ℕ)
root_of rooted Query = object_named rooted.table rooted.query
root_of rooted Mutation = option_and_then (object_named rooted.table) rooted.mutation
root_of rooted Subscription = option_and_then (events_named rooted.table) rooted.subscription

-- whether it is the field `_entities` of the query root, where entities are on
abbrev pub is_entities : Rooted → List ℕ → List ℕ → Bool
is_entities rooted object name =
    rooted.entities && (bytes_eq name (codes "_entities") && bytes_eq object rooted.query)

-- the objects that the type of a field can be, where the field is known
abbrev pub objects_of : TypeTable → Option Declared → List (List ℕ)
objects_of table None = []
objects_of table (Some declared) = possible table (innermost declared.ty)

-- the objects that are possible under the field of a name (the second) on an object (the first)
abbrev pub objects_beneath : Rooted → List ℕ → List ℕ → List (List ℕ)
objects_beneath rooted object name =
    if is_entities rooted object name then possible rooted.table (codes "_Entity") else objects_of
    rooted.table (field rooted.table object name)

-- the innermost type of such a field, where it is known
abbrev pub type_of : Option Declared → Option (List ℕ)
type_of None = None
type_of (Some declared) = Some (innermost declared.ty)

abbrev pub type_beneath : Rooted → List ℕ → List ℕ → Option (List ℕ)
type_beneath rooted object name =
    if is_entities rooted object name then Some (codes "_Entity") else type_of
    (field rooted.table object name)

-- what the sets of a document are read by, where they nest within so many levels
abbrev pub setting_of : Rooted → Fragments → ℕ → Setting
setting_of rooted fragments levels = record {
  fragments = fragments;
  levels = levels;
  covers = has_type rooted.table;
  beneath = objects_beneath rooted;
}
