-- The objects at the roots of operations (GraphQL, October 2021, section 3.3.1).
use Rattle.std.specs.Prelude.{ℕ, List, Option, Some, None, Result, Ok, Err, codes}
use Rattle.std.specs.Prelude.{option_and_then}
use Rattle.gql_base.specs.Pairs.{under}
use Rattle.gql_doc.specs.declared.document.OperationType.{OperationType}
use Rattle.gql_doc.specs.declared.document.OperationType.TheVariants as kinds
use Rattle.gql_exec.specs.Schema.{settings_of, types_in}
use Rattle.gql_settings.specs.Settings.{root_in}
use Rattle.gql_exec.specs.declared.schema.Schema.{Schema}
use Rattle.gql_schema.specs.Table.{types_of}
use Rattle.gql_schema.specs.declared.object.Object.{Object}
use Rattle.gql_schema.specs.declared.schema_type.SchemaType.{SchemaType}
use Rattle.gql_schema.specs.declared.schema_type.SchemaType.TheVariants as types

-- a type as an object, where it is one
abbrev pub object_in : SchemaType → Option Object
object_in (types.Object object) = Some object
object_in _ = None

-- the object of this name
abbrev pub object_named : Schema → List ℕ → Option Object
object_named schema name = option_and_then object_in (under name (types_of (types_in schema)))

-- the object at the root of the operations of a kind
abbrev pub root_object : Schema → OperationType → Option Object
root_object schema kind =
    option_and_then (object_named schema) (root_in (settings_of schema) kind)

-- what there is, or else this text
abbrev pub or_text : {A : Type 0} → List ℕ → Option A → Result A (List ℕ)
or_text text None = Err text
or_text text (Some x) = Ok x

-- the object of which the operations of a kind are executed, or why there is none
abbrev pub root_for : Schema → OperationType → Result Object (List ℕ)
root_for schema kinds.Query = or_text (codes "Query root not found") (root_object schema kinds.Query)
root_for schema kinds.Mutation =
    or_text (codes "Mutation root not found") (root_object schema kinds.Mutation)
root_for schema kinds.Subscription =
    Err (codes "Subscriptions are not supported on this transport.")
