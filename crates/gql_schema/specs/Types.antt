-- The types of a schema by their names.
use Rattle.std.specs.Prelude.{ℕ, List}
use Rattle.gql_schema.specs.Enum.{enum_name}
use Rattle.gql_schema.specs.InputObject.{input_object_name}
use Rattle.gql_schema.specs.Interface.{interface_name}
use Rattle.gql_schema.specs.Object.{object_name}
use Rattle.gql_schema.specs.Scalar.{scalar_name}
use Rattle.gql_schema.specs.Subscription.{subscription_name}
use Rattle.gql_schema.specs.Union.{union_name}
use Rattle.gql_schema.specs.declared.schema_type.SchemaType.{SchemaType}
use Rattle.gql_schema.specs.declared.schema_type.SchemaType.TheVariants as types

abbrev pub type_name : SchemaType → List ℕ
type_name (types.Scalar scalar) = scalar_name scalar
type_name (types.Object object) = object_name object
type_name (types.InputObject input) = input_object_name input
type_name (types.Enum enum_type) = enum_name enum_type
type_name (types.Interface interface) = interface_name interface
type_name (types.Union union_type) = union_name union_type
type_name (types.Subscription subscription) = subscription_name subscription
