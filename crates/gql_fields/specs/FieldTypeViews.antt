-- What a known field has.
use Rattle.gql_base.specs.declared.type_ref.TypeRef.{TypeRef}
use Rattle.gql_schema.specs.DeclaredField.{declared_behind}
use Rattle.gql_schema.specs.TableReading.{Declared}
use Rattle.gql_fields.specs.FieldTypes.{entities_field, entities_type, typename_field}
use Rattle.gql_fields.specs.FieldTypes.{typename_type}
use Rattle.gql_fields.specs.declared.built_in_arguments.BuiltIn.{BuiltIn}
use Rattle.gql_fields.specs.declared.field_type.FieldType.{FieldType}
use Rattle.gql_fields.specs.declared.field_type.FieldType.TheVariants as field

-- its type
abbrev pub type_behind : FieldType → TypeRef
type_behind field.Typename = typename_type
type_behind field.Entities = entities_type
type_behind (field.Declared declared) = (declared_behind declared).ty

-- its type and its arguments
abbrev pub known_behind : BuiltIn → FieldType → Declared
known_behind built field.Typename = typename_field built
known_behind built field.Entities = entities_field built
known_behind built (field.Declared declared) = declared_behind declared
