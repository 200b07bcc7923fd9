-- What a field of an object shows.
use Rattle.std.specs.Prelude.{ℕ, List}
use Rattle.gql_base.specs.Pairs.{put}
use Rattle.gql_base.specs.declared.type_ref.TypeRef.{TypeRef}
use Rattle.gql_schema.specs.InputValue.{input_name}
use Rattle.gql_schema.specs.declared.field.Field.{Field}
use Rattle.gql_schema.specs.declared.input_value.InputValue.{InputValue}

abbrev pub field_name : Field → List ℕ
field_name field = field.name

abbrev pub field_type : Field → TypeRef
field_type field = field.ty

abbrev pub resolver_of : Field → ℕ
resolver_of field = field.resolver

abbrev pub arguments_of : Field → List (List ℕ × InputValue)
arguments_of field = field.arguments

-- the same field with one more argument; one of the same name is replaced in its place
abbrev pub with_argument : Field → InputValue → Field
with_argument field argument =
    record field { arguments = put field.arguments (input_name argument) argument }
