-- What a field that an interface promises shows.
use Rattle.std.specs.Prelude.{ℕ, List}
use Rattle.gql_base.specs.Pairs.{put}
use Rattle.gql_base.specs.declared.type_ref.TypeRef.{TypeRef}
use Rattle.gql_schema.specs.InputValue.{input_name}
use Rattle.gql_schema.specs.declared.interface_field.InterfaceField.{InterfaceField}
use Rattle.gql_schema.specs.declared.input_value.InputValue.{InputValue}

abbrev pub promised_name : InterfaceField → List ℕ
promised_name field = field.name

abbrev pub promised_type : InterfaceField → TypeRef
promised_type field = field.ty

abbrev pub promised_arguments : InterfaceField → List (List ℕ × InputValue)
promised_arguments field = field.arguments

-- the same field with one more argument; one of the same name is replaced in its place
abbrev pub with_argument : InterfaceField → InputValue → InterfaceField
with_argument field argument =
    record field { arguments = put field.arguments (input_name argument) argument }
