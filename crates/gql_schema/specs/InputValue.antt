-- What an argument, or a field of an input object, shows.
use Rattle.std.specs.Prelude.{ℕ, List, Option, Some}
use Rattle.gql_base.specs.declared.type_ref.TypeRef.{TypeRef}
use Rattle.gql_base.specs.declared.value.Value.{Value}
use Rattle.gql_schema.specs.declared.input_value.InputValue.{InputValue}

abbrev pub input_name : InputValue → List ℕ
input_name input = input.name

abbrev pub input_type : InputValue → TypeRef
input_type input = input.ty

abbrev pub default_of : InputValue → Option Value
default_of input = input.default

-- the same input value with this default
abbrev pub with_default : InputValue → Value → InputValue
with_default input value = record input { default = Some value }
