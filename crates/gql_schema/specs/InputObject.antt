-- What an input object shows: its name, and its fields, in the order in which they were added.
use Rattle.std.specs.Prelude.{ℕ, List, [], ◌∷◌, ◌++◌, Bool, true}
use Rattle.gql_schema.specs.InputValue.{input_name}
use Rattle.gql_schema.specs.declared.input_object.InputObject.{InputObject}
use Rattle.gql_schema.specs.declared.input_value.InputValue.{InputValue}

abbrev pub input_object_name : InputObject → List ℕ
input_object_name input = input.name

abbrev pub input_fields : InputObject → List (List ℕ × InputValue)
input_fields input = input.fields

-- the same input object with one more field
abbrev pub with_field : InputObject → InputValue → InputObject
with_field input field = record input { fields = input.fields ++ (input_name field, field) ∷ [] }

-- whether a value has exactly one member
abbrev pub is_oneof : InputObject → Bool
is_oneof input = input.oneof

abbrev pub as_oneof : InputObject → InputObject
as_oneof input = record input { oneof = true }
