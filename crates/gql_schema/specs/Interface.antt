-- What an interface shows: its name, and the fields that it promises, in the order in which they
-- were added.
use Rattle.std.specs.Prelude.{ℕ, List, [], ◌∷◌, ◌++◌}
use Rattle.gql_schema.specs.InterfaceField.{promised_name}
use Rattle.gql_schema.specs.declared.interface.Interface.{Interface}
use Rattle.gql_schema.specs.declared.interface_field.InterfaceField.{InterfaceField}

abbrev pub interface_name : Interface → List ℕ
interface_name interface = interface.name

abbrev pub promised_fields : Interface → List (List ℕ × InterfaceField)
promised_fields interface = interface.fields

-- the same interface with one more field
abbrev pub with_field : Interface → InterfaceField → Interface
with_field interface field =
    record interface { fields = interface.fields ++ (promised_name field, field) ∷ [] }
