-- What an object type shows: its name, and its fields under their names, in the order in which they
-- were added.
use Rattle.std.specs.Prelude.{ℕ, List, [], ◌∷◌, ◌++◌}
use Rattle.gql_schema.specs.Field.{field_name}
use Rattle.gql_schema.specs.declared.object.Object.{Object}
use Rattle.gql_schema.specs.declared.field.Field.{Field}
use Rattle.gql_schema.specs.NameSet.{with_name}

abbrev pub object_name : Object → List ℕ
object_name object = object.name

abbrev pub fields_of : Object → List (List ℕ × Field)
fields_of object = object.fields

-- the same object with one more field
abbrev pub with_field : Object → Field → Object
with_field object field = record object { fields = object.fields ++ (field_name field, field) ∷ [] }

-- the names of the interfaces that the object implements
abbrev pub interfaces_of : Object → List (List ℕ)
interfaces_of object = object.interfaces

-- the same object with one more interface; one that is there changes nothing
abbrev pub with_interface : Object → List ℕ → Object
with_interface object name = record object { interfaces = with_name object.interfaces name }

-- the fields of the keys by which the object is an entity
abbrev pub keys_of : Object → List (List ℕ)
keys_of object = object.keys

abbrev pub with_key : Object → List ℕ → Object
with_key object fields = record object { keys = object.keys ++ fields ∷ [] }
