-- What a table of types shows: the types under their names, in the order of registration.
use Rattle.std.specs.Prelude.{ℕ, List}
use Rattle.gql_schema.specs.declared.schema_type.SchemaType.{SchemaType}
use Rattle.gql_schema.specs.declared.types.Types.{Types}

abbrev pub types_of : Types → List (List ℕ × SchemaType)
types_of types = types.table
