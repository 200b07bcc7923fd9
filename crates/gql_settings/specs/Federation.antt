-- The table of a schema with federation.
use Rattle.std.specs.Prelude.{Bool, true, false}
use Rattle.gql_schema.specs.Entities.{with_entities}
use Rattle.gql_schema.specs.TableReading.{TypeTable}

-- the table, with the two types of federation where there is one
abbrev pub table_with : Bool → TypeTable → TypeTable
table_with true table = with_entities table
table_with false table = table
