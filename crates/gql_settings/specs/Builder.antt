-- What a builder shows, and whether its schema has federation.
use Rattle.std.specs.Prelude.{Bool, ◌||◌}
use Rattle.gql_schema.specs.Entities.{has_entities}
use Rattle.gql_schema.specs.Table.{types_of}
use Rattle.gql_schema.specs.TableReading.{TypeTable}
use Rattle.gql_settings.specs.declared.builder.SchemaBuilder.{SchemaBuilder}
use Rattle.gql_settings.specs.declared.settings.Settings.{Settings}

-- the types that are registered so far
abbrev pub table_of : SchemaBuilder → TypeTable
table_of builder = types_of builder.types

abbrev pub settings_of : SchemaBuilder → Settings
settings_of builder = builder.settings

-- whether the schema has what federation adds: since that is asked for, or since an object has a
-- key
abbrev pub is_federated : SchemaBuilder → Bool
is_federated builder = (settings_of builder).federation || has_entities (table_of builder)
