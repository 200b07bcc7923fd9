-- What a builder makes.
use Rattle.std.specs.Prelude.{◌≡◌, Result, Ok, Err}
use Rattle.gql_exec.specs.Schema as schemas
use Rattle.gql_exec.specs.declared.schema.Schema.{Schema}
use Rattle.gql_schema.specs.Sound.{with_built_in, IsFirstRefusal, IsSound}
use Rattle.gql_schema.specs.Table.{types_of}
use Rattle.gql_schema.specs.TableReading.{TypeTable}
use Rattle.gql_schema.specs.declared.schema_error.SchemaError.{SchemaError}
use Rattle.gql_settings.specs.Builder.{is_federated, settings_of, table_of}
use Rattle.gql_settings.specs.Federation.{table_with}
use Rattle.gql_settings.specs.declared.builder.SchemaBuilder.{SchemaBuilder}

-- the table that is checked: with the types of federation, where there is one, and then with the
-- scalars of every schema
abbrev pub whole_table : SchemaBuilder → TypeTable
whole_table builder = with_built_in (table_with (is_federated builder) (table_of builder))

-- the schema of a builder: the whole table, in which no rule is broken, and its settings
pub record IsSchemaOf (builder : SchemaBuilder) (schema : Schema) : Type 0 where
  pub table : types_of (schemas.types_in schema) ≡ whole_table builder
  pub sound : IsSound (whole_table builder)
  pub settings : schemas.settings_of schema
      ≡ record (settings_of builder) { federation = is_federated builder }

-- what finishing a builder gives: its schema, or the first refusal of the whole table
abbrev pub GivesSchema : SchemaBuilder → Result Schema SchemaError → Type 0
GivesSchema builder (Ok schema) = IsSchemaOf builder schema
GivesSchema builder (Err error) = IsFirstRefusal (whole_table builder) error
