-- What a schema shows: its types and its settings.
use Rattle.gql_exec.specs.declared.schema.Schema.{Schema}
use Rattle.gql_settings.specs.declared.settings.Settings.{Settings}
use Rattle.gql_schema.specs.declared.types.Types.{Types}

abbrev pub types_in : Schema → Types
types_in schema = schema.types

abbrev pub settings_of : Schema → Settings
settings_of schema = schema.settings
