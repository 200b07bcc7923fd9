-- Introspection-only mode: of whatever a request asks for, only `__typename` has a value, and no
-- resolver is asked.
use Rattle.std.specs.Prelude.{Bool}
use Rattle.gql_exec.specs.Schema.{settings_of}
use Rattle.gql_settings.specs.Settings.{mode_for}
use Rattle.gql_exec.specs.declared.schema.Schema.{Schema}
use Rattle.gql_collect.specs.Basis.{is_introspection_only}
use Rattle.gql_request.specs.declared.request.Request.{Request}

-- whether a request is executed in that mode, by the schema's mode or its own
abbrev pub is_schema_only : Schema → Request → Bool
is_schema_only schema request =
    is_introspection_only (mode_for (settings_of schema) request.introspection_mode)
