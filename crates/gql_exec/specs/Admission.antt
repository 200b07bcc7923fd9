-- By what a schema admits requests.
use Rattle.std.specs.Option.{is_some}
use Rattle.gql_fields.specs.Terms.{Terms}
use Rattle.gql_exec.specs.Schema.{settings_of, types_in}
use Rattle.gql_settings.specs.Settings.{entities_for}
use Rattle.gql_exec.specs.declared.schema.Schema.{Schema}
use Rattle.gql_request.specs.declared.query_env.IntrospectionMode.{IntrospectionMode}
use Rattle.gql_schema.specs.Table.{types_of}

-- the schema's types, the names of its roots and its limits; for a request in a mode
abbrev pub terms_for : Schema → IntrospectionMode → Terms
terms_for schema mode = record {
  table = types_of (types_in schema);
  query = (settings_of schema).query;
  mutation = (settings_of schema).mutation;
  subscription = (settings_of schema).subscription;
  depth = (settings_of schema).depth;
  directives = (settings_of schema).directives;
  entities = is_some (entities_for (settings_of schema) mode);
}
