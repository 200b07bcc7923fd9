-- What a schema has beside its types, and what of it a request meets.
use Rattle.std.specs.Prelude.{ℕ, Bool, true, false, ◌&&◌, not, List, [], Option, Some, None}
use Rattle.std.specs.Prelude.{if◌then◌else◌}
use Rattle.gql_doc.specs.declared.document.OperationType.{OperationType}
use Rattle.gql_doc.specs.declared.document.OperationType.TheVariants as kinds
use Rattle.gql_settings.specs.Limits.{default_depth}
use Rattle.gql_settings.specs.declared.settings.Settings.{Settings}
use Rattle.gql_request.specs.declared.query_env.IntrospectionMode.{IntrospectionMode}
use Rattle.gql_request.specs.declared.query_env.IntrospectionMode.TheVariants as modes

-- the settings of a builder of which the names of the roots alone are known
abbrev pub new_settings : List ℕ → Option (List ℕ) → Option (List ℕ) → Settings
new_settings query mutation subscription = record {
  query = query;
  mutation = mutation;
  subscription = subscription;
  schema_data = [];
  depth = default_depth;
  directives = None;
  introspection_mode = modes.Enabled;
  federation = false;
  entity_resolver = None;
}

-- the name of the root of the operations of a kind
abbrev pub root_in : Settings → OperationType → Option (List ℕ)
root_in settings kinds.Query = Some settings.query
root_in settings kinds.Mutation = settings.mutation
root_in settings kinds.Subscription = settings.subscription

-- how far a request may ask for the schema, by the modes of the schema and of the request
abbrev pub mode_by : IntrospectionMode → IntrospectionMode → IntrospectionMode
mode_by modes.IntrospectionOnly request = modes.IntrospectionOnly
mode_by _ request = request

abbrev pub mode_for : Settings → IntrospectionMode → IntrospectionMode
mode_for settings request = mode_by settings.introspection_mode request

-- whether a mode lets fields of the schema have values
abbrev pub is_disabled : IntrospectionMode → Bool
is_disabled modes.Disabled = true
is_disabled _ = false

-- whether the query root has `_entities`, where there is a resolver of it
abbrev pub has_entities_for : Settings → IntrospectionMode → Bool
has_entities_for settings request =
    settings.federation && not (is_disabled settings.introspection_mode)
    && not (is_disabled request)

-- the number of the resolver of `_entities` for a request in a mode, or none where the query root
-- has no such field
abbrev pub entities_for : Settings → IntrospectionMode → Option ℕ
entities_for settings request =
    if has_entities_for settings request then settings.entity_resolver else None
