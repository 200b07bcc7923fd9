-- What an execution knows (GraphQL, October 2021, section 6.2), as the machine holds it.
use Rattle.std.specs.Prelude.{Bool, true, false, option_map}
use Rattle.gql_collect.specs.Execution.{Execution, setting_in}
use Rattle.gql_collect.specs.TableSetting.{Schema}
use Rattle.gql_request.specs.QueryEnv.{levels_of}
use Rattle.gql_request.specs.declared.query_env.IntrospectionMode.{IntrospectionMode}
use Rattle.gql_request.specs.declared.query_env.IntrospectionMode.TheVariants as mode
use Rattle.gql_resolve.specs.Layers.{layers_of}
use Rattle.gql_resolve.specs.Variables.{known_in}
use Rattle.gql_schema.specs.Table.{types_of}
use Rattle.gql_select.specs.Collected.{Setting}
use Rattle.gql_collect.specs.declared.basis.Basis.{Basis}

-- whether fields of the schema alone have values
abbrev pub is_introspection_only : IntrospectionMode → Bool
is_introspection_only mode.IntrospectionOnly = true
is_introspection_only mode.Enabled = false
is_introspection_only mode.Disabled = false

-- the schema, with its entities
abbrev pub schema_of : Basis → Schema
schema_of basis = record {
  table = types_of basis.types.now;
  entities =
      option_map (λ resolver. record { root = basis.query.now; resolver = resolver }) basis.entities;
}

-- what the execution knows
abbrev pub execution_of : Basis → Execution
execution_of basis = record {
  schema = schema_of basis;
  fragments = basis.env.now.fragments;
  levels = levels_of basis.env.now;
  known = known_in basis.env.now;
  layers = layers_of basis.layers;
  only_introspection = is_introspection_only basis.env.now.introspection_mode;
}

-- what the fields of the request are read by
abbrev pub setting_by : Basis → Setting
setting_by basis = setting_in (execution_of basis)
