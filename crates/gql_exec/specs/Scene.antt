-- The scene of an execution, of plain data: what a reference shows is all that matters of it.
use Rattle.std.specs.Prelude.{◌≡◌, [], None, Ok}
use Rattle.std.specs.Borrow.{Bor}
use Rattle.gql_engine.specs.declared.scene.Scene.{Scene}
use Rattle.gql_exec.specs.Ready.{IsMadeReady}
use Rattle.gql_exec.specs.Root.{root_for}
use Rattle.gql_exec.specs.Schema.{settings_of, types_in}
use Rattle.gql_settings.specs.Settings.{entities_for}
use Rattle.gql_exec.specs.declared.dynamic_request.DynamicRequest.{DynamicRequest}
use Rattle.gql_exec.specs.declared.schema.Schema.{Schema}
use Rattle.gql_request.specs.declared.query_env.QueryEnv.{QueryEnv}
use Rattle.gql_resolve.specs.Call.{is_mutation}
use Rattle.gql_schema.specs.declared.object.Object.{Object}

-- a reference that shows a value
abbrev pub shown : {A : Type 0} → A → Bor A
shown value = record { ref_ptr = (0, 0); now = value }

-- the scene of a request over a schema, with this environment and this object at its root: the
-- session has no data
abbrev pub scene_for : {V : Type 0} → Schema → DynamicRequest V → QueryEnv → Object → Scene V
scene_for schema request env object = record {
  env = shown env;
  types = shown (types_in schema);
  object = shown object;
  query = shown (settings_of schema).query;
  entities = entities_for (settings_of schema) request.inner.introspection_mode;
  root = shown request.root_value;
  layers = record {
    execute = None;
    query = shown request.inner.query_data;
    session = shown [];
    schema = shown (settings_of schema).schema_data;
  };
  serial = is_mutation env.operation.node.ty;
}

-- the scene of an admitted request: what was kept of its operation, and the object at the root
pub record IsSceneOf {V : Type 0} (schema : Schema) (request : DynamicRequest V) (scene : Scene V)
    : Type 0 where
  pub env : QueryEnv
  pub object : Object
  pub ready : IsMadeReady schema request.inner (Ok env)
  pub root : root_for schema env.operation.node.ty ≡ Ok object
  pub is : scene ≡ scene_for schema request env object
