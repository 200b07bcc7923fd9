-- Scenes and what executions stand on, with what their references show alone.
use Rattle.std.specs.Option.{option_map}
use Rattle.gql_engine.specs.declared.scene.Scene.{Scene}
use Rattle.gql_exec.specs.Scene.{shown}
use Rattle.gql_objects.specs.Jobs.{Job}
use Rattle.gql_collect.specs.declared.basis.Basis.{Basis}
use Rattle.gql_resolve.specs.declared.layers.Layers.{Layers}

-- layers of data
abbrev pub bare_layers : Layers → Layers
bare_layers layers = record {
  execute = option_map (λ layer. shown layer.now) layers.execute;
  query = shown layers.query.now;
  session = shown layers.session.now;
  schema = shown layers.schema.now;
}

-- a scene
abbrev pub bare_scene : {V : Type 0} → Scene V → Scene V
bare_scene scene = record {
  env = shown scene.env.now;
  types = shown scene.types.now;
  object = shown scene.object.now;
  query = shown scene.query.now;
  entities = scene.entities;
  root = shown scene.root.now;
  layers = bare_layers scene.layers;
  serial = scene.serial;
}

-- what an execution stands on
abbrev pub bare_basis : Basis → Basis
bare_basis basis = record {
  env = shown basis.env.now;
  types = shown basis.types.now;
  query = shown basis.query.now;
  entities = basis.entities;
  layers = bare_layers basis.layers;
  grouping = basis.grouping;
}

-- a task
abbrev pub bare_job : {V : Type 0} → Job V → Job V
bare_job job = record job { basis = bare_basis job.basis }
