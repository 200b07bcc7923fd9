-- The scene of a request that asks for the schema alone has no task.
use Rattle.std.proofs.Common.{◌≡◌, true, [], Ok, ap, sym, ◌∙◌, subst}
use Rattle.gql_collect.specs.Basis.{is_introspection_only}
use Rattle.gql_collect.specs.declared.basis.Grouping.{Grouping}
use Rattle.gql_engine.proofs.SchemaAloneLemmas.{has_no_task}
use Rattle.gql_engine.specs.ExecuteMutation.{key_work_by}
use Rattle.gql_engine.specs.ExecuteQuery.{work_by}
use Rattle.gql_engine.specs.declared.scene.Scene.{Scene}
use Rattle.gql_exec.proofs.JoinedLemmas.{IsKeptFrom, kept_from}
use Rattle.gql_exec.specs.Bare.{bare_scene}
use Rattle.gql_exec.specs.Ready.{IsMadeReady}
use Rattle.gql_exec.specs.Scene.{scene_for}
use Rattle.gql_exec.specs.SchemaOnly.{is_schema_only}
use Rattle.gql_exec.specs.declared.dynamic_request.DynamicRequest.{DynamicRequest}
use Rattle.gql_exec.specs.declared.schema.Schema.{Schema}
use Rattle.gql_request.specs.declared.query_env.QueryEnv.{QueryEnv}
use Rattle.gql_schema.specs.declared.object.Object.{Object}

-- the machine's scene of such a request has its mode
pub scene_only : {V : Type 0} (schema : Schema) (request : DynamicRequest V) (env : QueryEnv) (object : Object) (scene : Scene V)
    → is_schema_only schema request.inner ≡ true → IsMadeReady schema request.inner (Ok env) → bare_scene scene ≡ scene_for schema request env object
    → is_introspection_only scene.env.now.introspection_mode ≡ true
scene_only {V = V} schema request env object scene only ready same =
    let kept : IsKeptFrom schema request.inner env = kept_from schema request.inner env ready in
    ap (λ (s : Scene V). is_introspection_only s.env.now.introspection_mode) same ∙ ap is_introspection_only kept.mode ∙ only

-- so it has no task to begin with
pub no_query_task : {V : Type 0} (by : Grouping) (scene : Scene V) → is_introspection_only scene.env.now.introspection_mode ≡ true → (work_by by scene).first ≡ []
no_query_task by scene only = (has_no_task by scene only).query

pub no_key_task : {V : Type 0} (by : Grouping) (scene : Scene V) → is_introspection_only scene.env.now.introspection_mode ≡ true → (key_work_by by scene).first ≡ []
no_key_task by scene only = (has_no_task by scene only).mutation
