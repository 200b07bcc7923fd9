-- What admission kept of a request is what is written: a scene comes to what its operation comes to.
use Rattle.std.proofs.Common.{◌≡◌, ℕ, suc, Bool, true, false, List, [], ◌∷◌, filter, is_some, length, map, take, Option, Some, None, Result, Ok, Err, option_map, refl, ap, sym, subst, ◌∙◌}
use Rattle.gql_base.specs.Pairs.{values_of}
use Rattle.gql_base.specs.declared.pos.Pos.{Pos}
use Rattle.gql_base.specs.declared.server_error.ServerError.{ServerError}
use Rattle.gql_base.specs.declared.value.Value.{Value}
use Rattle.gql_doc.specs.Depth.{operation_set, selections_of}
use Rattle.gql_doc.specs.declared.document.Field.{Field}
use Rattle.gql_doc.specs.declared.document.OperationDefinition.{OperationDefinition}
use Rattle.gql_doc.specs.declared.document.OperationType.{OperationType}
use Rattle.gql_doc.specs.declared.document.Positioned.{Positioned}
use Rattle.gql_doc.specs.declared.document.Selection.{Selection}
use Rattle.gql_admit.specs.Prepared.{IsKept, kept_operation, known_of, Prepared}
use Rattle.gql_admit.specs.Stages.{Staged}
use Rattle.gql_admit.specs.declared.chosen.Chosen.{Chosen}
use Rattle.gql_admit.proofs.KeepLemmas.{set_items}
use Rattle.gql_collect.proofs.DeclaredFieldLemmas.{agree_declared}
use Rattle.gql_collect.specs.Basis.{execution_of, is_introspection_only}
use Rattle.gql_collect.specs.DeclaredFields.{declared_reading}
use Rattle.gql_collect.specs.Execution.{Execution, field_asking, setting_in}
use Rattle.gql_conflicts.specs.DocumentConflicts.{told}
use Rattle.gql_engine.specs.ExecuteQuery.{AgreesInside, basis_of, root_selections}
use Rattle.gql_engine.specs.declared.scene.Scene.{Scene}
use Rattle.gql_exec.proofs.BareLemmas.{keys_known, mutating_in, placing_known}
use Rattle.gql_exec.proofs.ConflictLemmas.{no_conflicts_written}
use Rattle.gql_exec.specs.Admission.{terms_for}
use Rattle.gql_exec.specs.Admitted.{Gives, IsAdmitted}
use Rattle.gql_exec.specs.Bare.{bare_scene}
use Rattle.gql_exec.specs.Joined.{answers_by, apart_place_by, IsJoined, mutates, place_by, world_after_scene}
use Rattle.gql_exec.specs.Ready.{env_under, IsMadeReady, prepared_under}
use Rattle.gql_exec.specs.Root.{root_for}
use Rattle.gql_exec.specs.Scene.{IsSceneOf, scene_for}
use Rattle.gql_exec.specs.Schema.{settings_of}
use Rattle.gql_exec.specs.Written.{written_for, written_of}
use Rattle.gql_exec.specs.declared.dynamic_request.DynamicRequest.{DynamicRequest}
use Rattle.gql_exec.specs.declared.schema.Schema.{Schema}
use Rattle.gql_meaning.specs.Counted.{count_as, counts_by, total}
use Rattle.gql_meaning.specs.Responses.{apart_by, asking_keys, levels_beneath, merged_by, placed, root_keys, root_place, world_after, world_by, Written}
use Rattle.gql_meaning.specs.Served.{Served}
use Rattle.gql_place.specs.Join.{join}
use Rattle.gql_place.specs.declared.place.Place.{Place}
use Rattle.gql_request.specs.QueryEnv.{levels_of}
use Rattle.gql_request.specs.declared.query_env.IntrospectionMode.{IntrospectionMode}
use Rattle.gql_request.specs.declared.query_env.QueryEnv.{QueryEnv}
use Rattle.gql_request.specs.declared.request.Request.{Request}
use Rattle.gql_resolve.specs.Call.{Call, is_mutation}
use Rattle.gql_resolve.specs.declared.answer.Answer.{Answer}
use Rattle.gql_resolve.specs.declared.field_value.FieldValue.{FieldValue}
use Rattle.gql_schema.specs.Object.{object_name}
use Rattle.gql_schema.specs.declared.object.Object.{Object}
use Rattle.gql_select.proofs.ConflictLemmas.{agree_from}
use Rattle.gql_select.proofs.DocumentLemmas.{is_reading}
use Rattle.gql_select.proofs.KeptLemmas.{agree_kept}
use Rattle.gql_select.specs.Conflicts.{Agree}
use Rattle.gql_select.specs.Constants.{variable_value}
use Rattle.gql_select.specs.Documents.{reading}
use Rattle.gql_select.specs.Grouped.{grouped, Mutating, respond, serial_grouped, serial_respond, world_behind}
use Rattle.gql_select.specs.Kept.{kept, kept_fragments, kept_setting}
use Rattle.gql_settings.specs.Settings.{mode_for}

-- an environment is what is kept of an operation that the stages give, in the mode that the schema leaves it
pub record IsKeptFrom (schema : Schema) (request : Request) (env : QueryEnv) : Type 0 where
  pub chosen : Chosen
  pub stages : Gives schema request (Ok chosen)
  pub variables : env.variables ≡ request.variables
  pub operation : env.operation ≡ kept_operation (known_of request chosen) chosen.operation
  pub fragments : env.fragments ≡ kept_fragments (known_of request chosen) chosen.fragments
  pub mode : env.introspection_mode ≡ mode_for (settings_of schema) request.introspection_mode
  pub levels : levels_of env ≡ suc (settings_of schema).depth

module _ (schema : Schema) (request : Request) where
  from_kept : (env : QueryEnv) (prepared : Prepared) (staged : Staged) → Gives schema request staged
      → IsKept (terms_for schema request.introspection_mode) request staged prepared → Ok env ≡ prepared_under (settings_of schema) prepared → IsKeptFrom schema request env
  from_kept env (Err errors) staged stages is same = absurd (cc)
  from_kept env (Ok first) (Err errors) stages is same = absurd (cc)
  from_kept env (Ok first) (Ok given) stages is same =
      let one : env ≡ env_under (settings_of schema) first = cc in
      record {
        chosen = given;
        stages = stages;
        variables = ap (λ (e : QueryEnv). e.variables) one ∙ is.variables;
        operation = ap (λ (e : QueryEnv). e.operation) one ∙ is.operation;
        fragments = ap (λ (e : QueryEnv). e.fragments) one ∙ is.fragments;
        mode = ap (λ (e : QueryEnv). e.introspection_mode) one ∙ ap (mode_for (settings_of schema)) is.introspection_mode;
        levels = ap levels_of one ∙ is.levels;
      }

  pub kept_from : (env : QueryEnv) → IsMadeReady schema request (Ok env) → IsKeptFrom schema request env
  kept_from env ready = from_kept env ready.prepared ready.stages.staged ready.stages.stages ready.stages.kept ready.is

  -- the errors of a request that is refused are those that its stages give
  errors_from : (errors : List ServerError) (prepared : Prepared) (staged : Staged) → Gives schema request staged
      → IsKept (terms_for schema request.introspection_mode) request staged prepared → Err errors ≡ prepared_under (settings_of schema) prepared
      → Gives schema request (Err errors)
  errors_from errors (Ok first) staged stages is same = absurd (cc)
  errors_from errors (Err found) (Ok given) stages is same = absurd is
  errors_from errors (Err found) (Err told) stages is same =
      let one : told ≡ errors = cc in
      subst (λ es. Gives schema request (Err es)) one stages

  pub stages_refuse : (errors : List ServerError) → IsMadeReady schema request (Err errors) → Gives schema request (Err errors)
  stages_refuse errors ready = errors_from errors ready.prepared ready.stages.staged ready.stages.stages ready.stages.kept ready.is

  module _ (env : QueryEnv) (is : IsKeptFrom schema request env) where
    pub kind_is : env.operation.node.ty ≡ is.chosen.operation.node.ty
    kind_is = ap (λ (o : Positioned OperationDefinition). o.node.ty) is.operation

    selections_are : selections_of (operation_set env.operation) ≡ kept (known_of request is.chosen) (selections_of (operation_set is.chosen.operation))
    selections_are =
        ap (λ (o : Positioned OperationDefinition). selections_of (operation_set o)) is.operation
        ∙ set_items (known_of request is.chosen) is.chosen.operation.node.selection_set.node

    known_is : variable_value env.variables env.operation.node.variable_definitions ≡ known_of request is.chosen
    known_is = λ i. variable_value (is.variables i) (is.operation i).node.variable_definitions

-- what is left of what an execution knows, once the fragments are kept
abbrev kept_execution : Execution → Execution
kept_execution execution = record execution { fragments = kept_fragments execution.known execution.fragments }

module _ {V W : Type 0} (served : Served V W) where
  -- the place of a response, by what is known of its execution: of a query, and of a mutation
  abbrev query_knowing : Pos → List ℕ → FieldValue V → Execution → ℕ → List (Positioned Selection) → Place
  query_knowing pos object parent execution n left =
      root_place pos
      (grouped (placing_known execution (placed execution false (λ call. served.answer call served.world))) n object parent left)

  abbrev apart_knowing : Pos → List ℕ → FieldValue V → Execution → ℕ → List (Positioned Selection) → Place
  apart_knowing pos object parent execution n left =
      root_place pos
      (respond (placing_known execution (placed execution false (λ call. served.answer call served.world))) join n object parent left)

  abbrev count_knowing : List ℕ → FieldValue V → Execution → ℕ → List (Positioned Selection) → ℕ
  count_knowing object parent execution n left =
      total
      (values_of (grouped (placing_known execution (count_as execution (λ call. served.answer call served.world) false)) n object parent left))

  module _ (written : Written V) where
    -- how a mutation is answered, by what is known of its execution
    abbrev keys_knowing : Execution → Mutating (List ℕ) (FieldValue V) (Positioned Field) (Positioned Selection) Place W
    keys_knowing execution = mutating_in execution served.answer served.effect written.asked

    abbrev counts_knowing : Execution → Mutating (List ℕ) (FieldValue V) (Positioned Field) (Positioned Selection) ℕ W
    counts_knowing execution = record {
      reading = declared_reading execution (setting_in execution);
      effect = world_after execution served.effect written.asked;
      root = λ world. count_as execution (λ call. served.answer call world) true;
      place = λ world. count_as execution (λ call. served.answer call world) false;
    }

module _ {V : Type 0} (schema : Schema) (request : DynamicRequest V) (env : QueryEnv) (object : Object)
    (is : IsKeptFrom schema request.inner env) where
  -- what the scene knows is what is left of what is known of the operation as it is written
  executions : execution_of (basis_of (scene_for schema request env object))
      ≡ kept_execution (written_for schema request is.chosen object).execution
  executions =
      let execution = (written_for schema request is.chosen object).execution in
      λ i. record {
        schema = execution.schema;
        fragments = is.fragments i;
        levels = is.levels i;
        known = known_is schema request.inner env is i;
        layers = execution.layers;
        only_introspection = is_introspection_only (is.mode i);
      }

module _ {V W : Type 0} (served : Served V W) (schema : Schema) (request : DynamicRequest V) (env : QueryEnv) (object : Object)
    (is : IsKeptFrom schema request.inner env) where
  abbrev scene : Scene V
  scene = scene_for schema request env object

  abbrev written : Written V
  written = written_for schema request is.chosen object

  known : execution_of (basis_of scene) ≡ kept_execution written.execution
  known = executions schema request env object is

  left : root_selections scene ≡ kept written.execution.known written.asked.selections
  left = selections_are schema request.inner env is

  kinds : mutates scene ≡ written.mutates
  kinds = ap is_mutation (kind_is schema request.inner env is)

  poses : env.operation.pos ≡ written.pos
  poses = ap (λ (o : Positioned OperationDefinition). o.pos) is.operation

  merged_joined : (mutation : Bool) → place_by served mutation scene ≡ root_place written.pos (merged_by served written mutation)
  merged_joined false = λ i. query_knowing served (poses i) (object_name object) request.root_value (known i) (is.levels i) (left i)
  merged_joined true = λ i.
      root_place (poses i)
      (serial_grouped (keys_knowing served written (known i)) (levels_beneath (is.levels i)) (object_name object) request.root_value (left i) served.world)

  apart_joined : (mutation : Bool) → apart_place_by served mutation scene ≡ root_place written.pos (apart_by served written mutation)
  apart_joined false = λ i. apart_knowing served (poses i) (object_name object) request.root_value (known i) (is.levels i) (left i)
  apart_joined true = λ i.
      root_place (poses i)
      (serial_respond (keys_knowing served written (known i)) join (levels_beneath (is.levels i)) (object_name object) request.root_value (left i) served.world)

  world_joined : (mutation : Bool) → world_after_scene served mutation scene ≡ world_by served written mutation (root_keys written.execution written.asked)
  world_joined false = refl
  world_joined true = λ i.
      world_behind (world_after (known i) served.effect written.asked) served.world
      (keys_known (object_name object) (known i) (left i))

  asked_joined : (mutation : Bool) → answers_by served mutation scene ≡ total (values_of (counts_by served written mutation))
  asked_joined false = λ i. count_knowing served (object_name object) request.root_value (known i) (is.levels i) (left i)
  asked_joined true = λ i.
      total (values_of
      (serial_grouped (counts_knowing served written (known i)) (levels_beneath (is.levels i)) (object_name object) request.root_value (left i) served.world))

  joined_for : IsJoined served scene written
  joined_for = record {
    mutates_is = kinds;
    merged = merged_joined (mutates scene) ∙ ap (λ b. root_place written.pos (merged_by served written b)) kinds;
    apart = apart_joined (mutates scene) ∙ ap (λ b. root_place written.pos (apart_by served written b)) kinds;
    world = world_joined (mutates scene) ∙ ap (λ b. world_by served written b (root_keys written.execution written.asked)) kinds;
    asked = asked_joined (mutates scene) ∙ ap (λ b. total (values_of (counts_by served written b))) kinds;
  }

  -- the root keys that ask an answer, by what is known of the execution
  abbrev asking_knowing : Execution → List (Positioned Selection) → List (List ℕ × Positioned Field)
  asking_knowing execution selections =
      filter (λ (key : List ℕ × Positioned Field). is_some (field_asking true execution (object_name object) request.root_value key.1))
      (keys_known (object_name object) execution selections)

  pub keys_joined : length (asking_knowing (execution_of (basis_of scene)) (root_selections scene)) ≡ length (asking_keys written.execution written.asked)
  keys_joined = λ i. length (asking_knowing (known i) (left i))

  pub behind_joined : (count : ℕ)
      → world_behind (world_after (execution_of (basis_of scene)) served.effect written.asked) served.world
      (take count (asking_knowing (execution_of (basis_of scene)) (root_selections scene)))
      ≡ world_by served written true (take count (asking_keys written.execution written.asked))
  behind_joined count = λ i.
      world_behind (world_after (known i) served.effect written.asked) served.world (take count (asking_knowing (known i) (left i)))

  pub kinds_joined : mutates scene ≡ written.mutates
  kinds_joined = kinds

-- a request that was made ready, with an object at its root, is admitted
abbrev pub admitted_for : (schema : Schema) (request : Request) (env : QueryEnv) (object : Object) → IsKeptFrom schema request env
    → root_for schema env.operation.node.ty ≡ Ok object → IsAdmitted schema request
admitted_for schema request env object is root = record {
  chosen = is.chosen;
  object = object;
  stages = is.stages;
  root = subst (λ ty. root_for schema ty ≡ Ok object) (kind_is schema request env is) root;
}

module _ {V W : Type 0} (schema : Schema) (request : DynamicRequest V) (scene : Scene V) (served : Served V W) where
  -- what admission kept is what is written
  pub kept_is_written : IsSceneOf schema request scene
      → (admitted : IsAdmitted schema request.inner) × IsJoined served scene (written_of schema request admitted)
  kept_is_written of_it =
      let is : IsKeptFrom schema request.inner of_it.env = kept_from schema request.inner of_it.env of_it.ready in
      let admitted : IsAdmitted schema request.inner = admitted_for schema request.inner of_it.env of_it.object is of_it.root in (
        admitted,
        subst (λ (s : Scene V). IsJoined served s (written_for schema request is.chosen of_it.object)) (sym of_it.is)
            (joined_for served schema request of_it.env of_it.object is),
      )

module _ {V : Type 0} (schema : Schema) (request : DynamicRequest V) (env : QueryEnv) (object : Object) where
  -- the kept operation of an admitted request agrees with itself
  agrees_kept : (is : IsKeptFrom schema request.inner env) → root_for schema env.operation.node.ty ≡ Ok object
      → AgreesInside (scene_for schema request env object) (levels_of env)
  agrees_kept is root =
      let written : Written V = written_for schema request is.chosen object in
      let setting = setting_in written.execution in
      let set = written.asked.selections in
      let none = no_conflicts_written schema request (admitted_for schema request.inner env object is root) in
      let known = written.execution.known in
      let agree = agree_declared written.execution (kept_setting known setting) written.execution.levels (object_name object)
      (kept known set) (kept known set)
      (agree_kept known setting written.execution.levels (object_name object) set set
      (agree_from (reading setting) (is_reading setting) told written.execution.levels (object_name object) set none)) in
      subst
      (λ (p : Execution × ℕ × List (Positioned Selection)). Agree (declared_reading p.0 (setting_in p.0)) p.1 (object_name object) p.2 p.2)
      (λ i. (
        sym (executions schema request env object is) i,
        sym is.levels i,
        sym (selections_are schema request.inner env is) i,
      )) agree

  pub agrees_ready : (scene : Scene V) → IsMadeReady schema request.inner (Ok env) → root_for schema env.operation.node.ty ≡ Ok object
      → bare_scene scene ≡ scene_for schema request env object → AgreesInside scene (levels_of scene.env.now)
  agrees_ready scene ready root same =
      subst (λ (s : Scene V). AgreesInside s (levels_of s.env.now)) (sym same) (agrees_kept (kept_from schema request.inner env ready) root)
