-- The steps of an execution are as many as the answers that it asks.
use Rattle.std.proofs.Common.{◌≡◌, ◌+◌, ℕ, Bool, true, false, List, Result, Ok, Err, OnOk, refl, ap, sym, ◌∙◌, subst, arith}
use Rattle.gql_base.specs.Pairs.{values_of}
use Rattle.gql_base.specs.declared.server_error.ServerError.{ServerError}
use Rattle.gql_doc.specs.declared.document.Field.{Field}
use Rattle.gql_doc.specs.declared.document.Positioned.{Positioned}
use Rattle.gql_doc.specs.declared.document.Selection.{Selection}
use Rattle.gql_engine.specs.declared.scene.Scene.{Scene}
use Rattle.gql_exec.proofs.BareLemmas.{execution-bare, groups_known}
use Rattle.gql_exec.specs.Bare.{bare_scene}
use Rattle.gql_exec.proofs.AdmittedLemmas.{never_both}
use Rattle.gql_exec.proofs.ExecutionLemmas.{refused_by_root, refused_by_stage}
use Rattle.gql_exec.proofs.JoinedLemmas.{kept_is_written}
use Rattle.gql_exec.specs.Admitted.{error_response, fault_response, IsAdmitted, IsRefused}
use Rattle.gql_exec.specs.Counting.{counts_none, counts_scene, CountsTasks}
use Rattle.gql_exec.specs.Execution.{Ask}
use Rattle.gql_exec.specs.Joined.{answers_by, mutates, tasks_by}
use Rattle.gql_exec.specs.Ready.{IsMadeReady}
use Rattle.gql_exec.specs.Response.{asks_all, asks_none, Counts}
use Rattle.gql_exec.specs.Root.{root_for}
use Rattle.gql_exec.specs.Scene.{IsSceneOf, scene_for}
use Rattle.gql_meaning.specs.Counted.{count_as, total}
use Rattle.gql_collect.specs.Execution.{Execution, setting_in}
use Rattle.gql_meaning.specs.Responses.{levels_beneath, world_after}
use Rattle.gql_meaning.specs.Served.{Served, served_by}
use Rattle.gql_engine.proofs.KeyCountLemmas.{serial_count_is}
use Rattle.gql_engine.proofs.TaskCountLemmas.{merged_count_is}
use Rattle.gql_engine.specs.TaskCounts.{count_by, serial_count_by}
use Rattle.gql_collect.specs.DeclaredFields.{declared_among}
use Rattle.gql_collect.specs.GroupFields.{collect_by, groups_by}
use Rattle.gql_engine.specs.ExecuteQuery.{basis_by, root_selections, root_spot}
use Rattle.gql_engine.specs.ExecuteMutation.{root_asked}
use Rattle.gql_collect.specs.declared.basis.Grouping.{Grouping}
use Rattle.gql_collect.specs.declared.basis.Grouping.TheVariants as grouping
use Rattle.gql_request.specs.QueryEnv.{levels_of}
use Rattle.gql_request.specs.declared.query_env.QueryEnv.{QueryEnv}
use Rattle.gql_request.specs.declared.response.Response.{Response}
use Rattle.gql_resolve.specs.Call.{Call}
use Rattle.gql_resolve.specs.declared.answer.Answer.{Answer}
use Rattle.gql_resolve.specs.declared.field_value.FieldValue.{FieldValue}
use Rattle.gql_resolve.specs.declared.resolver_set.ResolverSet.{Ghosts as Resolving}
use Rattle.gql_schema.specs.declared.object.Object.{Object}
use Rattle.gql_select.specs.Collected.{own_selections}
use Rattle.gql_select.specs.Documents.{reading}
use Rattle.gql_select.specs.Fewer.{reading_over}
use Rattle.gql_select.specs.Grouped.{in_turn, Placing, respond_by}

-- what references show is all that matters of how many are asked

-- how fields become numbers, where occurrences are grouped so
abbrev counting_known : {V : Type 0} → Grouping → Execution → (Call V → Answer V)
    → Placing (List ℕ) (FieldValue V) (Positioned Field) (Positioned Selection) ℕ
counting_known by execution answer = record {
  reading =
      reading_over (reading (setting_in execution))
      (λ object selections. declared_among execution object (collect_by by (setting_in execution) object selections));
  place = count_as execution answer false;
}

module _ {V : Type 0} (by : Grouping) (scene : Scene V) where
  abbrev count_knowing : (Call V → Answer V) → ℕ → Execution → ℕ
  count_knowing answer n execution =
      total (values_of (respond_by (counting_known by execution answer) (λ one other. one + other) (groups_by by (setting_in execution))
      n (root_spot scene).object (root_spot scene).parent (root_selections scene)))

  pub count-bare : (answer : Call V → Answer V) (n : ℕ) → count_by (bare_scene scene) answer n by ≡ count_by scene answer n by
  count-bare answer n = ap (count_knowing answer n) (execution-bare (basis_by by scene))

  module _ {W : Type 0} (answer : Call V → W → Answer V) (effect : Call V → W → W) where
    abbrev serial_knowing : W → ℕ → Execution → ℕ
    serial_knowing world n execution =
        total (values_of (in_turn (world_after execution effect (root_asked scene))
        (λ before behind field. count_as execution (λ call. answer call before) true (root_spot scene).object (root_spot scene).parent field
        (λ object parent. respond_by (counting_known by execution (λ call. answer call behind)) (λ one other. one + other)
        (groups_by by (setting_in execution)) (levels_beneath n) object parent (own_selections field)))
        world (groups_known grouping.ByKey by (root_spot scene).object (root_selections scene) execution)))

    pub serial-count-bare : (world : W) (n : ℕ) → serial_count_by (bare_scene scene) answer effect world n by ≡ serial_count_by scene answer effect world n by
    serial-count-bare world n = ap (serial_knowing world n) (execution-bare (basis_by by scene))

module _ {V W : Type 0} (served : Served V W) where
  pub tasks-bare : (by : Grouping) (mutation : Bool) (scene : Scene V) → tasks_by served by mutation (bare_scene scene) ≡ tasks_by served by mutation scene
  tasks-bare by true scene = serial-count-bare by scene served.answer served.effect served.world (levels_of scene.env.now)
  tasks-bare by false scene = count-bare by scene (λ call. served.answer call served.world) (levels_of scene.env.now)

  -- each key of a set is asked once
  tasks_are : (mutation : Bool) (scene : Scene V) → tasks_by served grouping.ByKey mutation scene ≡ answers_by served mutation scene
  tasks_are true scene = serial_count_is scene served.answer served.effect served.world (levels_of scene.env.now)
  tasks_are false scene = merged_count_is scene (λ call. served.answer call served.world) (levels_of scene.env.now)

module _ {R Own World Future : Type 0} (set : Resolving R Own World Future) (old : R) (ask : Ask Own) (steps steps' : ℕ) where
  -- as many steps as tasks are as many as answers
  answers : set.is_lawful old → CountsTasks set old grouping.ByKey ask steps steps' → Counts ask.schema ask.request (served_by set old) steps steps'
  answers lawful (counts_none response is same) = let e : steps' ≡ steps = same in (0, asks_none response is refl, omega arith)
  answers lawful (counts_scene scene of_it counted) =
      let served : Served Own World = served_by set old in
      let joined = kept_is_written ask.schema ask.request scene served of_it in (
        answers_by served (mutates scene) scene,
        asks_all joined.0 joined.1.asked,
        counted lawful ∙ ap (λ n. steps + n) (tasks_are served (mutates scene) scene),
      )

  pub counts_answers : {E : Type 0} → set.is_lawful old → (result : Result Response E) → OnOk result (CountsTasks set old grouping.ByKey ask steps steps')
      → OnOk result (Counts ask.schema ask.request (served_by set old) steps steps')
  counts_answers lawful (Ok response) counted = answers lawful counted
  counts_answers lawful (Err want) counted = tt

  -- of a request that is refused none is taken
  none-taken : (by : Grouping) (refusal : Response) → IsRefused ask.schema ask.request.inner refusal → CountsTasks set old by ask steps steps' → steps' ≡ steps
  none-taken by refusal is (counts_none response also same) = same
  none-taken by refusal is (counts_scene scene of_it counted) =
      absurd (never_both ask.schema ask.request.inner refusal is (kept_is_written ask.schema ask.request scene (served_by set old) of_it).0)

  pub counts_no_refusal : {E : Type 0} (by : Grouping) (refusal : Response) → IsRefused ask.schema ask.request.inner refusal → (result : Result Response E)
      → OnOk result (CountsTasks set old by ask steps steps') → OnOk result (steps' ≡ steps)
  counts_no_refusal by refusal is (Ok response) counted = none-taken by refusal is counted
  counts_no_refusal by refusal is (Err want) counted = tt

  module _ (by : Grouping) (scene : Scene Own) (is_of : IsSceneOf ask.schema ask.request (bare_scene scene)) where
    pub counts_tasks : {E : Type 0} (result : Result Response E)
        → (set.is_lawful old → OnOk result (steps' ≡ steps + tasks_by (served_by set old) by (mutates scene) scene))
        → OnOk result (CountsTasks set old by ask steps steps')
    counts_tasks (Ok response) counted = counts_scene (bare_scene scene) is_of
        (λ lawful. counted lawful ∙ ap (λ n. steps + n) (sym (tasks-bare (served_by set old) by (mutates scene) scene)))
    counts_tasks (Err want) counted = tt

module _ {R Own World Future : Type 0} (set : Resolving R Own World Future) (old : R) (by : Grouping) (ask : Ask Own) (steps : ℕ) where
  pub counts_by_stage : (errors : List ServerError) → IsMadeReady ask.schema ask.request.inner (Err errors) → CountsTasks set old by ask steps steps
  counts_by_stage errors ready =
      counts_none (error_response errors) (refused_by_stage ask.schema ask.request.inner errors (error_response errors) ready refl) refl

  pub counts_by_root : (env : QueryEnv) (text : List ℕ) → IsMadeReady ask.schema ask.request.inner (Ok env)
      → root_for ask.schema env.operation.node.ty ≡ Err text → CountsTasks set old by ask steps steps
  counts_by_root env text ready root =
      counts_none (fault_response text) (refused_by_root ask.schema ask.request.inner env text (fault_response text) ready root refl) refl
