-- What was run of a request's scene is the execution of the request, and what an execution means for its caller.
use Rattle.std.proofs.Common.{◌≡◌, ◌⊎◌, ℕ, Bool, false, List, [], Result, Ok, Err, IfErr, IfOk, OnOk, inl, inr, refl, ap, sym, ◌∙◌, subst}
use Rattle.gql_base.specs.declared.no_memory.NoMemory.{NoMemory}
use Rattle.gql_base.specs.declared.server_error.ServerError.{ServerError}
use Rattle.gql_tasks.specs.Progress.{Seen}
use Rattle.gql_engine.specs.declared.scene.Scene.{Scene}
use Rattle.gql_exec.proofs.AdmittedLemmas.{never_both, one_refusal}
use Rattle.gql_exec.proofs.JoinedLemmas.{IsKeptFrom, kept_from, kept_is_written, kind_is, stages_refuse}
use Rattle.gql_exec.proofs.StandLemmas.{stands_behind}
use Rattle.gql_exec.specs.Admitted.{by_root, by_stage, error_response, fault_response, IsAdmitted, IsRefused}
use Rattle.gql_exec.specs.Bare.{bare_scene}
use Rattle.gql_exec.specs.Execution.{as_refused, as_scene, Ask, CutAs, ExecutesAs, HaltsAs, IsHalted, RanAs, RunsAs, StandAs, StopsAs, tells_none, tells_of, TellsAs}
use Rattle.gql_exec.specs.Joined.{mutates, place_by, world_after_scene}
use Rattle.gql_exec.specs.Ready.{IsMadeReady}
use Rattle.gql_exec.specs.Response.{by_execution, by_refusal, is_left, IsResponseTo, IsWorldAfter, IsWorldBehind, LeavesWorld, none_stands, stays}
use Rattle.gql_exec.specs.Root.{root_for}
use Rattle.gql_exec.specs.Scene.{IsSceneOf, scene_for}
use Rattle.gql_exec.specs.declared.dynamic_request.DynamicRequest.{DynamicRequest}
use Rattle.gql_exec.specs.declared.schema.Schema.{Schema}
use Rattle.gql_collect.specs.declared.basis.Grouping.{Grouping}
use Rattle.gql_meaning.specs.PlaceResponse.{response_at}
use Rattle.gql_meaning.specs.Served.{served_by}
use Rattle.gql_place.specs.Alike.{Same}
use Rattle.gql_place.specs.declared.place.Place.{Place}
use Rattle.gql_place.proofs.PieceLemmas.{told_same}
use Rattle.gql_request.specs.declared.query_env.QueryEnv.{QueryEnv}
use Rattle.gql_request.specs.declared.request.Request.{Request}
use Rattle.gql_request.specs.declared.response.Response.{Response}
use Rattle.gql_resolve.specs.declared.resolver_set.ResolverSet.{Ghosts as Resolving}
use Rattle.gql_resolve.specs.declared.turns.Turns.{Ghosts as Choosing}
use Rattle.gql_schema.specs.declared.object.Object.{Object}

-- places that are the same have one response
pub response_same : (whole : Bool) (a b : Place) → Same whole a b → response_at a ≡ response_at b
response_same whole a b same =
    let told = told_same whole a b same in
    λ i. record { result = told.0 i; extensions = []; errors = told.1 i; headers = told.2 i }

-- A request that is refused.

module _ (schema : Schema) (request : Request) where
  pub refused_by_stage : (errors : List ServerError) (response : Response) → IsMadeReady schema request (Err errors) → response ≡ error_response errors
      → IsRefused schema request response
  refused_by_stage errors response ready is = by_stage errors (stages_refuse schema request errors ready) is

  pub refused_by_root : (env : QueryEnv) (text : List ℕ) (response : Response) → IsMadeReady schema request (Ok env)
      → root_for schema env.operation.node.ty ≡ Err text → response ≡ fault_response text → IsRefused schema request response
  refused_by_root env text response ready root is =
      let kept : IsKeptFrom schema request env = kept_from schema request env ready in
      by_root kept.chosen text kept.stages (subst (λ ty. root_for schema ty ≡ Err text) (kind_is schema request env kept) root) is

module _ {R Own World Future P : Type 0} (set : Resolving R Own World Future) (turns : Choosing P) (now : Seen R P) (ask : Ask Own) (by : Grouping) where
  pub executes_by_stage : (errors : List ServerError) (response : Response) → IsMadeReady ask.schema ask.request.inner (Err errors) → response ≡ error_response errors
      → ExecutesAs set turns now now ask by response
  executes_by_stage errors response ready is = as_refused (refused_by_stage ask.schema ask.request.inner errors response ready is) refl

  pub executes_by_root : (env : QueryEnv) (text : List ℕ) (response : Response) → IsMadeReady ask.schema ask.request.inner (Ok env)
      → root_for ask.schema env.operation.node.ty ≡ Err text → response ≡ fault_response text → ExecutesAs set turns now now ask by response
  executes_by_root env text response ready root is =
      as_refused (refused_by_root ask.schema ask.request.inner env text response ready root is) refl

-- A request that is admitted.

module _ {R Own World Future P : Type 0} (set : Resolving R Own World Future) (turns : Choosing P) (old new : Seen R P) (by : Grouping) (ask : Ask Own) where
  -- a request that is ready, its object, and the machine's scene of it
  pub record IsSet (env : QueryEnv) (object : Object) (scene : Scene Own) : Type 0 where
    pub ready : IsMadeReady ask.schema ask.request.inner (Ok env)
    pub root : root_for ask.schema env.operation.node.ty ≡ Ok object
    pub same : bare_scene scene ≡ scene_for ask.schema ask.request env object

  module _ (env : QueryEnv) (object : Object) (scene : Scene Own) (is : IsSet env object scene) where
    pub scene_of : IsSceneOf ask.schema ask.request (bare_scene scene)
    scene_of = record { env = env; object = object; ready = is.ready; root = is.root; is = is.same }

    pub executes : {E : Type 0} (result : Result Response E) → (set.is_lawful old.set → IfOk result (RunsAs set turns old new by (bare_scene scene)))
        → IfOk result (ExecutesAs set turns old new ask by)
    executes (Ok response) runs = as_scene (bare_scene scene) scene_of runs
    executes (Err want) runs = tt

    pub halts : (result : Result Response NoMemory) → (mutates scene ≡ false → IfErr result (λ want. want.roots ≡ 0))
        → (set.is_lawful old.set → IfErr result (λ want. HaltsAs set turns old new by (bare_scene scene) want.roots))
        → IfErr result (λ want. StopsAs set turns old new ask by want.roots)
    halts (Ok response) none halted = tt
    halts (Err want) none halted = inr record { scene = bare_scene scene; is_of = scene_of; none = none; told = halted }

-- what was run of a scene whose operation is a mutation, or none
module _ {R Own World Future P : Type 0} (set : Resolving R Own World Future) (turns : Choosing P) (old new : Seen R P) (by : Grouping) (scene : Scene Own) (mutation : Bool)
    (is : mutates scene ≡ mutation) where
  pub runs_by : (response : Response) → response ≡ response_at (place_by (served_by set old.set) mutation scene)
      → set.world new.set ≡ world_after_scene (served_by set old.set) mutation scene
      → RanAs set turns old new by mutation scene → RunsAs set turns old new by scene response
  runs_by response answered world tells = record {
    answered = answered ∙ ap (λ b. response_at (place_by (served_by set old.set) b scene)) (sym is);
    world = world ∙ ap (λ b. world_after_scene (served_by set old.set) b scene) (sym is);
    tells = subst (λ b. RanAs set turns old new by b scene) (sym is) tells;
  }

  pub halts_by : (roots : ℕ) → StandAs set turns old new by mutation scene roots
      → CutAs set turns old new by mutation scene ⊎ RanAs set turns old new by mutation scene → HaltsAs set turns old new by scene roots
  halts_by roots stands tells = record {
    stands = subst (λ b. StandAs set turns old new by b scene roots) (sym is) stands;
    tells = subst (λ b. CutAs set turns old new by b scene ⊎ RanAs set turns old new by b scene) (sym is) tells;
  }

-- What an execution means: its response, the world after it and its record, over a lawful set.

module _ {R Own World Future P : Type 0} (set : Resolving R Own World Future) (turns : Choosing P) (old new : Seen R P) (ask : Ask Own) (by : Grouping) where
  -- the scene of a request that is refused would be that of an admitted one
  never_scene : (refusal : Response) → IsRefused ask.schema ask.request.inner refusal → (scene : Scene Own) → IsSceneOf ask.schema ask.request scene → ⊥
  never_scene refusal is scene of_it =
      never_both ask.schema ask.request.inner refusal is (kept_is_written ask.schema ask.request scene (served_by set old.set) of_it).0

  responds-to : set.is_lawful old.set → (response : Response) → ExecutesAs set turns old new ask by response
      → IsResponseTo ask.schema ask.request (served_by set old.set) response
  responds-to lawful response (as_refused is same) = by_refusal is
  responds-to lawful response (as_scene scene of_it runs) =
      let joined = kept_is_written ask.schema ask.request scene (served_by set old.set) of_it in
      by_execution joined.0 ((runs lawful).answered ∙ ap response_at joined.1.merged)

  leaves-world : set.is_lawful old.set → (response : Response) → ExecutesAs set turns old new ask by response
      → IsWorldAfter ask.schema ask.request (served_by set old.set) (set.world new.set)
  leaves-world lawful response (as_refused is same) = stays response is (ap (λ (m : Seen R P). set.world m.set) same)
  leaves-world lawful response (as_scene scene of_it runs) =
      let joined = kept_is_written ask.schema ask.request scene (served_by set old.set) of_it in
      is_left joined.0 ((runs lawful).world ∙ joined.1.world)

  tells-record : set.is_lawful old.set → (response : Response) → ExecutesAs set turns old new ask by response → TellsAs set turns old new ask by
  tells-record lawful response (as_refused is same) = tells_none response is same
  tells-record lawful response (as_scene scene of_it runs) = tells_of scene of_it (runs lawful).tells

  module _ (refusal : Response) (is : IsRefused ask.schema ask.request.inner refusal) where
    is-refusal : (response : Response) → ExecutesAs set turns old new ask by response → response ≡ refusal
    is-refusal response (as_refused also same) = one_refusal ask.schema ask.request.inner response refusal also is
    is-refusal response (as_scene scene of_it runs) = absurd (never_scene refusal is scene of_it)

    does-nothing : (response : Response) → ExecutesAs set turns old new ask by response → new ≡ old
    does-nothing response (as_refused also same) = same
    does-nothing response (as_scene scene of_it runs) = absurd (never_scene refusal is scene of_it)

    stops-at-once : (roots : ℕ) → (((new ≡ old) × (roots ≡ 0)) ⊎ IsHalted set turns old new ask by roots) → new ≡ old
    stops-at-once roots (inl at) = at.0
    stops-at-once roots (inr halted) = absurd (never_scene refusal is halted.scene halted.is_of)

    pub refuses : {E : Type 0} (result : Result Response E) → IfOk result (ExecutesAs set turns old new ask by) → IfOk result (λ response. response ≡ refusal)
    refuses (Ok response) executes = is-refusal response executes
    refuses (Err want) executes = tt

    pub untouched : (result : Result Response NoMemory) → IfOk result (ExecutesAs set turns old new ask by)
        → IfErr result (λ want. StopsAs set turns old new ask by want.roots) → (new.set ≡ old.set) × (new.turns ≡ old.turns)
    untouched (Ok response) executes stops =
        let same = does-nothing response executes in
        (ap (λ (m : Seen R P). m.set) same, ap (λ (m : Seen R P). m.turns) same)
    untouched (Err want) executes stops =
        let same = stops-at-once want.roots stops in
        (ap (λ (m : Seen R P). m.set) same, ap (λ (m : Seen R P). m.turns) same)

  pub responds : {E : Type 0} → set.is_lawful old.set → (result : Result Response E) → IfOk result (ExecutesAs set turns old new ask by)
      → IfOk result (IsResponseTo ask.schema ask.request (served_by set old.set))
  responds lawful (Ok response) executes = responds-to lawful response executes
  responds lawful (Err want) executes = tt

  stops-behind : set.is_lawful old.set → (roots : ℕ) → (((new ≡ old) × (roots ≡ 0)) ⊎ IsHalted set turns old new ask by roots)
      → IsWorldBehind ask.schema ask.request (served_by set old.set) roots (set.world new.set)
  stops-behind lawful roots (inl at) = none_stands at.1 (ap (λ (m : Seen R P). set.world m.set) at.0)
  stops-behind lawful roots (inr halted) =
      stands_behind set turns old new by ask.schema ask.request halted.scene halted.is_of roots (halted.told lawful).stands

  pub leaves : set.is_lawful old.set → (result : Result Response NoMemory) → IfOk result (ExecutesAs set turns old new ask by)
      → IfErr result (λ want. StopsAs set turns old new ask by want.roots)
      → LeavesWorld ask.schema ask.request (served_by set old.set) result (set.world new.set)
  leaves lawful (Ok response) executes stops = leaves-world lawful response executes
  leaves lawful (Err want) executes stops = stops-behind lawful want.roots stops

  pub tells : {E : Type 0} → set.is_lawful old.set → (result : Result Response E) → IfOk result (ExecutesAs set turns old new ask by)
      → OnOk result (TellsAs set turns old new ask by)
  tells lawful (Ok response) executes = tells-record lawful response executes
  tells lawful (Err want) executes = tt
