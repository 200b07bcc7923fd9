-- The execution of a request as tasks that take turns: the record that a set tells of it, and what
-- stands where memory ran out.
use Rattle.std.specs.Prelude.{◌≡◌, ◌⊎◌, ℕ, Bool, true, false}
use Rattle.gql_tasks.specs.Phases.{HaltsInTurn, RootsStand, RunsInTurn}
use Rattle.gql_tasks.specs.Progress.{RunStopped, RunsWhole, Seen}
use Rattle.gql_engine.specs.declared.scene.Scene.{Scene}
use Rattle.gql_engine.specs.ExecuteQuery.{work_by}
use Rattle.gql_engine.specs.ExecuteMutation.{key_work_by}
use Rattle.gql_exec.specs.Admitted.{IsRefused}
use Rattle.gql_exec.specs.Joined.{mutates, place_by, world_after_scene}
use Rattle.gql_exec.specs.Scene.{IsSceneOf}
use Rattle.gql_exec.specs.declared.dynamic_request.DynamicRequest.{DynamicRequest}
use Rattle.gql_exec.specs.declared.schema.Schema.{Schema}
use Rattle.gql_collect.specs.declared.basis.Grouping.{Grouping}
use Rattle.gql_meaning.specs.PlaceResponse.{response_at}
use Rattle.gql_meaning.specs.Served.{served_by}
use Rattle.gql_request.specs.declared.response.Response.{Response}
use Rattle.gql_resolve.specs.declared.resolver_set.ResolverSet.{Ghosts as Resolving}
use Rattle.gql_resolve.specs.declared.turns.Turns.{Ghosts as Choosing}

-- a request over a schema
pub record Ask (V : Type 0) : Type 0 where
  pub schema : Schema
  pub request : DynamicRequest V

-- the same, as a contract names it
abbrev pub asks : {V : Type 0} → Schema → DynamicRequest V → Ask V
asks schema request = record { schema = schema; request = request }

module _ {R Own World Future P : Type 0} (set : Resolving R Own World Future)
    (turns : Choosing P) (old new : Seen R P) where
  -- the record of a scene, where occurrences are grouped so: of a mutation phase after phase
  abbrev pub RanAs : Grouping → Bool → Scene Own → Type 0
  RanAs by true scene = RunsInTurn set turns (key_work_by by scene) old new
  RanAs by false scene = RunsWhole set turns (work_by by scene) old new

  -- the record where memory ran out for a task
  abbrev pub CutAs : Grouping → Bool → Scene Own → Type 0
  CutAs by true scene = HaltsInTurn set turns (key_work_by by scene) old new
  CutAs by false scene = RunStopped set turns (work_by by scene) old new

  -- how many root keys of a mutation have their effect, where memory ran out
  abbrev pub StandAs : Grouping → Bool → Scene Own → ℕ → Type 0
  StandAs by true scene roots = RootsStand set turns (key_work_by by scene) old new roots
  StandAs by false scene roots = (roots ≡ 0) × (set.world new.set ≡ set.world old.set)

  -- the execution of a scene over a lawful set, to its end: the response is that of merged
  -- execution; where the set tells a record and the turns a state, the tasks, each for a group of
  -- occurrences, took the turns that were chosen for them
  pub record RunsAs (by : Grouping) (scene : Scene Own) (response : Response) : Type 0 where
    pub answered : response
        ≡ response_at (place_by (served_by set old.set) (mutates scene) scene)
    pub world : set.world new.set
        ≡ world_after_scene (served_by set old.set) (mutates scene) scene
    pub tells : RanAs by (mutates scene) scene

  -- the same until memory ran out: for a task, or for the response
  pub record HaltsAs (by : Grouping) (scene : Scene Own) (roots : ℕ) : Type 0 where
    pub stands : StandAs by (mutates scene) scene roots
    pub tells : CutAs by (mutates scene) scene ⊎ RanAs by (mutates scene) scene

  -- an execution until memory ran out: its request was admitted. Of an operation that is no mutation
  -- no root key is told, over every set; over a lawful one it went so far, with so many root keys of
  -- a mutation after their effects
  pub record IsHalted (ask : Ask Own) (by : Grouping) (roots : ℕ) : Type 0 where
    pub scene : Scene Own
    pub is_of : IsSceneOf ask.schema ask.request scene
    pub none : mutates scene ≡ false → roots ≡ 0
    pub told : set.is_lawful old.set → HaltsAs by scene roots

  -- an execution that ended out of memory: before any resolver was asked, or by then
  abbrev pub StopsAs : Ask Own → Grouping → ℕ → Type 0
  StopsAs ask by roots = ((new ≡ old) × (roots ≡ 0)) ⊎ IsHalted ask by roots

-- the record of a request, where occurrences are grouped so and the set tells one: nothing is told
-- of a request that is refused, and no turn is taken for it; of an admitted one it is that of its
-- scene
pub data TellsAs {R Own World Future P : Type 0} (set : Resolving R Own World Future)
    (turns : Choosing P) (old new : Seen R P) (ask : Ask Own) (by : Grouping) : Type 0 where
  tells_none : (response : Response) → IsRefused ask.schema ask.request.inner response
      → new ≡ old → TellsAs set turns old new ask by
  tells_of : (scene : Scene Own) → IsSceneOf ask.schema ask.request scene
      → RanAs set turns old new by (mutates scene) scene → TellsAs set turns old new ask by

-- what an execution has done once it has a response
pub data ExecutesAs {R Own World Future P : Type 0} (set : Resolving R Own World Future)
    (turns : Choosing P) (old new : Seen R P) (ask : Ask Own) (by : Grouping)
    (response : Response) : Type 0 where
  as_refused : IsRefused ask.schema ask.request.inner response
      → new ≡ old → ExecutesAs set turns old new ask by response
  as_scene : (scene : Scene Own) → IsSceneOf ask.schema ask.request scene
      → (set.is_lawful old.set → RunsAs set turns old new by scene response)
      → ExecutesAs set turns old new ask by response
