-- Where memory ran out in a mutation: the world is that after so many of its root keys that ask an answer.
use Rattle.std.proofs.Common.{◌≡◌, ◌≤◌, ◌++◌, ℕ, zero, suc, Bool, true, false, cond, List, [], ◌∷◌, filter, is_some, length, take, Option, Some, None, Ok, refl, ap, sym, ◌∙◌, subst}
use Rattle.gql_doc.specs.declared.document.Field.{Field}
use Rattle.gql_doc.specs.declared.document.Positioned.{Positioned}
use Rattle.gql_collect.specs.Basis.{execution_of}
use Rattle.gql_collect.specs.Execution.{Asking, field_asking}
use Rattle.gql_collect.specs.declared.basis.Basis.{Basis}
use Rattle.gql_collect.specs.declared.basis.Grouping.{Grouping}
use Rattle.gql_complete.specs.FoundObjects.{Spot}
use Rattle.gql_engine.specs.ExecuteMutation.{key_jobs_by, key_work_by, keys_by}
use Rattle.gql_engine.specs.ExecuteQuery.{basis_by, job_subject, root_spot}
use Rattle.gql_engine.specs.declared.scene.Scene.{Scene}
use Rattle.gql_exec.proofs.JoinedLemmas.{admitted_for, behind_joined, IsKeptFrom, kept_from, keys_joined, kinds_joined}
use Rattle.gql_exec.proofs.KeyLemmas.{keys_as_many, keys_behind}
use Rattle.gql_exec.specs.Admitted.{IsAdmitted}
use Rattle.gql_exec.specs.Execution.{StandAs}
use Rattle.gql_exec.specs.Joined.{mutates}
use Rattle.gql_exec.specs.Response.{IsWorldBehind, none_stands, roots_stand}
use Rattle.gql_exec.specs.Scene.{IsSceneOf, scene_for}
use Rattle.gql_exec.specs.Written.{written_for, written_of}
use Rattle.gql_exec.specs.declared.dynamic_request.DynamicRequest.{DynamicRequest}
use Rattle.gql_exec.specs.declared.schema.Schema.{Schema}
use Rattle.gql_meaning.specs.Responses.{asking_keys, world_by, world_of, Written}
use Rattle.gql_meaning.specs.Served.{Served, served_by}
use Rattle.gql_objects.specs.Jobs.{Job, job_of, jobs_of_as}
use Rattle.gql_request.specs.declared.query_env.QueryEnv.{QueryEnv}
use Rattle.gql_resolve.specs.declared.resolver_set.ResolverSet.{Ghosts as Resolving}
use Rattle.gql_resolve.specs.declared.turns.Turns.{Ghosts as Choosing}
use Rattle.gql_schema.specs.declared.object.Object.{Object}
use Rattle.gql_select.specs.Grouped.{world_behind}
use Rattle.gql_tasks.specs.Phases.{RootsStand, Serving, serving_by, world_past}
use Rattle.gql_tasks.specs.Progress.{Seen}

-- the tasks of root keys are those of the keys that ask an answer
module _ {V W : Type 0} (serving : Serving V W) (basis : Basis) (spot : Spot V) where
  abbrev asks : Positioned Field → Option (Asking V)
  asks field = field_asking true (execution_of basis) spot.object spot.parent field

  abbrev asking : List (List ℕ × Positioned Field) → List (List ℕ × Positioned Field)
  asking keys = filter (λ (key : List ℕ × Positioned Field). is_some (asks key.1)) keys

  -- the world that a root key leaves
  abbrev step : W → Positioned Field → W
  step world field = world_of (execution_of basis) serving.effect world (asks field)

  one_counted : (key : List ℕ × Positioned Field) (keys : List (List ℕ × Positioned Field)) (asked : Option (Asking V))
      → length (jobs_of_as true basis spot keys) ≡ length (asking keys)
      → length (job_of basis spot key.1 asked ++ jobs_of_as true basis spot keys) ≡ length (cond (is_some asked) (key ∷ asking keys) (asking keys))
  one_counted key keys None rest = rest
  one_counted key keys (Some it) rest = ap suc rest

  pub as_many : (keys : List (List ℕ × Positioned Field)) → length (jobs_of_as true basis spot keys) ≡ length (asking keys)
  as_many [] = refl
  as_many (key ∷ keys) = one_counted key keys (asks key.1) (as_many keys)

  one_behind : (key : List ℕ × Positioned Field) (keys : List (List ℕ × Positioned Field)) (asked : Option (Asking V)) → asks key.1 ≡ asked
      → ((count : ℕ) (world : W) → world_past serving job_subject world (take count (jobs_of_as true basis spot keys))
      ≡ world_behind step world (take count (asking keys)))
      → (count : ℕ) (world : W) → world_past serving job_subject world (take count (job_of basis spot key.1 asked ++ jobs_of_as true basis spot keys))
      ≡ world_behind step world (take count (cond (is_some asked) (key ∷ asking keys) (asking keys)))
  one_behind key keys None is rest count world = rest count world
  one_behind key keys (Some it) is rest zero world = refl
  one_behind key keys (Some it) is rest (suc count) world =
      rest count (serving.effect it.call world)
      ∙ ap (λ o. world_behind step (world_of (execution_of basis) serving.effect world o) (take count (asking keys))) (sym is)

  pub behind : (keys : List (List ℕ × Positioned Field)) (count : ℕ) (world : W)
      → world_past serving job_subject world (take count (jobs_of_as true basis spot keys)) ≡ world_behind step world (take count (asking keys))
  behind [] zero world = refl
  behind [] (suc count) world = refl
  behind (key ∷ keys) count world = one_behind key keys (asks key.1) refl (behind keys) count world

module _ {R Own World Future P : Type 0} (set : Resolving R Own World Future) (turns : Choosing P) (old new : Seen R P) (by : Grouping)
    (schema : Schema) (request : DynamicRequest Own) where
  -- the root keys of the operation as it is written
  written-stand : (env : QueryEnv) (object : Object) (is : IsKeptFrom schema request.inner env) (roots : ℕ)
      → RootsStand set turns (key_work_by by (scene_for schema request env object)) old new roots
      → (roots ≤ length (asking_keys (written_for schema request is.chosen object).execution (written_for schema request is.chosen object).asked))
      × (set.world new.set ≡ world_by (served_by set old.set) (written_for schema request is.chosen object) true
      (take roots (asking_keys (written_for schema request is.chosen object).execution (written_for schema request is.chosen object).asked)))
  written-stand env object is roots stand =
      let served : Served Own World = served_by set old.set in
      let serving : Serving Own World = serving_by set old.set in
      let scene : Scene Own = scene_for schema request env object in
      let basis : Basis = basis_by by scene in
      let spot : Spot Own = root_spot scene in
      let keys = keys_by by scene in
      let counted : length (key_jobs_by by scene) ≡ length (asking serving basis spot keys) = as_many serving basis spot keys in (
        subst (λ n. roots ≤ n) (counted ∙ keys_as_many scene by ∙ keys_joined served schema request env object is) stand.within,
        stand.world ∙ behind serving basis spot keys roots served.world ∙ keys_behind scene serving.effect by roots served.world
            ∙ behind_joined served schema request env object is roots,
      )

  scene-stands : (env : QueryEnv) (object : Object) (is : IsKeptFrom schema request.inner env) (admitted : IsAdmitted schema request.inner)
      → written_of schema request admitted ≡ written_for schema request is.chosen object → (mutation : Bool)
      → mutates (scene_for schema request env object) ≡ mutation → (roots : ℕ)
      → StandAs set turns old new by mutation (scene_for schema request env object) roots
      → IsWorldBehind schema request (served_by set old.set) roots (set.world new.set)
  scene-stands env object is admitted same false kind roots stands = none_stands stands.0 stands.1
  scene-stands env object is admitted same true kind roots stands =
      let served : Served Own World = served_by set old.set in
      let written : Written Own = written_for schema request is.chosen object in
      let stood = written-stand env object is roots stands in
      let mutation : true ≡ written.mutates = sym kind ∙ kinds_joined served schema request env object is in
      roots_stand admitted
      (subst (λ (w : Written Own). roots ≤ length (asking_keys w.execution w.asked)) (sym same) stood.0)
      (subst (λ (w : Written Own). set.world new.set ≡ world_by served w w.mutates (take roots (asking_keys w.execution w.asked))) (sym same)
      (stood.1 ∙ ap (λ b. world_by served written b (take roots (asking_keys written.execution written.asked))) mutation))

  -- so many root keys have their effects
  pub stands_behind : (scene : Scene Own) → IsSceneOf schema request scene → (roots : ℕ) → StandAs set turns old new by (mutates scene) scene roots
      → IsWorldBehind schema request (served_by set old.set) roots (set.world new.set)
  stands_behind scene of_it roots stands =
      let is : IsKeptFrom schema request.inner of_it.env = kept_from schema request.inner of_it.env of_it.ready in
      scene-stands of_it.env of_it.object is (admitted_for schema request.inner of_it.env of_it.object is of_it.root) refl
      (mutates (scene_for schema request of_it.env of_it.object)) refl roots
      (subst (λ (s : Scene Own). StandAs set turns old new by (mutates s) s roots) of_it.is stands)
