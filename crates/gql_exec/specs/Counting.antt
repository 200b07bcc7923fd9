-- How many steps the execution of a request takes: one for each of its tasks.
use Rattle.std.specs.Prelude.{◌≡◌, ◌+◌, ℕ}
use Rattle.gql_engine.specs.declared.scene.Scene.{Scene}
use Rattle.gql_exec.specs.Admitted.{IsRefused}
use Rattle.gql_exec.specs.Execution.{Ask}
use Rattle.gql_exec.specs.Joined.{mutates, tasks_by}
use Rattle.gql_exec.specs.Scene.{IsSceneOf}
use Rattle.gql_collect.specs.declared.basis.Grouping.{Grouping}
use Rattle.gql_meaning.specs.Served.{served_by}
use Rattle.gql_request.specs.declared.response.Response.{Response}
use Rattle.gql_resolve.specs.declared.resolver_set.ResolverSet.{Ghosts as Resolving}

-- as many more steps as tasks, where occurrences are grouped so: none for a request that is refused
pub data CountsTasks {R Own World Future : Type 0} (set : Resolving R Own World Future) (old : R)
    (by : Grouping) (ask : Ask Own) (steps steps' : ℕ) : Type 0 where
  counts_none : (response : Response) → IsRefused ask.schema ask.request.inner response
      → steps' ≡ steps → CountsTasks set old by ask steps steps'
  counts_scene : (scene : Scene Own) → IsSceneOf ask.schema ask.request scene
      → (set.is_lawful old
      → steps' ≡ steps + tasks_by (served_by set old) by (mutates scene) scene)
      → CountsTasks set old by ask steps steps'
