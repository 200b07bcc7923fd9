-- What is answered to works on threads.
use Rattle.std.specs.Prelude.{◌≡◌, ℕ, List, Result, Some, slice_get}
use Rattle.gql_base.specs.declared.no_memory.NoMemory.{NoMemory}
use Rattle.gql_exec.specs.declared.schema.Schema.{Schema}
use Rattle.gql_request.specs.declared.response.Response.{Response}
use Rattle.gql_resolve.specs.declared.resolver_set.ResolverSet.{Ghosts as Resolving}
use Rattle.gql_resolve.specs.declared.turns.Turns.{Ghosts as Choosing}
use Rattle.gql_serve.specs.Executing.{Executes}
use Rattle.gql_serve.specs.declared.threads.Work.{Work}
use Rattle.gql_tasks.specs.Progress.{Seen, seen}

module _ {R P Own World Future : Type 0} (set : Resolving R Own World Future)
    (turns : Choosing P) (schema : Schema) where
  -- the answer to a work is that to its request over its own set; what the set and the turns became
  -- is not handed out
  abbrev pub IsAnswer : Work R P Own World Future → Result Response NoMemory → Type 0
  IsAnswer work answer = (behind : Seen R P)
      × Executes set turns schema work.request (seen work.resolvers work.turns) behind answer

  -- each answer is that to the work in its place
  abbrev pub AnswersAll : List (Work R P Own World Future) → List (Result Response NoMemory)
      → Type 0
  AnswersAll works answers =
      (i : ℕ) (work : Work R P Own World Future) (answer : Result Response NoMemory)
      → slice_get works i ≡ Some work → slice_get answers i ≡ Some answer → IsAnswer work answer
