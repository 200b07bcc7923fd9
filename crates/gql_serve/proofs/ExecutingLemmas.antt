-- What an execution keeps of its set, and one for which there was no room.
use Rattle.std.proofs.Common.{◌≡◌, Result, Ok, Err, inl, refl}
use Rattle.gql_base.specs.declared.no_memory.NoMemory.{NoMemory}
use Rattle.gql_exec.specs.Response.{none_stands}
use Rattle.gql_exec.specs.declared.dynamic_request.DynamicRequest.{DynamicRequest}
use Rattle.gql_exec.specs.declared.schema.Schema.{Schema}
use Rattle.gql_request.specs.declared.response.Response.{Response}
use Rattle.gql_resolve.specs.declared.resolver_set.ResolverSet.{Ghosts as Resolving}
use Rattle.gql_resolve.specs.declared.turns.Turns.{Ghosts as Choosing}
use Rattle.gql_serve.specs.Executing.{Executes}
use Rattle.gql_tasks.proofs.KeepsLemmas.{set_none}
use Rattle.gql_tasks.specs.Keeps.{KeepsSet}
use Rattle.gql_tasks.specs.Progress.{Seen}

module _ {R V W F P : Type 0} (set : Resolving R V W F) (turns : Choosing P) (schema : Schema) (request : DynamicRequest V) where
  -- the set that it leaves
  pub executes_keeps : (old new : Seen R P) (answer : Result Response NoMemory) → Executes set turns schema request old new answer
      → KeepsSet set old.set new.set
  executes_keeps old new (Ok response) executed = executed.keeps
  executes_keeps old new (Err want) executed = executed.1

  -- nothing was done
  pub nothing_done : (now : Seen R P) (want : NoMemory) → want.roots ≡ 0 → Executes set turns schema request now now (Err want)
  nothing_done now want none = (
    record { world = λ lawful. none_stands none refl; stops = inl (refl, none); idle = λ only. refl },
    set_none now.set,
  )
