-- What executions may say of a request that is refused: each fact that is asked of one.
use Rattle.std.proofs.Common.{◌≡◌, inl, refl, Ok, Err}
use Rattle.gql_exec.proofs.AdmittedLemmas.{one_refusal}
use Rattle.gql_exec.specs.Admitted.{IsRefused}
use Rattle.gql_exec.specs.Batch.{ExecutesOne, StopsOne}
use Rattle.gql_exec.specs.Execution.{tells_none}
use Rattle.gql_exec.specs.Response.{by_refusal, none_stands, stays}
use Rattle.gql_exec.specs.declared.dynamic_request.DynamicRequest.{DynamicRequest}
use Rattle.gql_exec.specs.declared.schema.Schema.{Schema}
use Rattle.gql_request.specs.declared.response.Response.{Response}
use Rattle.gql_resolve.specs.declared.resolver_set.ResolverSet.{Ghosts as Resolving}
use Rattle.gql_resolve.specs.declared.turns.Turns.{Ghosts as Choosing}
use Rattle.gql_serve.specs.Executing.{Executes}
use Rattle.gql_tasks.specs.Progress.{Seen}

module _ {R V W F P : Type 0} (set : Resolving R V W F) (turns : Choosing P) (schema : Schema) (request : DynamicRequest V) (here : Seen R P) where
  -- it has its refusal, and nothing is done for it
  refused_at_once : (refusal : Response) → IsRefused schema request.inner refusal → Executes set turns schema request here here (Ok refusal)
  refused_at_once refusal refused = record {
    responds = λ lawful. by_refusal refused;
    world = λ lawful. stays refusal refused refl;
    refused = λ other is. (one_refusal schema request.inner refusal other refused is, refl);
    tells = λ lawful. tells_none refusal refused refl;
    keeps = record { rules_is = refl; lawful_is = λ lawful. lawful; paced_is = λ paced. paced };
    idle = λ alone. refl;
  }

  -- it has no other response, and it leaves the moment in which it was found
  refused_alone : (refusal response : Response) (there : Seen R P) → IsRefused schema request.inner refusal
      → Executes set turns schema request here there (Ok response) → (response ≡ refusal) × (there ≡ here)
  refused_alone refusal response there refused executed = executed.refused refusal refused

  -- where memory ran out before anything was done, no root key is told
  stopped_at_once : StopsOne set turns schema request 0 here here
  stopped_at_once = record {
    world = λ lawful. none_stands refl refl;
    stops = inl (refl, refl);
    idle = λ alone. refl;
  }
