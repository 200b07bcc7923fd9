-- What a call of a book under a lock tells.
use Rattle.std.proofs.Common.{Option, Result, Ok, Err, IfOk, subst}
use Rattle.std.proofs.Math.Logic.{∥∥₁_map₂}
use Rattle.gql_base.specs.declared.no_memory.NoMemory.{NoMemory}
use Rattle.gql_exec.specs.Response.{IsResponseTo, IsWorldAfter}
use Rattle.gql_exec.specs.declared.dynamic_request.DynamicRequest.{DynamicRequest}
use Rattle.gql_exec.specs.declared.schema.Schema.{Schema}
use Rattle.gql_request.specs.declared.response.Response.{Response}
use Rattle.gql_resolve.specs.declared.resolver_set.ResolverSet.{Ghosts as Resolving}
use Rattle.gql_resolve.specs.declared.turns.Turns.{Ghosts as Choosing}
use Rattle.gql_tasks.specs.Progress.{Seen}
use Rattle.gql_serve.specs.Executing.{Executes}
use Rattle.gql_serve.specs.Journal.{Journal, KeepsJournal, LeadsTo, serving}
use Rattle.gql_serve.specs.Served.{Answered, BeginsWith}

-- a response is the one in its place of the journal that the book kept
pub answered : {R V W F P : Type 0} (set : Resolving R V W F) (turns : Choosing P) (begins : Option R) (first : R)
    (origin : W) (journal : Journal V)
    (schema : Schema) (request : DynamicRequest V) (old new : Seen R P) (answer : Result Response NoMemory)
    → ∥ BeginsWith set begins first ∥₁ → ∥ KeepsJournal set first old.set origin journal ∥₁
    → Executes set turns schema request old new answer
    → IfOk answer (λ response. ∥ Answered set begins schema request response ∥₁)
answered set turns begins first origin journal schema request old new (Ok response) begun kept executed =
    ∥∥₁_map₂ begun kept (λ at_first keeps.
    let legal = keeps.legal at_first.lawful in record {
      first = first;
      begun = at_first;
      earlier = journal;
      before = set.world old.set;
      behind = set.world new.set;
      leads = subst (λ w. LeadsTo set (set.rules first) journal w (set.world old.set)) legal.origin_is legal.leads;
      responds = subst (λ rules. IsResponseTo schema request (serving set rules (set.world old.set)) response) keeps.rules
          (executed.responds legal.lawful);
      leaves = subst (λ rules. IsWorldAfter schema request (serving set rules (set.world old.set)) (set.world new.set)) keeps.rules
          (executed.world legal.lawful);
    })
answered set turns begins first origin journal schema request old new (Err want) begun kept executed = tt
