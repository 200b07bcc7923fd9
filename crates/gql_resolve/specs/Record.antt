-- The record of an execution, and the tasks that began. A set may tell them.
use Rattle.std.specs.Prelude.{ℕ, Bool, true, false, List, [], ◌∷◌, Result, Ok, Err}
use Rattle.gql_base.specs.PathSegment.{path_text}
pub use Rattle.gql_request.specs.Told.{with_more}
use Rattle.gql_resolve.specs.declared.field_future.FieldFuture.{FieldFuture}
use Rattle.gql_resolve.specs.declared.field_future.FieldFuture.TheVariants.{Value, Future}
use Rattle.gql_resolve.specs.declared.answer.Polled.{Polled}
use Rattle.gql_resolve.specs.declared.answer.Polled.TheVariants.{Ready, Pending}
use Rattle.gql_resolve.specs.declared.record_entry.RecordEntry.{RecordEntry}
use Rattle.gql_resolve.specs.declared.resolver_context.ResolverContext.{ResolverContext}

module _ {V : Type 0} where
  -- the entry of a task's turn
  abbrev pub entry_of : ResolverContext V → Bool → RecordEntry
  entry_of context ready =
      record {
        task = context.task;
        resolver = context.resolver;
        path = path_text context.path_node.segments.now;
        ready = ready;
      }

  -- a start that gives a value is a ready entry; a future has its entries from its polls
  abbrev pub entries_of_start : {F E : Type 0} → ResolverContext V → Result (FieldFuture V F) E
      → List RecordEntry
  entries_of_start context (Ok (Value value)) = entry_of context true ∷ []
  entries_of_start context (Ok (Future future)) = []
  entries_of_start context (Err want) = []

  -- each poll is an entry
  abbrev pub entries_of_poll : {E : Type 0} → ResolverContext V → Result (Polled V) E
      → List RecordEntry
  entries_of_poll context (Ok (Ready answer)) = entry_of context true ∷ []
  entries_of_poll context (Ok Pending) = entry_of context false ∷ []
  entries_of_poll context (Err want) = []

  -- each start that gives something begins its task
  abbrev pub tasks_of_start : {F E : Type 0} → ResolverContext V → Result (FieldFuture V F) E
      → List ℕ
  tasks_of_start context (Ok started) = context.task ∷ []
  tasks_of_start context (Err want) = []
