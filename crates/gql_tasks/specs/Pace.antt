-- The pace of an execution over a set whose futures take as many polls as the delays of their
-- resolvers: the entries of each task, in their order, are as many pending ones as the delay of its
-- resolver, and then its ready one.
use Rattle.std.specs.Prelude.{ℕ, zero, suc, ◌≡◌, ◌==◌, Bool, true, false, if◌then◌else◌, List, []}
use Rattle.std.specs.Prelude.{◌∷◌, ◌++◌, Option, Some, None, slice_get}
use Rattle.gql_request.specs.Path.{IsFront}
use Rattle.gql_resolve.specs.declared.record_entry.RecordEntry.{RecordEntry}
use Rattle.gql_tasks.specs.declared.arena.State.{State}
use Rattle.gql_tasks.specs.declared.arena.State.TheVariants as state
use Rattle.gql_tasks.specs.declared.arena.Turn.{Turn}
use Rattle.gql_tasks.specs.declared.arena.Turn.TheVariants as turn

-- the entries of a task, each by whether it is ready: as many pending ones as it owes, and then its
-- ready one
abbrev pub pending_then_ready : ℕ → List Bool
pending_then_ready zero = true ∷ []
pending_then_ready (suc n) = false ∷ pending_then_ready n

-- the entries of a task to come: a fresh one owes its delay, and a waiting one the number of its
-- future
abbrev pub to_come : {F : Type 0} → (F → ℕ) → ℕ → State F → List Bool
to_come number delay state.Fresh = pending_then_ready delay
to_come number delay (state.Waiting future) = pending_then_ready (number future)
to_come number delay state.Done = []

-- a task that isn't made yet has all its entries to come
abbrev pub to_come_at : {F : Type 0} → (F → ℕ) → ℕ → Option (State F) → List Bool
to_come_at number delay None = pending_then_ready delay
to_come_at number delay (Some s) = to_come number delay s

-- a turn takes the first entry of those to come, and an answer is the last
abbrev pub TurnPaced : {V F : Type 0} → (F → ℕ) → ℕ → State F → State F → Turn V → Type 0
TurnPaced number delay old new (turn.Answered answer) = to_come number delay old ≡ true ∷ []
TurnPaced number delay old new turn.Begun = to_come number delay old
    ≡ false ∷ to_come number delay new
TurnPaced number delay old new turn.Pending = to_come number delay old
    ≡ false ∷ to_come number delay new

-- the entries of a task in a record, in their order
abbrev pub told_of : ℕ → List RecordEntry → List Bool
told_of task [] = []
told_of task (entry ∷ entries) = (if entry.task == task then entry.ready ∷ [] else [])
    ++ told_of task entries

-- in a whole record, each task has as many pending entries as its delay, then its ready entry, and
-- no other
pub record EachPaced {Task : Type 0} (delay : Task → ℕ) (tasks : List Task)
    (entries : List RecordEntry) : Type 0 where
  pub paced : (k : ℕ) (task : Task) → slice_get tasks k ≡ Some task
      → told_of k entries ≡ pending_then_ready (delay task)

-- in a record that ended out of memory, the entries of each of these tasks are a front of
-- those
pub record EachPacedSoFar {Task : Type 0} (delay : Task → ℕ) (tasks : List Task)
    (entries : List RecordEntry) : Type 0 where
  pub paced : (k : ℕ) (task : Task) → slice_get tasks k ≡ Some task
      → IsFront (told_of k entries) (pending_then_ready (delay task))
