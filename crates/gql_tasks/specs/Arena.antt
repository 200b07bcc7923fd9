-- The states of the tasks, and what holds of them between two turns.
use Rattle.std.specs.Prelude.{ℕ, zero, suc, ◌≡◌, ◌+◌, ◌-◌, ◌*◌, ◌^◌, ◌<◌, ◌≤◌, List, [], ◌∷◌}
use Rattle.std.specs.Prelude.{Some, Bool, true, false, length, map, slice_get}
use Rattle.gql_tasks.specs.declared.arena.State.{State}
use Rattle.gql_tasks.specs.declared.arena.State.TheVariants as state
use Rattle.gql_tasks.specs.declared.given.Given.{Given}
use Rattle.gql_tasks.specs.declared.given.Given.TheVariants.{Answered}
use Rattle.gql_tasks.specs.Plan.{Asking}
use Rattle.gql_tasks.specs.Record.{Mark, untold, begun, ready, Made}
use Rattle.gql_base.specs.PathSegment.{path_text}
use Rattle.gql_resolve.specs.Call.{Call}
use Rattle.gql_resolve.specs.declared.answer.Answer.{Answer}

-- the mark of a task by its state
abbrev pub mark_of : {F : Type 0} → State F → Mark
mark_of state.Fresh = untold
mark_of (state.Waiting future) = begun
mark_of state.Done = ready

-- the marks of all tasks
abbrev pub marks_of : {F : Type 0} → List (State F) → List Mark
marks_of states = map mark_of states

-- the tasks with their marks, by their states
abbrev pub made_of : {Task F : Type 0} → List Task → List (State F) → Made Task
made_of tasks states = record { tasks = tasks; marks = marks_of states }

-- the states of so many tasks that were never begun
abbrev pub fresh_states : {F : Type 0} → ℕ → List (State F)
fresh_states zero = []
fresh_states (suc n) = state.Fresh ∷ fresh_states n

-- what is fixed of the tasks of a plan: what each asks, the text of its path, and the tasks that an
-- answer makes under it
pub record Subject (V Task : Type 0) : Type 0 where
  pub call : Task → Call V
  pub path : Task → List ℕ
  pub beneath : Task → Answer V → List Task

-- the same, of what tasks ask
abbrev pub subject_of : {V Task : Type 0} → (Task → Asking V) → (Task → Answer V → List Task)
    → Subject V Task
subject_of asks beneath = record {
  call = λ task. (asks task).call;
  path = λ task. path_text (asks task).segments;
  beneath = beneath;
}

-- what an execution has to do: what is fixed of its tasks, and those that it begins with
pub record Work (V Task : Type 0) : Type 0 where
  pub subject : Subject V Task
  pub first : List Task

-- of a task that was given something, that is kept; another may be taken up, and is a root of a
-- mutation or none, as is said of all that are open
abbrev pub Fits : {V F : Type 0} → Bool → (F → Call V → Type 0) → (Given V → Type 0) → Call V
    → State F → Type 0
Fits root is_for held call state.Fresh = call.is_root ≡ root
Fits root is_for held call (state.Waiting future) = (call.is_root ≡ root) × is_for future call
Fits {V = V} root is_for held call state.Done = (given : Given V) × held given

-- what is kept of the tasks from a number on is the answers that are due to them; those below were
-- answered in an earlier world
pub record IsRight {V Task F : Type 0} (base : ℕ) (answers : Task → Answer V)
    (holds : ℕ → Given V → Type 0) (tasks : List Task) (states : List (State F)) : Type 0 where
  pub kept : (number : ℕ) (task : Task) → base ≤ number → slice_get tasks number ≡ Some task
      → slice_get states number ≡ Some state.Done → holds number (Answered (answers task))

-- How far the execution is from its end. An event is the start or the answer of a task; each new
-- task has two to come, and there is room for 2^64 tasks. Between two events the numbers of the
-- futures fall.

-- the sum of the states' weights
abbrev pub total : {F : Type 0} → (State F → ℕ) → List (State F) → ℕ
total weight [] = 0
total weight (s ∷ states) = weight s + total weight states

-- whether a task has begun, as a number
abbrev pub started : {F : Type 0} → State F → ℕ
started state.Fresh = 0
started (state.Waiting future) = 1
started state.Done = 1

-- the events that are to come of a task
abbrev pub events_of : {F : Type 0} → State F → ℕ
events_of state.Fresh = 2
events_of (state.Waiting future) = 1
events_of state.Done = 0

-- the number of a task's future
abbrev pub polls_of : {F : Type 0} → (F → ℕ) → State F → ℕ
polls_of number state.Fresh = 0
polls_of number (state.Waiting future) = number future
polls_of number state.Done = 0

-- the events that are to come at most
abbrev pub events_left : {F : Type 0} → List (State F) → ℕ
events_left states = 3 * (2 ^ 64 - length states) + total events_of states

-- the numbers of all futures together
abbrev pub polls_left : {F : Type 0} → (F → ℕ) → List (State F) → ℕ
polls_left number states = total (polls_of number) states

-- after a turn: an event is over, or the numbers of the futures fell
abbrev pub Nearer : {F : Type 0} → (F → ℕ) → Bool → List (State F) → List (State F) → Type 0
Nearer number true old new = events_left new < events_left old
Nearer number false old new = (events_left new ≡ events_left old)
    × (polls_left number new < polls_left number old)
