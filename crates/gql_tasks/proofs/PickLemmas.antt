-- The task that a turn takes up.
use Rattle.std.proofs.Common.{ℕ, ◌≡◌, ◌<◌, List, length, get_or, refl, arith}
use Rattle.std.proofs.lemmas.Option.{slice_get_read}
use Rattle.std.specs.Prelude.{Some, Bool, slice_get}
use Rattle.gql_resolve.specs.Call.{Call}
use Rattle.gql_tasks.specs.declared.arena.State.{State}
use Rattle.gql_tasks.specs.declared.arena.State.TheVariants as state
use Rattle.gql_tasks.specs.Arena.{Subject}
use Rattle.gql_tasks.specs.declared.given.Given.{Given}
use Rattle.gql_tasks.specs.Turn.{IsOpen}
use Rattle.gql_lists.proofs.SliceLemmas.{get_at}
use Rattle.gql_tasks.proofs.SoundLemmas.{Stands, chosen_within, chosen_open}

pub record Pick {V Task F : Type 0} (root : Bool) (is_for : F → Call V → Type 0) (subject : Subject V Task) (tasks : List Task) (states : List (State F)) (number : ℕ) (old : State F) : Type 0 where
  pub within : number < length states
  pub within_tasks : number < length tasks
  pub task : Task
  pub task_is : slice_get tasks number ≡ Some task
  pub old_is : slice_get states number ≡ Some old
  pub not_root : (subject.call task).is_root ≡ root
  pub open_is : IsOpen is_for (subject.call task) old

pub picked_within : {V Task F : Type 0} {root : Bool} {is_for : F → Call V → Type 0} {subject : Subject V Task} {holds : ℕ → Given V → Type 0} {tasks : List Task} {states : List (State F)} {waiting : List ℕ} (at number : ℕ)
    → Stands root is_for subject holds tasks states waiting → slice_get waiting at ≡ Some number → number < length states
picked_within {V = V} {Task = Task} {F = F} {root = root} {is_for = is_for} {subject = subject} {holds = holds} {tasks = tasks} {states = states} {waiting = waiting} at number sound is =
    chosen_within V Task F root is_for subject holds tasks states waiting at number sound is

pub picked : {V Task F : Type 0} {root : Bool} {is_for : F → Call V → Type 0} {subject : Subject V Task} {holds : ℕ → Given V → Type 0} {tasks : List Task} {states : List (State F)} {waiting : List ℕ} (at number : ℕ) (old : State F)
    → Stands root is_for subject holds tasks states waiting → slice_get waiting at ≡ Some number → old ≡ get_or states number old
    → Pick root is_for subject tasks states number old
picked {V = V} {Task = Task} {F = F} {root = root} {is_for = is_for} {subject = subject} {holds = holds} {tasks = tasks} {states = states} {waiting = waiting} at number old sound is read =
    let within = chosen_within V Task F root is_for subject holds tasks states waiting at number sound is in
    let lengths = sound.lengths in
    let within_tasks : number < length tasks = omega arith in
    let task_at = get_at tasks number within_tasks in
    let old_is = slice_get_read states (length states) number old refl within read in
    let opened = chosen_open V Task F root is_for subject holds tasks states waiting at number task_at.0 old sound is task_at.1 old_is in
    record {
      within = within;
      within_tasks = within_tasks;
      task = task_at.0;
      task_is = task_at.1;
      old_is = old_is;
      not_root = opened.0;
      open_is = opened.1;
    }

-- a task that may be taken up has no answer
pub open_undone : {F C : Type 0} (is_for : F → C → Type 0) (call : C) (s : State F) → IsOpen is_for call s → (s ≡ state.Done → ⊥)
open_undone is_for call state.Fresh opened is = cc
open_undone is_for call (state.Waiting f) opened is = cc
open_undone is_for call state.Done opened is = opened
