-- The record of an execution: one entry for each poll that answered, and what it says about the
-- turns. A task is one call of a resolver. Tasks are numbered from 0 in the order in which they are
-- made.
use Rattle.std.specs.Prelude.{ℕ, suc, ◌≡◌, ◌≤◌, List, [], ◌∷◌}
use Rattle.std.specs.Prelude.{◌++◌, Option, Some, None, Bool, if◌then◌else◌, length, slice_get}
use Rattle.std.specs.Prelude.{slice_set, option_map}
use Rattle.std.specs.List.{AllByRecursion}
use Rattle.std.specs.Option.{ForSome}
use Rattle.gql_resolve.specs.Record.{with_more}
use Rattle.gql_resolve.specs.declared.record_entry.RecordEntry.{RecordEntry}

-- how far a task has come in the record: it has no entry, only pending entries, or its ready entry
pub data Mark : Type 0 where
  untold : Mark
  begun : Mark
  ready : Mark

-- what is fixed of each task: the number of its resolver, the text of its path, and the tasks
-- under its answer
pub record Story (Task : Type 0) : Type 0 where
  pub resolver : Task → ℕ
  pub path : Task → List ℕ
  pub beneath : Task → List Task

-- the tasks that are made so far, with the mark of each
pub record Made (Task : Type 0) : Type 0 where
  pub tasks : List Task
  pub marks : List Mark

-- the numbers of the tasks without a ready entry, in the order of making, counted from the first
-- number
abbrev pub waiting_from : ℕ → List Mark → List ℕ
waiting_from n [] = []
waiting_from n (untold ∷ marks) = n ∷ waiting_from (suc n) marks
waiting_from n (begun ∷ marks) = n ∷ waiting_from (suc n) marks
waiting_from n (ready ∷ marks) = waiting_from (suc n) marks

-- the numbers of the tasks without a ready entry
abbrev pub waiting : {Task : Type 0} → Made Task → List ℕ
waiting made = waiting_from 0 made.marks

-- new tasks, without an entry
abbrev pub untold_marks : {Task : Type 0} → List Task → List Mark
untold_marks [] = []
untold_marks (task ∷ tasks) = untold ∷ untold_marks tasks

-- tasks without an entry
abbrev pub fresh : {Task : Type 0} → List Task → Made Task
fresh tasks = record { tasks = tasks; marks = untold_marks tasks }

-- the tasks under the answer of a task, where it is made
abbrev pub beneath_of : {Task : Type 0} → Story Task → Option Task → List Task
beneath_of story None = []
beneath_of story (Some task) = story.beneath task

-- a pending entry marks its task
abbrev pub after_pending : {Task : Type 0} → Made Task → ℕ → Made Task
after_pending made task = record { tasks = made.tasks; marks = slice_set made.marks task begun }

-- a ready entry marks it too, and the tasks under its answer are made
abbrev pub after_ready : {Task : Type 0} → Made Task → ℕ → List Task → Made Task
after_ready made task more = record
    { tasks = made.tasks ++ more; marks = slice_set made.marks task ready ++ untold_marks more }

-- an entry does one of the two
abbrev pub after_mark : {Task : Type 0} → Story Task → Made Task → ℕ → Bool → Made Task
after_mark story made task is_ready = if is_ready
    then after_ready made task (beneath_of story (slice_get made.tasks task))
    else after_pending made task

-- the tasks and marks after one entry
abbrev pub after_entry : {Task : Type 0} → Story Task → Made Task → RecordEntry → Made Task
after_entry story made entry = after_mark story made entry.task entry.ready

-- how turns choose: the place among so many that wait, and the state after it
pub record Choice (State : Type 0) : Type 0 where
  pub place : State → ℕ → ℕ
  pub after : State → ℕ → State

-- an entry has the resolver's number and the path's text of its task
abbrev pub NamesTask : {Task : Type 0} → Story Task → Option Task → RecordEntry → Type 0
NamesTask story None entry = ⊥
NamesTask story (Some task) entry = (entry.resolver ≡ story.resolver task)
    × (entry.path ≡ story.path task)

-- each entry is of the task that the turns choose among those that wait before it
abbrev pub Turned : {Task State : Type 0} → Choice State → Story Task → State → Made Task
    → List RecordEntry → Type 0
Turned choice story state made [] = Unit {0}
Turned choice story state made (entry ∷ entries) =
    (slice_get (waiting made) (choice.place state (length (waiting made))) ≡ Some entry.task)
    × NamesTask story (slice_get made.tasks entry.task) entry
    × Turned choice story (choice.after state (length (waiting made)))
    (after_entry story made entry) entries

-- a task without a ready entry
abbrev pub IsOpenAt : Option Mark → Type 0
IsOpenAt None = ⊥
IsOpenAt (Some untold) = Unit {0}
IsOpenAt (Some begun) = Unit {0}
IsOpenAt (Some ready) = ⊥

-- each entry is of a task that waits before it, whatever chose it
abbrev pub EachWaits : {Task : Type 0} → Story Task → Made Task → List RecordEntry → Type 0
EachWaits story made [] = Unit {0}
EachWaits story made (entry ∷ entries) = IsOpenAt (slice_get made.marks entry.task)
    × EachWaits story (after_entry story made entry) entries

-- the state of the turns after a record
abbrev pub state_at : {Task State : Type 0} → Choice State → Story Task → State → Made Task
    → List RecordEntry → State
state_at choice story state made [] = state
state_at choice story state made (entry ∷ entries) = state_at choice story
    (choice.after state (length (waiting made))) (after_entry story made entry) entries

-- the tasks and marks after a record
abbrev pub made_at : {Task : Type 0} → Story Task → Made Task → List RecordEntry → Made Task
made_at story made [] = made
made_at story made (entry ∷ entries) = made_at story (after_entry story made entry) entries

-- the tasks that are made by the end of a record
abbrev pub tasks_at : {Task : Type 0} → Story Task → Made Task → List RecordEntry → List Task
tasks_at story made entries = (made_at story made entries).tasks

-- the task of an entry, where it is its first one
abbrev pub begins : ℕ → Option Mark → List ℕ
begins task None = []
begins task (Some untold) = task ∷ []
begins task (Some begun) = []
begins task (Some ready) = []

-- the tasks that begin in a record, each at its first entry
abbrev pub begun_at : {Task : Type 0} → Story Task → Made Task → List RecordEntry → List ℕ
begun_at story made [] = []
begun_at story made (entry ∷ entries) = begins entry.task (slice_get made.marks entry.task)
    ++ begun_at story (after_entry story made entry) entries

-- each of these numbers is that of a task that is made and has no entry
abbrev pub AreUntold : {Task : Type 0} → Made Task → List ℕ → Type 0
AreUntold made numbers =
    AllByRecursion (λ number. slice_get made.marks number ≡ Some untold) numbers

-- what the record sees of an execution between two turns: the tasks with their marks, what the set
-- told of entries and of tasks that began, and the state of the turns
pub record Stage (Task State : Type 0) : Type 0 where
  pub made : Made Task
  pub told : Option (List RecordEntry)
  pub starts : Option (List ℕ)
  pub turns : Option State

module _ {Task State : Type 0} (choice : Choice State) (story : Story Task) where
  -- one stretch of an execution: the entries that the set was told, which the turns chose, and what
  -- stands after them
  pub record Ran (old new : Stage Task State) : Type 0 where
    pub entries : List RecordEntry
    pub told_is : new.told ≡ with_more old.told entries
    pub starts_is : new.starts ≡ with_more old.starts (begun_at story old.made entries)
    pub waits : EachWaits story old.made entries
    pub turned : ForSome old.turns (λ s. Turned choice story s old.made entries)
    pub state_is : new.turns ≡ option_map (λ s. state_at choice story s old.made entries) old.turns
    pub made_is : new.made ≡ made_at story old.made entries

  -- what an execution that ended out of memory has told: such a stretch, and at most one task
  -- more has begun, of which nothing was told yet
  pub record Stopped (old : Stage Task State) (told : Option (List RecordEntry))
      (starts : Option (List ℕ)) : Type 0 where
    pub entries : List RecordEntry
    pub told_is : told ≡ with_more old.told entries
    pub waits : EachWaits story old.made entries
    pub last : List ℕ
    pub at_most_one : length last ≤ 1
    pub last_untold : AreUntold (made_at story old.made entries) last
    pub starts_is : starts ≡ with_more old.starts (begun_at story old.made entries ++ last)
    pub turned : ForSome old.turns (λ s. Turned choice story s old.made entries)
