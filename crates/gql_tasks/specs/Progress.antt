-- What stands between two turns, and what lies between two such moments.
use Rattle.std.specs.Prelude.{ℕ, Bool, ◌≡◌, ◌+◌, ◌≤◌, ◌++◌, List, [], Some, Result, OnOk}
use Rattle.std.specs.Prelude.{OnErr}
use Rattle.std.specs.Prelude.{length, slice_get}
use Rattle.std.specs.Option.{ForSome}
use Rattle.gql_request.specs.Path.{IsFront}
use Rattle.gql_resolve.specs.Call.{Call}
use Rattle.gql_resolve.specs.Record.{with_more}
use Rattle.gql_resolve.specs.declared.answer.Answer.{Answer}
use Rattle.gql_resolve.specs.declared.record_entry.RecordEntry.{RecordEntry}
use Rattle.gql_resolve.specs.declared.resolver_set.ResolverSet.{Ghosts as Resolving}
use Rattle.gql_resolve.specs.declared.turns.Turns.{Ghosts as Choosing}
use Rattle.gql_tasks.specs.declared.arena.State.{State}
use Rattle.gql_tasks.specs.declared.arena.State.TheVariants.{Done}
use Rattle.gql_tasks.specs.declared.given.Given.{Given}
use Rattle.gql_tasks.specs.declared.run.Run.{Run}
use Rattle.gql_tasks.specs.Arena.{Subject, Work, Fits, IsRight, marks_of, started, total}
use Rattle.gql_tasks.specs.Keeps.{SameLent}
use Rattle.gql_tasks.specs.Pace.{EachPaced, EachPacedSoFar, to_come_at, told_of}
use Rattle.gql_tasks.specs.Parts.{Parts, Moment, choice_by, due_by, delay_by, delay_at, stage}
use Rattle.gql_tasks.specs.Parts.{subject}
use Rattle.gql_tasks.specs.Record.{Story, Made, Stage, Ran, Stopped, fresh, tasks_at, waiting}
use Rattle.gql_tasks.specs.Record.{waiting_from}
use Rattle.gql_tasks.specs.Rounds.{KeepNumbers, ToldRounds, times, to_enter_at}
use Rattle.gql_tasks.specs.Steps.{IsCounted}

-- answers that agree with those that are due to the tasks that are open: to the roots of a
-- mutation, or to all others, since a root is asked in a world of its own
pub record Agrees {V Task : Type 0} (subject : Subject V Task) (root : Bool)
    (due : Call V → Answer V)
    (answers : Task → Answer V) : Type 0 where
  pub agrees : (task : Task) → (subject.call task).is_root ≡ root
      → answers task ≡ due (subject.call task)

-- what the record needs to know of the tasks, where these are their answers
abbrev pub story_of : {V Task : Type 0} → Subject V Task → (Task → Answer V) → Story Task
story_of subject answers = record {
  resolver = λ task. (subject.call task).resolver;
  path = subject.path;
  beneath = λ task. subject.beneath task (answers task);
}

module _ {R Own World Future L H P : Type 0} (e : Parts R Own World Future L H P) where
  -- every set and all hooks keep it: each task has a state, those without an answer wait in the
  -- order of making, and the futures are for the calls of their tasks
  pub record IsSound (m : Moment R Future L H P) : Type 0 where
    pub lengths : length m.states ≡ length (e.plan.tasks m.plan)
    pub waits : m.waiting ≡ waiting_from 0 (marks_of m.states)
    pub fits : (number : ℕ) (task : e.plan.Task) (s : State Future)
        → slice_get (e.plan.tasks m.plan) number ≡ Some task → slice_get m.states number ≡ Some s
        → Fits e.root e.set.is_for (e.plan.holds m.plan number) (e.plan.asks task).call s

  -- what turns keep of the set and the hooks but for the world, whether they end well or not; each
  -- task that begins is a step
  pub record Steady (old new : Moment R Future L H P) : Type 0 where
    pub lent_is : SameLent old.lent new.lent
    pub rules_is : e.set.rules new.set ≡ e.set.rules old.set
    pub lawful_is : e.set.is_lawful old.set → e.set.is_lawful new.set
    pub paced_is : e.set.is_paced old.set → e.set.is_paced new.set
    pub quiet_is : e.hooks.are_quiet old.hooks → e.hooks.are_quiet new.hooks
    pub counted : IsCounted (e.set.begun old.set) (e.set.begun new.set) old.steps new.steps

  -- the same with the world
  pub record Kept (old new : Moment R Future L H P) : Type 0 where
    pub steady : Steady old new
    pub world_is : e.set.is_lawful old.set → e.set.world new.set ≡ e.set.world old.set

  -- over a lawful set and quiet hooks: the answers that are kept are those that are due, and the
  -- record is turned
  pub record Progress (old new : Moment R Future L H P)
      (answers : e.plan.Task → Answer Own) : Type 0 where
    pub right : (base : ℕ)
        → IsRight base answers (e.plan.holds old.plan) (e.plan.tasks old.plan) old.states
        → IsRight base answers (e.plan.holds new.plan) (e.plan.tasks new.plan) new.states
    pub ran : Ran (choice_by e.turns) (story_of (subject e) answers) (stage e old) (stage e new)

  -- over a paced set and quiet hooks: what was to come of each task is its entries that the set was
  -- told, and what is to come after
  pub record Paces (old new : Moment R Future L H P) : Type 0 where
    pub entries : List RecordEntry
    pub told_is : e.set.told new.set ≡ with_more (e.set.told old.set) entries
    pub stays : KeepNumbers (e.plan.tasks old.plan) (e.plan.tasks new.plan)
    pub splits : (k due : ℕ) → ((task : e.plan.Task)
        → slice_get (e.plan.tasks new.plan) k ≡ Some task → due ≡ delay_at e old task)
        → to_come_at e.set.number due (slice_get old.states k)
        ≡ told_of k entries ++ to_come_at e.set.number due (slice_get new.states k)

  -- over a lawful set and quiet hooks, where memory ran out: the record is the front of a turned
  -- one. Where the set is paced and tells it, the entries of each task that is made by then are a
  -- front of those that were to come
  pub record ProgressSoFar (old new : Moment R Future L H P)
      (answers : e.plan.Task → Answer Own) : Type 0 where
    pub stopped : Stopped (choice_by e.turns) (story_of (subject e) answers) (stage e old)
        (e.set.told new.set) (e.set.begun new.set)
    pub paces : e.set.is_paced old.set → ForSome (e.set.told old.set) (λ before.
        (k : ℕ) (task : e.plan.Task)
        → slice_get (tasks_at (story_of (subject e) answers) (stage e old).made stopped.entries) k
        ≡ Some task → IsFront (told_of k stopped.entries)
        (to_come_at e.set.number (delay_at e old task) (slice_get old.states k)))

  -- for every set and all hooks: the hooks of a task are entered once, as its first turn begins
  pub record Enters (old new : Moment R Future L H P) : Type 0 where
    pub stays : KeepNumbers (e.plan.tasks old.plan) (e.plan.tasks new.plan)
    pub rounds : ToldRounds e.plan.asks e.hooks (e.plan.tasks new.plan) old.hooks new.hooks
    pub once : (k : ℕ) → to_enter_at (slice_get old.states k)
        ≡ times k rounds.entered + to_enter_at (slice_get new.states k)

  -- the same where memory ran out: once at most
  pub record EntersSoFar (old : Moment R Future L H P) (hooks : H) : Type 0 where
    pub made : List e.plan.Task
    pub stays : KeepNumbers (e.plan.tasks old.plan) made
    pub rounds : ToldRounds e.plan.asks e.hooks made old.hooks hooks
    pub once : (k : ℕ) → times k rounds.entered ≤ to_enter_at (slice_get old.states k)

  -- a task that has its answer keeps it
  pub record StaysDone (old new : Moment R Future L H P) (number : ℕ) : Type 0 where
    pub done : slice_get new.states number ≡ Some Done
    pub held : (given : Given Own) → e.plan.holds old.plan number given
        → e.plan.holds new.plan number given

  -- what a stretch of turns that ended well leaves; with quiet hooks a step was taken for each task
  -- that has begun in it
  pub record Passed (old new : Moment R Future L H P) : Type 0 where
    pub stays : (number : ℕ) → slice_get old.states number ≡ Some Done → StaysDone old new number
    pub enters : Enters old new
    pub stepped : e.hooks.are_quiet old.hooks
        → new.steps + total started old.states ≡ old.steps + total started new.states
    pub progress : e.set.is_lawful old.set → e.hooks.are_quiet old.hooks
        → (answers : e.plan.Task → Answer Own)
        → Agrees (subject e) e.root (due_by e.set old.set) answers → Progress old new answers
    pub paces : e.set.is_paced old.set → e.hooks.are_quiet old.hooks → Paces old new

  -- a stretch of turns that ended well
  pub record Went (old new : Moment R Future L H P) : Type 0 where
    pub sound : IsSound new
    pub passed : Passed old new

  -- a stretch of turns that ended out of memory: what the set and the hooks have told by then
  pub record Ended (old new : Moment R Future L H P) : Type 0 where
    pub enters : EntersSoFar old new.hooks
    pub progress : e.set.is_lawful old.set → e.hooks.are_quiet old.hooks
        → (answers : e.plan.Task → Answer Own)
        → Agrees (subject e) e.root (due_by e.set old.set) answers → ProgressSoFar old new answers

  -- a stretch of turns, whether it ended well or out of memory
  pub record Stretch {T Want : Type 0} (old new : Moment R Future L H P)
      (result : Result T Want) : Type 0 where
    pub kept : Kept old new
    pub went : OnOk result (Went old new)
    pub ended : OnErr result (Ended old new)

-- a resolver set and turns at one moment
pub record Seen (R P : Type 0) : Type 0 where
  pub set : R
  pub turns : P

-- the same, as a contract names it
abbrev pub seen : {R P : Type 0} → R → P → Seen R P
seen set turns = record { set = set; turns = turns }

-- those of a run
abbrev pub seen_in : {R H P S Own World Future : Type 0} → Run R H P S Own World Future → Seen R P
seen_in run = seen run.set.now run.turns.now

module _ {R Own World Future P Task : Type 0} (set : Resolving R Own World Future)
    (turns : Choosing P) where
  -- the story of the tasks over a lawful set at a moment
  abbrev pub story_at : Subject Own Task → Seen R P → Story Task
  story_at subject old = story_of subject (λ task. due_by set old.set (subject.call task))

  -- what the record sees of a moment, with the tasks and their marks
  abbrev pub stage_of : Made Task → Seen R P → Stage Task turns.State
  stage_of made m = record {
    made = made;
    told = set.told m.set;
    starts = set.begun m.set;
    turns = turns.state m.turns;
  }

  -- a whole execution of tasks that are fresh: a turned record that leaves none waiting. Where the
  -- set is paced and tells its record, the entries of each task are as many pending ones as the
  -- delay of its resolver, and then its ready one
  pub record RunsWhole (work : Work Own Task) (old new : Seen R P) : Type 0 where
    pub made : Made Task
    pub ran : Ran (choice_by turns) (story_at work.subject old) (stage_of (fresh work.first) old)
        (stage_of made new)
    pub whole : waiting made ≡ []
    pub paces : set.is_paced old.set → ForSome (set.told old.set) (λ before.
        EachPaced (λ task. delay_by set old.set (work.subject.call task).resolver) made.tasks
        ran.entries)

  -- an execution of such tasks that ended out of memory. Where the set is paced and tells its
  -- record, the entries of each task that was made by then are a front of those
  pub record RunStopped (work : Work Own Task) (old new : Seen R P) : Type 0 where
    pub stopped : Stopped (choice_by turns) (story_at work.subject old)
        (stage_of (fresh work.first) old) (set.told new.set) (set.begun new.set)
    pub paces : set.is_paced old.set → ForSome (set.told old.set) (λ before. EachPacedSoFar
        (λ task. delay_by set old.set (work.subject.call task).resolver)
        (tasks_at (story_at work.subject old) (fresh work.first) stopped.entries)
        stopped.entries)
