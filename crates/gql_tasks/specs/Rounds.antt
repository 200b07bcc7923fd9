-- The rounds of the hooks: those of a task are entered once, before its resolver, and are told of
-- it alone.
use Rattle.std.specs.Prelude.{ℕ, ◌≡◌, ◌+◌, ◌≤◌, ◌==◌, if◌then◌else◌, All}
use Rattle.std.specs.Prelude.{List, [], ◌∷◌, Option, Some, None, Result, OnErr, OnOk, map}
use Rattle.std.specs.Prelude.{slice_get}
use Rattle.gql_request.specs.declared.extension_context.ExtensionContext.{ExtensionContext}
use Rattle.gql_resolve.specs.Record.{with_more}
use Rattle.gql_resolve.specs.declared.layers.Layers.{Layers}
use Rattle.gql_tasks.specs.declared.arena.State.{State}
use Rattle.gql_tasks.specs.declared.arena.State.TheVariants as state
use Rattle.gql_tasks.specs.declared.rounds.Rounds.{Ghosts as Hooking}
use Rattle.gql_tasks.specs.Plan.{Asking, IsContextOf, IsInfoOf}
use Rattle.gql_tasks.specs.Turn.{Round}

-- the rounds that are to come of a task: one, where it is fresh
abbrev pub to_enter : {F : Type 0} → State F → ℕ
to_enter state.Fresh = 1
to_enter (state.Waiting future) = 0
to_enter state.Done = 0

-- a task that isn't made yet has its round to come
abbrev pub to_enter_at : {F : Type 0} → Option (State F) → ℕ
to_enter_at None = 1
to_enter_at (Some s) = to_enter s

-- how many of these rounds were of a task
abbrev pub times : {V : Type 0} → ℕ → List (Round V) → ℕ
times task [] = 0
times task (round ∷ rounds) = (if round.context.task == task then 1 else 0) + times task rounds

-- what hooks see of the data of an execution: the layers without what hooks added
abbrev pub data_seen : Layers → ExtensionContext
data_seen layers = record {
  schema_data = layers.schema;
  session_data = layers.session;
  query_data = Some layers.query;
}

-- the event of a round
abbrev pub event_of : {H V : Type 0} (hooks : Hooking H) → Round V → hooks.Event
event_of hooks round = hooks.entered (data_seen round.context.layers) round.info

-- tasks keep their numbers among those that are made
abbrev pub KeepNumbers : {Task : Type 0} → List Task → List Task → Type 0
KeepNumbers {Task = Task} tasks made =
    (k : ℕ) (task : Task) → slice_get tasks k ≡ Some task → slice_get made k ≡ Some task

module _ {V Task : Type 0} (asks : Task → Asking V) where
  -- a round is that of the task of its number
  pub record IsOneOf (tasks : List Task) (round : Round V) : Type 0 where
    pub task : Task
    pub there : slice_get tasks round.context.task ≡ Some task
    pub context_is : IsContextOf round.context.task (asks task) round.context
    pub info_is : IsInfoOf (asks task) round.info

  -- what hooks told between two moments: each of these rounds, which are of tasks that are made by
  -- then
  pub record ToldRounds {H : Type 0} (hooks : Hooking H) (made : List Task)
      (old new : H) : Type 0 where
    pub entered : List (Round V)
    pub told_is : hooks.told new ≡ with_more (hooks.told old) (map (event_of hooks) entered)
    pub own : All (IsOneOf made) entered

  -- what they told in a whole execution of tasks that were fresh: one round for each task that was
  -- made
  pub record RoundsWhole {H : Type 0} (hooks : Hooking H) (tasks : List Task)
      (old new : H) : Type 0 where
    pub made : List Task
    pub stays : KeepNumbers tasks made
    pub rounds : ToldRounds hooks made old new
    pub once : (k : ℕ) (task : Task) → slice_get made k ≡ Some task → times k rounds.entered ≡ 1

  -- the same where memory ran out: one round at most for each
  pub record RoundsStopped {H : Type 0} (hooks : Hooking H) (tasks : List Task)
      (old new : H) : Type 0 where
    pub made : List Task
    pub stays : KeepNumbers tasks made
    pub rounds : ToldRounds hooks made old new
    pub once : (k : ℕ) → times k rounds.entered ≤ 1

  -- what they told in an execution of such tasks, whether it ended well or out of memory
  pub record RoundsOf {H T Want : Type 0} (hooks : Hooking H) (tasks : List Task)
      (old new : H) (result : Result T Want) : Type 0 where
    pub whole : OnOk result (RoundsWhole hooks tasks old new)
    pub stopped : OnErr result (RoundsStopped hooks tasks old new)
