-- The parts of an execution, and what is seen of them at one moment.
use Rattle.std.specs.Prelude.{ℕ, List, Bool, true, false}
use Rattle.gql_resolve.specs.Call.{Call}
use Rattle.gql_resolve.specs.declared.answer.Answer.{Answer}
use Rattle.gql_resolve.specs.declared.resolver_set.ResolverSet.{Ghosts as Resolving}
use Rattle.gql_resolve.specs.declared.turns.Turns.{Ghosts as Choosing}
use Rattle.gql_tasks.specs.declared.arena.Arena.{Arena}
use Rattle.gql_tasks.specs.declared.arena.State.{State}
use Rattle.gql_tasks.specs.declared.plan.Plan.{Ghosts as Planning}
use Rattle.gql_tasks.specs.declared.rounds.Rounds.{Ghosts as Hooking}
use Rattle.gql_tasks.specs.declared.run.Run.{Run}
use Rattle.gql_tasks.specs.Arena.{Subject, subject_of, made_of}
use Rattle.gql_tasks.specs.Keeps.{Lent, lent_to}
use Rattle.gql_tasks.specs.Record.{Choice, Stage}

-- what is known of an execution's parts: of its resolver set, its plan, its hooks and its turns;
-- and whether the tasks that are open are roots of a mutation
pub record Parts (R Own World Future L H P : Type 0) : Type 1 where
  pub set : Resolving R Own World Future
  pub plan : Planning L Own
  pub hooks : Hooking H
  pub turns : Choosing P
  pub root : Bool

module _ {R Own World Future L H P : Type 0} (set : Resolving R Own World Future) where
  -- the parts, as a contract names them; the open tasks are roots of a mutation, or none is
  abbrev pub parts_as : Bool → Planning L Own → Hooking H → Choosing P
      → Parts R Own World Future L H P
  parts_as root plan hooks turns = record {
    set = set;
    plan = plan;
    hooks = hooks;
    turns = turns;
    root = root;
  }

  -- those of turns in which no open task is a root
  abbrev pub parts : Planning L Own → Hooking H → Choosing P → Parts R Own World Future L H P
  parts plan hooks turns = parts_as false plan hooks turns

  -- those of the phase that answers a root: it alone is open
  abbrev pub root_parts : Planning L Own → Hooking H → Choosing P
      → Parts R Own World Future L H P
  root_parts plan hooks turns = parts_as true plan hooks turns

-- an execution at one moment: the plan, the states of its tasks, the numbers of those that wait,
-- the set, the hooks, the turns and the steps, and the references by which these are lent
pub record Moment (R Future L H P : Type 0) : Type 0 where
  pub plan : L
  pub states : List (State Future)
  pub waiting : List ℕ
  pub set : R
  pub hooks : H
  pub turns : P
  pub steps : ℕ
  pub lent : Lent

-- the moment, as a contract names it
abbrev pub at : {R H P S Own World Future L : Type 0} → L → Arena Future
    → Run R H P S Own World Future → Moment R Future L H P
at plan arena run = record {
  plan = plan;
  states = arena.states.items;
  waiting = arena.waiting;
  set = run.set.now;
  hooks = run.hooks.now;
  turns = run.turns.now;
  steps = run.steps.now;
  lent = lent_to run;
}

-- how turns choose
abbrev pub choice_by : {P : Type 0} (turns : Choosing P) → Choice turns.State
choice_by turns = record { place = turns.choice; after = turns.after }

module _ {R Own World Future : Type 0} (set : Resolving R Own World Future) where
  -- what is due to a call: the answer by the rules of the set, in its world
  abbrev pub due_by : R → Call Own → Answer Own
  due_by resolvers call = set.answer (set.rules resolvers) call (set.world resolvers)

  -- the delay of a resolver, by the rules of the set
  abbrev pub delay_by : R → ℕ → ℕ
  delay_by resolvers resolver = set.delay (set.rules resolvers) resolver

module _ {R Own World Future L H P : Type 0} (e : Parts R Own World Future L H P) where
  -- what is fixed of the tasks
  abbrev pub subject : Subject Own e.plan.Task
  subject = subject_of e.plan.asks e.plan.beneath

  -- the delay that is due to a task at a moment
  abbrev pub delay_at : Moment R Future L H P → e.plan.Task → ℕ
  delay_at m task = delay_by e.set m.set (e.plan.asks task).call.resolver

  -- what the record sees of a moment
  abbrev pub stage : Moment R Future L H P → Stage e.plan.Task e.turns.State
  stage m = record {
    made = made_of (e.plan.tasks m.plan) m.states;
    told = e.set.told m.set;
    starts = e.set.begun m.set;
    turns = e.turns.state m.turns;
  }
