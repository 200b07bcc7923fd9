-- The root keys of a mutation, one after another (GraphQL, October 2021, section 6.2.2): each is a
-- phase of its own, with all that is under it, and the next begins in the world that it leaves.
use Rattle.std.specs.Prelude.{ℕ, ◌≡◌, ◌≤◌, ◌<◌, ◌++◌, if◌then◌else◌, List, [], ◌∷◌, ◌⊎◌, Option, Some}
use Rattle.std.specs.Prelude.{◌+◌, length, slice_get, take}
use Rattle.std.specs.Option.{ForSome}
use Rattle.gql_base.specs.declared.no_memory.NoMemory.{NoMemory}
use Rattle.gql_request.specs.Path.{IsFront}
use Rattle.gql_resolve.specs.Call.{Call}
use Rattle.gql_resolve.specs.declared.answer.Answer.{Answer}
use Rattle.gql_resolve.specs.declared.record_entry.RecordEntry.{RecordEntry}
use Rattle.gql_resolve.specs.declared.resolver_set.ResolverSet.{Ghosts as Resolving}
use Rattle.gql_resolve.specs.declared.turns.Turns.{Ghosts as Choosing}
use Rattle.gql_tasks.specs.declared.given.Given.{Given}
use Rattle.gql_tasks.specs.Arena.{Subject, Work, fresh_states, marks_of, started, total}
use Rattle.gql_tasks.specs.Keeps.{SameLent}
use Rattle.gql_tasks.specs.Pace.{pending_then_ready, told_of}
use Rattle.gql_tasks.specs.Parts.{Parts, Moment, choice_by, stage, subject}
use Rattle.gql_tasks.specs.Progress.{Enters, EntersSoFar, IsSound, Paces, Progress, ProgressSoFar}
use Rattle.gql_tasks.specs.Progress.{Seen, Steady, stage_of, story_of}
use Rattle.gql_tasks.specs.Record.{Choice, Made, Ran, Stage, Stopped, Story, fresh, tasks_at, untold}
use Rattle.gql_tasks.specs.Record.{waiting, waiting_from}
use Rattle.gql_tasks.specs.Root.{LeavesEffect, without_root}

-- what is answered to a call in a phase between two worlds: to a root key in the first one, and to
-- all others in the one after it
abbrev pub answer_between : {V W : Type 0} → (Call V → W → Answer V) → W → W → Call V → Answer V
answer_between answer before behind call =
    if call.is_root then answer call before else answer call behind

-- the tasks so far, and the one of the next root key
abbrev pub after_root : {Task : Type 0} → Made Task → Task → Made Task
after_root made root =
    record { tasks = made.tasks ++ root ∷ []; marks = made.marks ++ untold ∷ [] }

-- what the record sees once the next root key is made
abbrev pub with_root : {Task State : Type 0} → Stage Task State → Task → Stage Task State
with_root before root = record {
  made = after_root before.made root;
  told = before.told;
  starts = before.starts;
  turns = before.turns;
}

-- in the record of a phase, each task that it made has as many pending entries as its delay, then
-- its ready one, and no other; an earlier task has no entry in it
pub record PacedSince {Task : Type 0} (first : ℕ) (delay : Task → ℕ) (tasks : List Task)
    (entries : List RecordEntry) : Type 0 where
  pub earlier : (k : ℕ) → k < first → told_of k entries ≡ []
  pub paced : (k : ℕ) (task : Task) → first ≤ k → slice_get tasks k ≡ Some task
      → told_of k entries ≡ pending_then_ready (delay task)

-- the same where memory ran out: the entries of each task that it made are a front of those
pub record PacedSinceSoFar {Task : Type 0} (first : ℕ) (delay : Task → ℕ) (tasks : List Task)
    (entries : List RecordEntry) : Type 0 where
  pub earlier : (k : ℕ) → k < first → told_of k entries ≡ []
  pub paced : (k : ℕ) (task : Task) → first ≤ k → slice_get tasks k ≡ Some task
      → IsFront (told_of k entries) (pending_then_ready (delay task))

-- how the calls of a set are answered: the answer and the effect of a call in a world, the delay of
-- a resolver, and whether the set keeps to these delays
pub record Serving (V W : Type 0) : Type 1 where
  pub answer : Call V → W → Answer V
  pub effect : Call V → W → W
  pub delay : ℕ → ℕ
  pub paced : Type 0

-- the same of a set with these rules
abbrev pub serving_with : {R V W F : Type 0} (set : Resolving R V W F) → set.Rules → Type 0
    → Serving V W
serving_with set rules paced = record {
  answer = set.answer rules;
  effect = set.effect rules;
  delay = set.delay rules;
  paced = paced;
}

-- the same of a set as it stands
abbrev pub serving_by : {R V W F : Type 0} → Resolving R V W F → R → Serving V W
serving_by set resolvers = serving_with set (set.rules resolvers) (set.is_paced resolvers)

module _ {V W Task : Type 0} (serving : Serving V W) (subject : Subject V Task) where
  -- the answers in the phase of a root key that is asked in this world
  abbrev pub answers_in : W → Task → Task → Answer V
  answers_in world root task =
      answer_between serving.answer world (serving.effect (subject.call root) world)
      (subject.call task)

  -- the story of its tasks
  abbrev pub story_in : W → Task → Story Task
  story_in world root = story_of subject (answers_in world root)

  -- the world after root keys
  abbrev pub world_past : W → List Task → W
  world_past world [] = world
  world_past world (root ∷ roots) = world_past (serving.effect (subject.call root) world) roots

  module _ {State : Type 0} (choice : Choice State) where
    -- a whole phase: it begins with its root key after all tasks so far, and ends where none waits
    pub record IsPhase (world : W) (root : Task) (old new : Stage Task State) : Type 0 where
      pub ran : Ran choice (story_in world root) (with_root old root) new
      pub whole : waiting new.made ≡ []
      pub paces : serving.paced → ForSome old.told (λ before.
          PacedSince (length old.made.tasks) (λ task. serving.delay (subject.call task).resolver)
          new.made.tasks ran.entries)

    -- one phase after another, the first of them in this world
    abbrev pub Phases : W → List Task → Stage Task State → Stage Task State → Type 0
    Phases world [] old new = new ≡ old
    Phases world (root ∷ roots) old new = (middle : Stage Task State)
        × IsPhase world root old middle
        × Phases (serving.effect (subject.call root) world) roots middle new

    -- a phase that ended out of memory
    pub record IsCutPhase (world : W) (root : Task) (old : Stage Task State)
        (told : Option (List RecordEntry)) (starts : Option (List ℕ)) : Type 0 where
      pub stopped : Stopped choice (story_in world root) (with_root old root) told starts
      pub paces : serving.paced → ForSome old.told (λ before.
          PacedSinceSoFar (length old.made.tasks)
          (λ task. serving.delay (subject.call task).resolver)
          (tasks_at (story_in world root) (with_root old root).made stopped.entries)
          stopped.entries)

    -- memory ran out in the phase of the first of these root keys, or after all phases
    abbrev pub CutBefore : W → List Task → Stage Task State → Option (List RecordEntry)
        → Option (List ℕ) → Type 0
    CutBefore world [] old told starts = (told ≡ old.told) × (starts ≡ old.starts)
    CutBefore world (root ∷ roots) old told starts = IsCutPhase world root old told starts

    -- whole phases of the first of these root keys, and memory that was wanting after them
    pub record AreCut (world : W) (roots : List Task) (old : Stage Task State)
        (told : Option (List RecordEntry)) (starts : Option (List ℕ)) : Type 0 where
      pub done : List Task
      pub left : List Task
      pub split : roots ≡ done ++ left
      pub middle : Stage Task State
      pub phases : Phases world done old middle
      pub cut : CutBefore (world_past world done) left middle told starts

module _ {R Own World Future P Task : Type 0} (set : Resolving R Own World Future)
    (turns : Choosing P) (work : Work Own Task) (old new : Seen R P) where
  -- what serves an execution that begins at this moment
  abbrev pub serving_at : Serving Own World
  serving_at = serving_by set old.set

  -- before any task
  abbrev pub none_made : Stage Task turns.State
  none_made = stage_of set turns (fresh []) old

  -- the record of a whole mutation is the chain of those of its phases
  pub record RunsInTurn : Type 0 where
    pub made : Made Task
    pub phases : Phases serving_at work.subject (choice_by turns) (set.world old.set) work.first
        none_made (stage_of set turns made new)

  -- where memory ran out, it is that of whole phases, and of the one that was cut
  abbrev pub HaltsInTurn : Type 0
  HaltsInTurn = AreCut serving_at work.subject (choice_by turns) (set.world old.set) work.first
      none_made (set.told new.set) (set.begun new.set)

  -- the world is that after the first so many root keys
  pub record RootsStand (roots : ℕ) : Type 0 where
    pub within : roots ≤ length work.first
    pub world : set.world new.set
        ≡ world_past serving_at work.subject (set.world old.set) (take roots work.first)

module _ {R Own World Future L H P : Type 0} (e : Parts R Own World Future L H P) where
  -- what serves the phase that begins at this moment
  abbrev pub serving_of : Moment R Future L H P → Serving Own World
  serving_of m = serving_by e.set m.set

  -- the task of the root key, which waits alone
  pub record IsRootOf (m : Moment R Future L H P) (root : e.plan.Task) : Type 0 where
    pub number : ℕ
    pub alone : m.waiting ≡ number ∷ []
    pub there : slice_get (e.plan.tasks m.plan) number ≡ Some root

  -- the answers that are due in the phase of a root key
  abbrev pub phase_answers : Moment R Future L H P → e.plan.Task → e.plan.Task → Answer Own
  phase_answers m root = answers_in (serving_of m) (subject e) (e.set.world m.set) root

  -- a phase that is over: none waits
  pub record PhaseOver (old new : Moment R Future L H P) : Type 0 where
    pub steady : Steady e old new
    pub sound : IsSound (without_root e) new
    pub none : new.waiting ≡ []
    pub enters : Enters e old new
    pub stepped : e.hooks.are_quiet old.hooks
        → new.steps + total started old.states ≡ old.steps + total started new.states
    pub world : e.set.is_lawful old.set → e.hooks.are_quiet old.hooks → LeavesEffect e old new
    pub progress : e.set.is_lawful old.set → e.hooks.are_quiet old.hooks
        → (root : e.plan.Task) → IsRootOf old root
        → Progress e old new (phase_answers old root)
    pub paces : e.set.is_paced old.set → e.hooks.are_quiet old.hooks → Paces e old new

  -- a phase that ended out of memory: its root is told where its effect stands
  pub record PhaseCut (old new : Moment R Future L H P) (want : NoMemory) : Type 0 where
    pub steady : Steady e old new
    pub enters : EntersSoFar e old new.hooks
    pub world : e.set.is_lawful old.set → e.hooks.are_quiet old.hooks
        → ((want.roots ≡ 0) × (e.set.world new.set ≡ e.set.world old.set))
        ⊎ ((want.roots ≡ 1) × LeavesEffect e old new)
    pub progress : e.set.is_lawful old.set → e.hooks.are_quiet old.hooks
        → (root : e.plan.Task) → IsRootOf old root
        → ProgressSoFar e old new (phase_answers old root)

  -- what stands after whole phases: none waits, and the next root key is yet to be made
  pub record InTurn (old now : Moment R Future L H P) (done : List e.plan.Task) : Type 0 where
    pub steady : Steady e old now
    pub lengths : length now.states ≡ length (e.plan.tasks now.plan)
    pub waits : now.waiting ≡ waiting_from 0 (marks_of now.states)
    pub none : now.waiting ≡ []
    pub enters : Enters e old now
    pub stepped : e.hooks.are_quiet old.hooks
        → now.steps + total started old.states ≡ old.steps + total started now.states
    pub phases : e.set.is_lawful old.set → e.hooks.are_quiet old.hooks
        → Phases (serving_of old) (subject e) (choice_by e.turns) (e.set.world old.set) done
        (stage e old) (stage e now)
    pub world : e.set.is_lawful old.set → e.hooks.are_quiet old.hooks → e.set.world now.set
        ≡ world_past (serving_of old) (subject e) (e.set.world old.set) done

  -- the task of the next root key is made, after all others
  pub record NextRoot (now next : Moment R Future L H P) (root : e.plan.Task) : Type 0 where
    pub tasks_is : e.plan.tasks next.plan ≡ e.plan.tasks now.plan ++ root ∷ []
    pub states_is : next.states ≡ now.states ++ fresh_states 1
    pub waits : next.waiting ≡ waiting_from 0 (marks_of next.states)
    pub root_is : (e.plan.asks root).call.is_root ≡ e.root
    pub lent_is : SameLent now.lent next.lent
    pub set_is : next.set ≡ now.set
    pub hooks_is : next.hooks ≡ now.hooks
    pub turns_is : next.turns ≡ now.turns
    pub steps_is : next.steps ≡ now.steps
    -- of the tasks so far something is kept still
    pub held : (number : ℕ) → number < length (e.plan.tasks now.plan)
        → (given : Given Own) × e.plan.holds next.plan number given

  -- memory ran out: what was told by then, and the world after the root keys that stand
  pub record CutInTurn (old new : Moment R Future L H P) (roots : List e.plan.Task)
      (want : NoMemory) : Type 0 where
    pub steady : Steady e old new
    pub enters : EntersSoFar e old new.hooks
    pub cut : e.set.is_lawful old.set → e.hooks.are_quiet old.hooks
        → AreCut (serving_of old) (subject e) (choice_by e.turns) (e.set.world old.set) roots
        (stage e old) (e.set.told new.set) (e.set.begun new.set)
    pub stands : e.set.is_lawful old.set → e.hooks.are_quiet old.hooks
        → (want.roots ≤ length roots) × (e.set.world new.set
        ≡ world_past (serving_of old) (subject e) (e.set.world old.set) (take want.roots roots))
