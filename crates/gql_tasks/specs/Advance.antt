-- What one turn leaves: of a root of a mutation, which waits alone, or of another task.
use Rattle.std.specs.Prelude.{ℕ, ◌≡◌, Bool, if◌then◌else◌, true, false, List, ◌⊎◌, Result, Ok, Err}
use Rattle.gql_base.specs.declared.no_memory.NoMemory.{NoMemory}
use Rattle.gql_tasks.specs.declared.arena.State.{State}
use Rattle.gql_tasks.specs.declared.given.Given.TheVariants.{Answered, Put}
use Rattle.gql_tasks.specs.declared.given.Given.{Given}
use Rattle.gql_tasks.specs.declared.scheduler.Reached.{Reached}
use Rattle.gql_tasks.specs.declared.scheduler.Reached.TheVariants as reached
use Rattle.gql_tasks.specs.Arena.{Nearer}
use Rattle.gql_tasks.specs.Parts.{Parts, Moment}
use Rattle.gql_tasks.specs.Progress.{IsSound, Steady, Passed, Ended}
use Rattle.gql_tasks.specs.Root.{LeavesEffect, StillWaits, without_root}

module _ {R Own World Future L H P : Type 0} (e : Parts R Own World Future L H P) where
  -- the world after an answer: a root's leaves its effect, and another task's leaves the world
  abbrev pub WorldAfter : Bool → Moment R Future L H P → Moment R Future L H P → Type 0
  WorldAfter true old new = e.hooks.are_quiet old.hooks → LeavesEffect e old new
  WorldAfter false old new = e.set.world new.set ≡ e.set.world old.set

  -- the task has its answer: what goes on from here goes on in the world after it
  pub record TurnAnswered (old new : Moment R Future L H P) : Type 0 where
    pub steady : Steady e old new
    pub sound : IsSound (without_root e) new
    pub passed : Passed e old new
    pub world : e.set.is_lawful old.set → WorldAfter e.root old new

  -- the world where memory ran out: a root is told where its effect stands
  abbrev pub WorldLeft : Bool → Moment R Future L H P → Moment R Future L H P → NoMemory → Type 0
  WorldLeft true old new want = ((want.roots ≡ 0) × (e.set.world new.set ≡ e.set.world old.set))
      ⊎ ((want.roots ≡ 1) × LeavesEffect e old new)
  WorldLeft false old new want = (want.roots ≡ 0) × (e.set.world new.set ≡ e.set.world old.set)

  -- memory ran out
  pub record TurnEnded (old new : Moment R Future L H P) (want : NoMemory) : Type 0 where
    pub steady : Steady e old new
    pub ended : Ended e old new
    pub world : e.set.is_lawful old.set → WorldLeft e.root old new want

  -- what one turn leaves
  abbrev pub Advanced : Moment R Future L H P → Moment R Future L H P → Result Reached NoMemory
      → Type 0
  Advanced old new (Ok reached.Begun) = StillWaits e old new
  Advanced old new (Ok reached.Pending) = StillWaits e old new
  Advanced old new (Ok reached.Answered) = TurnAnswered old new
  Advanced old new (Err want) = TurnEnded old new want

-- each turn brings the tasks nearer to their answers
abbrev pub ReachedNearer : {F : Type 0} → (F → ℕ) → Reached → List (State F) → List (State F)
    → Type 0
ReachedNearer number reached.Begun old new = Nearer number true old new
ReachedNearer number reached.Pending old new = Nearer number false old new
ReachedNearer number reached.Answered old new = Nearer number true old new

-- how many roots have their effect with what a task was given, as a root or as another task
abbrev pub roots_turned : {V : Type 0} → Bool → Given V → ℕ
roots_turned root (Answered answer) = if root then 1 else 0
roots_turned root (Put put) = 0
