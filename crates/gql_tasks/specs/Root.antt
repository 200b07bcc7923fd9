-- A root key of a mutation (GraphQL, October 2021, section 6.2.2): its task is answered alone, and
-- its effect on the world comes with its answer.
use Rattle.std.specs.Prelude.{ℕ, ◌≡◌, Bool, if◌then◌else◌, true, false, List, [], ◌∷◌, ◌⊎◌, Some}
use Rattle.std.specs.Prelude.{Result, Ok, Err, slice_get}
use Rattle.gql_base.specs.declared.no_memory.NoMemory.{NoMemory}
use Rattle.gql_resolve.specs.Call.{Call}
use Rattle.gql_resolve.specs.declared.answer.Answer.{Answer}
use Rattle.gql_resolve.specs.declared.answer.Polled.{Polled}
use Rattle.gql_resolve.specs.declared.answer.Polled.TheVariants as polled
use Rattle.gql_resolve.specs.declared.resolver_set.ResolverSet.{Ghosts as Resolving}
use Rattle.gql_tasks.specs.declared.arena.State.{State}
use Rattle.gql_tasks.specs.declared.arena.Turn.{Turn}
use Rattle.gql_tasks.specs.declared.arena.Turn.TheVariants as turn
use Rattle.gql_tasks.specs.declared.given.Given.TheVariants.{Answered, Put}
use Rattle.gql_tasks.specs.declared.given.Given.{Given}
use Rattle.gql_tasks.specs.Parts.{Parts, Moment}
use Rattle.gql_tasks.specs.Progress.{IsSound, Steady, Kept, Passed, Went, Ended}

-- the effect of a call on the world, by the rules of the set
abbrev pub effect_by : {R Own World Future : Type 0} (set : Resolving R Own World Future) → R
    → Call Own → World → World
effect_by set resolvers call = set.effect (set.rules resolvers) call

-- where a poll gives an answer, it is the one that is due
abbrev pub PollsRightly : {V E : Type 0} → Answer V → Result (Polled V) E → Type 0
PollsRightly due (Ok (polled.Ready answer)) = answer ≡ due
PollsRightly due (Ok polled.Pending) = Unit {0}
PollsRightly due (Err want) = Unit {0}

-- the world after a poll: a ready one of a root leaves its effect
abbrev pub world_polled : {W V E : Type 0} → Bool → (W → W) → W → Result (Polled V) E → W
world_polled root effect world (Ok (polled.Ready answer)) = if root then effect world else world
world_polled root effect world (Ok polled.Pending) = world
world_polled root effect world (Err want) = world

-- the world after a turn: the answer of a root's resolver leaves its effect, and what a hook puts
-- leaves none
abbrev pub world_turned : {W V E : Type 0} → Bool → (W → W) → W → Result (Turn V) E → W
world_turned root effect world (Ok (turn.Answered (Answered answer))) =
    if root then effect world else world
world_turned root effect world (Ok (turn.Answered (Put put))) = world
world_turned root effect world (Ok turn.Begun) = world
world_turned root effect world (Ok turn.Pending) = world
world_turned root effect world (Err want) = world

module _ {R Own World Future L H P : Type 0} (e : Parts R Own World Future L H P) where
  -- the parts once no open task is a root
  abbrev pub without_root : Parts R Own World Future L H P
  without_root = record {
    set = e.set;
    plan = e.plan;
    hooks = e.hooks;
    turns = e.turns;
    root = false;
  }

  -- the world became the effect of the call of the one task that waited
  abbrev pub LeavesEffect : Moment R Future L H P → Moment R Future L H P → Type 0
  LeavesEffect old new = (number : ℕ) (task : e.plan.Task) → old.waiting ≡ number ∷ []
      → slice_get (e.plan.tasks old.plan) number ≡ Some task
      → e.set.world new.set ≡ effect_by e.set old.set (e.plan.asks task).call (e.set.world old.set)

  -- the root has its answer: what goes on from here goes on in the world after it
  pub record RootAnswered (old new : Moment R Future L H P) : Type 0 where
    pub steady : Steady e old new
    pub sound : IsSound without_root new
    pub passed : Passed e old new
    pub world : e.set.is_lawful old.set → e.hooks.are_quiet old.hooks → LeavesEffect old new

  -- memory ran out: a root is told where its effect stands
  pub record RootEnded (old new : Moment R Future L H P) (want : NoMemory) : Type 0 where
    pub steady : Steady e old new
    pub ended : Ended e old new
    pub world : e.set.is_lawful old.set
        → ((want.roots ≡ 0) × (e.set.world new.set ≡ e.set.world old.set))
        ⊎ ((want.roots ≡ 1) × LeavesEffect old new)

  -- a stretch of turns without an answer: those that waited wait still
  pub record StillWaits (old new : Moment R Future L H P) : Type 0 where
    pub kept : Kept e old new
    pub went : Went e old new
    pub waits : new.waiting ≡ old.waiting

  -- what turns of a root leave until it has begun or has its answer
  abbrev pub RootReached : Moment R Future L H P → Moment R Future L H P → Result Bool NoMemory
      → Type 0
  RootReached old new (Ok false) = StillWaits old new
  RootReached old new (Ok true) = RootAnswered old new
  RootReached old new (Err want) = RootEnded old new want
