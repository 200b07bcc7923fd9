-- What one turn does to the task that it takes.
use Rattle.std.specs.Prelude.{ℕ, ◌≡◌, ◌<◌, List, [], ◌∷◌, ◌⊎◌, Option, Result, Ok, Err}
use Rattle.std.specs.Prelude.{true, false}
use Rattle.gql_request.specs.declared.entered.Entered.{Entered}
use Rattle.gql_request.specs.declared.entered.Entered.TheVariants as entered
use Rattle.gql_request.specs.declared.resolve_info.ResolveInfo.{ResolveInfo}
use Rattle.gql_resolve.specs.declared.answer.Answer.{Answer}
use Rattle.gql_resolve.specs.declared.record_entry.RecordEntry.{RecordEntry}
use Rattle.gql_resolve.specs.declared.resolver_context.ResolverContext.{ResolverContext}
use Rattle.gql_resolve.specs.declared.resolver_set.ResolverSet.{Ghosts as Resolving}
use Rattle.gql_resolve.specs.Call.{Call}
use Rattle.gql_resolve.specs.Record.{entry_of, with_more}
use Rattle.gql_tasks.specs.declared.given.Given.TheVariants.{Answered, Put}
use Rattle.gql_tasks.specs.declared.arena.State.{State}
use Rattle.gql_tasks.specs.declared.arena.State.TheVariants as state
use Rattle.gql_tasks.specs.declared.arena.Turn.{Turn}
use Rattle.gql_tasks.specs.declared.arena.Turn.TheVariants as turn

-- the hooks answer nothing themselves
abbrev pub GoesOn : {T E : Type 0} → Result (Entered T) E → Type 0
GoesOn (Ok entered.Go) = Unit {0}
GoesOn (Ok (entered.Answer put)) = ⊥
GoesOn (Err e) = Unit {0}

-- a round that was entered is one event; where memory ran out, there was none
abbrev pub happened : {T E Event : Type 0} → Result (Entered T) E → Event → List Event
happened (Ok entered) event = event ∷ []
happened (Err e) event = []

-- a state whose task may be taken up: its future, where it has one, is for its call
abbrev pub IsOpen : {F C : Type 0} → (F → C → Type 0) → C → State F → Type 0
IsOpen is_for call state.Fresh = Unit {0}
IsOpen is_for call (state.Waiting future) = is_for future call
IsOpen is_for call state.Done = ⊥

-- after a first turn without an answer there is a future for the call
abbrev pub StartsWaiting : {F C : Type 0} → (F → C → Type 0) → C → State F → State F → Type 0
StartsWaiting is_for call state.Fresh (state.Waiting new) = is_for new call
StartsWaiting is_for call state.Fresh state.Fresh = ⊥
StartsWaiting is_for call state.Fresh state.Done = ⊥
StartsWaiting is_for call (state.Waiting old) new = ⊥
StartsWaiting is_for call state.Done new = ⊥

-- after a later one the future is for the call still, and its number fell
abbrev pub KeepsWaiting : {F C : Type 0} → (F → C → Type 0) → (F → ℕ) → C → State F → State F
    → Type 0
KeepsWaiting is_for number call (state.Waiting old) (state.Waiting new) = is_for new call
    × (number new < number old)
KeepsWaiting is_for number call (state.Waiting old) state.Fresh = ⊥
KeepsWaiting is_for number call (state.Waiting old) state.Done = ⊥
KeepsWaiting is_for number call state.Fresh new = ⊥
KeepsWaiting is_for number call state.Done new = ⊥

-- what a turn does to the state of its task
abbrev pub TurnOf : {R V W F : Type 0} → Resolving R V W F → Call V → State F → State F → Turn V
    → Type 0
TurnOf set call old new (turn.Answered given) = Unit {0}
TurnOf set call old new turn.Begun = StartsWaiting set.is_for call old new
TurnOf set call old new turn.Pending = KeepsWaiting set.is_for set.number call old new

-- where a turn gives something, it is the answer that is due
abbrev pub AnswersRightly : {V E : Type 0} → Answer V → Result (Turn V) E → Type 0
AnswersRightly due (Ok (turn.Answered given)) = given ≡ Answered due
AnswersRightly due (Ok turn.Begun) = Unit {0}
AnswersRightly due (Ok turn.Pending) = Unit {0}
AnswersRightly due (Err e) = Unit {0}

-- the entry that a turn adds to the record
abbrev pub told_by_turn : {V E : Type 0} → ResolverContext V → Result (Turn V) E → List RecordEntry
told_by_turn context (Ok (turn.Answered given)) = entry_of context true ∷ []
told_by_turn context (Ok turn.Begun) = entry_of context false ∷ []
told_by_turn context (Ok turn.Pending) = entry_of context false ∷ []
told_by_turn context (Err e) = []

-- the task that a turn begins: its own, where it is fresh
abbrev pub begins_now : {F : Type 0} → ℕ → State F → List ℕ
begins_now task state.Fresh = task ∷ []
begins_now task (state.Waiting future) = []
begins_now task state.Done = []

-- a round of the hooks of a task: the context of its resolver, and what they are told of it
pub record Round (V : Type 0) : Type 0 where
  pub context : ResolverContext V
  pub info : ResolveInfo

-- the rounds of a turn: a fresh task's hooks are entered, once
abbrev pub enters_now : {V F : Type 0} → ResolverContext V → ResolveInfo → State F → List (Round V)
enters_now context info state.Fresh = record { context = context; info = info } ∷ []
enters_now context info (state.Waiting future) = []
enters_now context info state.Done = []

-- where memory ran out, they may not have been
abbrev pub EntersAtMost : {Event : Type 0} → List Event → Option (List Event) → Option (List Event)
    → Type 0
EntersAtMost events old new = (new ≡ old) ⊎ (new ≡ with_more old events)

-- a turn of a future gives nothing that a hook put
abbrev pub IsNoPut : {V : Type 0} → Turn V → Type 0
IsNoPut (turn.Answered (Answered answer)) = Unit {0}
IsNoPut (turn.Answered (Put put)) = ⊥
IsNoPut turn.Begun = Unit {0}
IsNoPut turn.Pending = Unit {0}

-- where a hook put something in the place of the answer, the set stays as it was
abbrev pub PutKeeps : {V E R : Type 0} → R → R → Result (Turn V) E → Type 0
PutKeeps old new (Ok (turn.Answered (Answered answer))) = Unit {0}
PutKeeps old new (Ok (turn.Answered (Put put))) = new ≡ old
PutKeeps old new (Ok turn.Begun) = Unit {0}
PutKeeps old new (Ok turn.Pending) = Unit {0}
PutKeeps old new (Err e) = Unit {0}

-- where memory ran out, a task that was to begin may have begun without an entry
abbrev pub BeginsAtMost : List ℕ → Option (List ℕ) → Option (List ℕ) → Type 0
BeginsAtMost begins old new = (new ≡ old) ⊎ (new ≡ with_more old begins)
