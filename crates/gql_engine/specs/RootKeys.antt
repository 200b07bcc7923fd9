-- What one root key of a mutation leaves after the others.
use Rattle.std.specs.Prelude.{◌≡◌, ◌-◌, ◌++◌, ℕ, true, List, [], ◌∷◌, Option, Some, length, slice_set}
use Rattle.gql_base.specs.declared.no_memory.NoMemory.{NoMemory}
use Rattle.gql_tasks.specs.Parts.{Moment, Parts}
use Rattle.gql_tasks.specs.Phases.{CutInTurn, InTurn}
use Rattle.gql_place.specs.declared.piece.Piece.{Piece}
use Rattle.gql_resolve.specs.Call.{Call}
use Rattle.gql_resolve.specs.declared.answer.Answer.{Answer}
use Rattle.gql_objects.specs.Assembly.{IsRight}
use Rattle.gql_objects.specs.Jobs.{Job}

module _ {R Own World Future L H P : Type 0} (e : Parts R Own World Future L H P)
    (old new : Moment R Future L H P) (root : e.plan.Task) where
  -- after whole phases there is one more
  pub record KeyOver : Type 0 where
    pub turn : (first : Moment R Future L H P) (done : List e.plan.Task) → InTurn e first old done
        → InTurn e first new (done ++ root ∷ [])

  -- memory ran out, after so many whole phases
  pub record KeyCut (keys : ℕ) (want : NoMemory) : Type 0 where
    pub cut : (first : Moment R Future L H P) (done left : List e.plan.Task)
        → InTurn e first old done → length done ≡ keys
        → CutInTurn e first new (done ++ root ∷ left) want

-- the task of a root key of a mutation
abbrev pub IsKey : {V : Type 0} → Job V → Type 0
IsKey job = (job.asking.call.is_root ≡ true) × (length job.path ≡ 1)

-- one more place stands after others, and is right
pub record HasPlace {V : Type 0} (answer : Call V → Answer V) (root : Job V)
    (own own' : List (Option Piece)) : Type 0 where
  pub place : Piece
  pub added : own' ≡ own ++ Some place ∷ []
  pub right : IsRight answer root place

-- the last place is put, and is right
pub record PutsLast {V : Type 0} (answer : Call V → Answer V) (root : Job V)
    (own own' : List (Option Piece)) : Type 0 where
  pub place : Piece
  pub put : own' ≡ slice_set own (length own - 1) (Some place)
  pub right : IsRight answer root place
