-- Places of tasks, as they are put together from the last task that was answered to the first.
use Rattle.std.specs.Prelude.{◌≡◌, ℕ, zero, suc, ◌+◌, ◌≤◌, List, [], ◌∷◌, Option, Some, None, take}
use Rattle.std.specs.Prelude.{◌⊎◌, drop, length, slice_get}
use Rattle.gql_objects.specs.Entries.{Entry, latest}

-- the places that are there
abbrev pub present : {P : Type 0} → List (Option P) → List P
present [] = []
present (None ∷ others) = present others
present (Some place ∷ others) = place ∷ present others

-- a place, where there was none
abbrev pub put_open : {P : Type 0} → P → List (Option P) → ℕ → List (Option P)
put_open place [] number = []
put_open place (None ∷ others) zero = Some place ∷ others
put_open place (Some other ∷ others) zero = Some other ∷ others
put_open place (one ∷ others) (suc number) = one ∷ put_open place others number

-- the place of a number, if it is there
abbrev pub stands_for : {P : Type 0} → List (Option P) → ℕ → Option P
stands_for [] number = None
stands_for (o ∷ others) zero = o
stands_for (o ∷ others) (suc number) = stands_for others number

-- the place of a number is there, or open, and those of others are as they were
pub record PutsAt {P : Type 0} (o : Option P) (number : ℕ) (places places' : List (Option P))
    : Type 0 where
  pub here : stands_for places' number ≡ o
  pub others : (k : ℕ) → (k ≡ number → ⊥) → stands_for places' k ≡ stands_for places k

-- what is kept last of a task fits it, and the tasks under it stand where it says
pub record IsHeld {J X : Type 0} (Fits : J → X → Type 0) (beneath : J → List J) (jobs : List J)
    (kepts : List (Entry X)) (number : ℕ) : Type 0 where
  pub job : J
  pub there : slice_get jobs number ≡ Some job
  pub kept : Entry X
  pub last : latest kepts number ≡ Some kept
  pub fits : Fits job kept.filled
  pub within : kept.first + kept.count ≤ length jobs
  pub block : take kept.count (drop kept.first jobs) ≡ beneath job

-- what is stored of tasks: what is kept of some, and the places so far
pub record Store (X P : Type 0) : Type 0 where
  pub entries : List (Entry X)
  pub places : List (Option P)

module _ {J X P : Type 0} (Fits : J → X → Type 0) (beneath : J → List J) where
  -- a task's place is still open, and what it is made of is kept
  pub record IsLeft (jobs : List J) (store : Store X P) (number : ℕ) : Type 0 where
    pub held : IsHeld Fits beneath jobs store.entries number
    pub stays : stands_for store.places number ≡ None

  module _ (Made : X → P → Type 0) where
    -- a task has no tasks under it, and its place is made of what it came to
    pub record IsPut (jobs : List J) (places : List (Option P)) (number : ℕ) : Type 0 where
      pub job : J
      pub there : slice_get jobs number ≡ Some job
      pub filled : X
      pub fits : Fits job filled
      pub none : beneath job ≡ []
      pub place : P
      pub put : stands_for places number ≡ Some place
      pub made : Made filled place

    -- one of the two
    abbrev pub IsStored : List J → Store X P → ℕ → Type 0
    IsStored jobs store number = IsPut jobs store.places number ⊎ IsLeft jobs store number
