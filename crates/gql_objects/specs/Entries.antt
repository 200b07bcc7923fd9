-- What is kept of tasks, one after another, as they are answered.
use Rattle.std.specs.Prelude.{ℕ, ◌+◌, ltb, eqb, List, [], ◌∷◌, Option, Some, None}
use Rattle.std.specs.Prelude.{if◌then◌else◌, ◌&&◌}
use Rattle.std.specs.Option.{option_or}

-- what is kept of a task: its number, the place and the count of the tasks under it, and what it
-- came to
pub record Entry (X : Type 0) : Type 0 where
  pub number : ℕ
  pub first : ℕ
  pub count : ℕ
  pub filled : X

module _ {X : Type 0} where
  -- the number of tasks once these are kept one after another, each of an earlier task, with the
  -- tasks under it after all others
  abbrev pub laid : ℕ → List (Entry X) → Option ℕ
  laid n [] = Some n
  laid n (kept ∷ others) =
      if ltb kept.number n && eqb kept.first n then laid (n + kept.count) others else None

  -- what is kept of a task, where it is the one of this number
  abbrev pub if_number : ℕ → Entry X → Option (Entry X)
  if_number number kept = if eqb kept.number number then Some kept else None

  -- what is kept last of a task
  abbrev pub latest : List (Entry X) → ℕ → Option (Entry X)
  latest [] number = None
  latest (kept ∷ others) number = option_or (latest others number) (if_number number kept)
