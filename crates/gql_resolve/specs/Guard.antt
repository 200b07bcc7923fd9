-- What guards of two guards answer, by what the two may answer about one context.
use Rattle.std.specs.Prelude.{◌⊎◌, Result, Ok, Err}
use Rattle.gql_base.specs.declared.error.Error.{Error}

-- what a guard may answer
abbrev pub Answers : Type 1
Answers = Result (Unit {0}) Error → Type 0

module _ (first second : Answers) where
  -- it passes where both pass, and has the error of the first that fails
  abbrev pub GivesBoth : Answers
  GivesBoth (Ok passed) = first (Ok tt) × second (Ok tt)
  GivesBoth (Err error) = first (Err error) ⊎ (first (Ok tt) × second (Err error))

  -- it passes where one passes, and else has the second's error
  abbrev pub GivesEither : Answers
  GivesEither (Ok passed) =
      first (Ok tt) ⊎ ((error : Error) × first (Err error) × second (Ok tt))
  GivesEither (Err error) = (other : Error) × first (Err other) × second (Err error)
