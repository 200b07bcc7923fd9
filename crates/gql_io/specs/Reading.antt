-- What a reading of a whole source shows. `left` is what a source tells to be left, `given` how
-- many bytes it gave, `faults` how often it failed; `old` is the source before the reading and
-- `new` after it.
use Rattle.std.specs.Prelude.{◌≡◌, ◌⊎◌, ℕ, ◌+◌, ◌<◌, ◌≤◌, List, [], length, Option, Some, IfSome}
use Rattle.gql_io.specs.Counts.{IsFull, HasRisen, RisesBy}
use Rattle.gql_io.specs.Limits.{input_limit}
use Rattle.gql_io.specs.declared.reading.Reading.{Reading}
use Rattle.gql_io.specs.declared.reading.Reading.TheVariants.{Whole, Failed, TooLong}

-- The whole input was these bytes. They are no more than the limit, so many were given, and where
-- the source tells what is left, it was these, and is nothing now.
pub record IsInput {I : Type 0} (left : I → Option (List ℕ)) (given : I → ℕ) (old new : I)
    (bytes : List ℕ) : Type 0 where
  pub within : length bytes ≤ input_limit
  pub counted : RisesBy (given old) (given new) (length bytes)
  pub told : IfSome (left old) (λ known. (known ≡ bytes) × (left new ≡ Some []))

-- More than the limit was given, and where the source tells what is left, that was longer than the
-- limit.
pub record IsTooLong {I : Type 0} (left : I → Option (List ℕ)) (given : I → ℕ) (old new : I) : Type
    0 where
  pub counted : (given old + input_limit < given new) ⊎ IsFull (given new)
  pub told : IfSome (left old) (λ known. input_limit < length known)

-- A read failed, before more than the limit was given.
pub record HasFailed {I : Type 0} (given faults : I → ℕ) (old new : I) : Type 0 where
  pub cause : HasRisen (faults old) (faults new)
  pub within : (given new ≤ given old + input_limit) ⊎ IsFull (given new)

-- what was read, by what was found
abbrev pub Shows : {I : Type 0} → (I → Option (List ℕ)) → (I → ℕ) → (I → ℕ) → I → I → Reading
    → Type 0
Shows left given faults old new (Whole bytes) = IsInput left given old new bytes
Shows left given faults old new TooLong = IsTooLong left given old new
Shows left given faults old new Failed = HasFailed given faults old new
