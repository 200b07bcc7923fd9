-- A reading, read by read.
use Rattle.std.proofs.Common.{ℕ, ◌≤◌, List, length}
use Rattle.std.specs.Prelude.{Option}
use Rattle.std.specs.Io.KnownBytes.{Consumes}
use Rattle.gql_io.specs.Counts.{RisesBy}
use Rattle.gql_io.specs.Limits.{input_limit}

-- these bytes were read so far
pub record HasRead {I : Type 0} (left : I → Option (List ℕ)) (given faults : I → ℕ) (old new : I) (bytes : List ℕ) : Type 0 where
  pub within : length bytes ≤ input_limit
  pub counted : RisesBy (given old) (given new) (length bytes)
  pub taken : Consumes (left old) (left new) bytes
  pub given_grew : given old ≤ given new
  pub faults_grew : faults old ≤ faults new
