-- Pairs of sets that are known to agree.
use Rattle.std.specs.Prelude.{◌≡◌, ◌⊎◌, ℕ, List}
use Rattle.std.specs.List.{Contains}
use Rattle.gql_schema.specs.TableReading.{possible}
use Rattle.gql_select.specs.Conflicts.{Agree}
use Rattle.gql_select.specs.Documents.{reading}
use Rattle.gql_conflicts.specs.Merged.{known_by}
use Rattle.gql_conflicts.specs.Reader.{setting_by}
use Rattle.gql_conflicts.specs.Rooted.{rooted_of}
use Rattle.gql_conflicts.specs.Sets.{set_at}
use Rattle.gql_conflicts.specs.declared.clean_pair.CleanPair.{CleanPair}
use Rattle.gql_conflicts.specs.declared.merged.Merged.{Merged}
use Rattle.gql_conflicts.specs.declared.reader.Reader.{Reader}

-- the two sets of a pair agree on each object of its type
abbrev pub DoAgree : Reader → CleanPair → Type 0
DoAgree reader pair =
    (object : List ℕ) → Contains (possible (rooted_of reader.rooted.now).table pair.ty.now) object
    → Agree (reading (setting_by reader)) pair.left object (set_at (known_by reader) pair.one)
    (set_at (known_by reader) pair.other)

-- a pair is known for a merged set's levels and type
pub record IsFor (merged : Merged) (pair : CleanPair) : Type 0 where
  pub left_is : pair.left ≡ merged.left
  pub ty_is : pair.ty.now ≡ merged.ty.now

-- and is of these sets
pub record IsPair (merged : Merged) (one other : ℕ) (pair : CleanPair) : Type 0 where
  pub known_for : IsFor merged pair
  pub one_is : pair.one ≡ one
  pub other_is : pair.other ≡ other

-- a pair is of two sets of a merged set
pub record IsPairOf (merged : Merged) (pair : CleanPair) : Type 0 where
  pub known_for : IsFor merged pair
  pub has_one : Contains merged.sets.items pair.one
  pub has_other : Contains merged.sets.items pair.other

module _ (pairs : List CleanPair) (merged : Merged) where
  -- two sets are known to agree, or a set with each of a merged set, or each two of it
  abbrev pub HasPair : ℕ → ℕ → Type 0
  HasPair one other = (pair : CleanPair) × Contains pairs pair × IsPair merged one other pair

  abbrev pub HasPairsOf : ℕ → Type 0
  HasPairsOf one = (other : ℕ) → Contains merged.sets.items other → HasPair one other

  abbrev pub HasAllPairs : Type 0
  HasAllPairs = (one : ℕ) → Contains merged.sets.items one → HasPairsOf one

-- each pair is one of the old ones, or that of these sets
abbrev pub AddsPair : Merged → ℕ → ℕ → List CleanPair → List CleanPair → Type 0
AddsPair merged one other old new =
    (pair : CleanPair) → Contains new pair → Contains old pair ⊎ IsPair merged one other pair

-- each pair is one of the old ones, or of two sets of a merged set
abbrev pub AddsPairs : Merged → List CleanPair → List CleanPair → Type 0
AddsPairs merged old new =
    (pair : CleanPair) → Contains new pair → Contains old pair ⊎ IsPairOf merged pair
