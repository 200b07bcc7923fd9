-- What a part of the exact walk changes: it tells conflicts, and remembers what it has been
-- through, so that it goes through nothing twice.
use Rattle.std.specs.Prelude.{◌≡◌, ◌⊎◌, Bool, true, false, List, [], ◌∷◌}
use Rattle.std.specs.List.{Contains}
use Rattle.gql_conflicts.specs.CleanPairs.{AddsPairs, DoAgree}
use Rattle.gql_conflicts.specs.Merged.{merged_tells}
use Rattle.gql_conflicts.specs.declared.clean_pair.CleanPair.{CleanPair}
use Rattle.gql_conflicts.specs.declared.conflict.Conflict.{Conflict}
use Rattle.gql_conflicts.specs.declared.merged.Merged.{Merged}
use Rattle.gql_conflicts.specs.declared.reader.Reader.{Reader}
use Rattle.gql_conflicts.specs.declared.visit.Visit.{Visit}
use Rattle.gql_conflicts.specs.declared.walked.Walked.{Walked}

-- whether nothing is told
abbrev pub is_nothing : List Conflict → Bool
is_nothing [] = true
is_nothing (found ∷ others) = false

-- all of some conflicts are told
abbrev pub AreTold : List Conflict → Walked → Type 0
AreTold tells walked = (found : Conflict) → Contains tells found → Contains walked.found found

-- of what was walked through all conflicts are told, and it is known whether there are any; and the
-- sets of pairs agree
pub record IsSound (reader : Reader) (walked : Walked) : Type 0 where
  pub told : (visit : Visit) → Contains walked.seen.visits.items visit
      → AreTold (merged_tells reader visit.merged) walked
  pub clean : (visit : Visit) → Contains walked.seen.visits.items visit
      → visit.clean ≡ is_nothing (merged_tells reader visit.merged)
  pub agree : (pair : CleanPair) → Contains walked.pairs.pairs.items pair → DoAgree reader pair

-- Exactly these conflicts are told beside the old ones, and it is known whether there are any,
-- where what was walked through before is told; and then all that was walked through is.
pub record Walks (reader : Reader) (tells : List Conflict) (clean : Bool) (old new : Walked)
    : Type 0 where
  pub kept : (found : Conflict) → Contains old.found found → Contains new.found found
  pub only : (found : Conflict) → Contains new.found found
      → Contains old.found found ⊎ Contains tells found
  pub has : IsSound reader old → AreTold tells new
  pub clean_is : IsSound reader old → clean ≡ is_nothing tells
  pub sound : IsSound reader old → IsSound reader new

-- pairs of a merged set are kept, if it told nothing
pub record PairsUp (merged : Merged) (clean : Bool) (old new : Walked) : Type 0 where
  pub found_are : new.found ≡ old.found
  pub seen_is : new.seen ≡ old.seen
  pub clean_adds : clean ≡ true
      → AddsPairs merged old.pairs.pairs.items new.pairs.pairs.items
  pub others_stay : clean ≡ false → new.pairs ≡ old.pairs

-- a merged set is remembered, which was walked through and told nothing or something
pub record Keeps (reader : Reader) (merged : Merged) (clean : Bool) (old new : Walked)
    : Type 0 where
  pub found_are : new.found ≡ old.found
  pub sound : clean ≡ is_nothing (merged_tells reader merged)
      → AreTold (merged_tells reader merged) old → IsSound reader old
      → IsSound reader new
