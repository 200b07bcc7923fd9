-- What the exact walk has been through: merged sets, and whether each told nothing.
use Rattle.std.specs.Prelude.{◌≡◌, ◌⊎◌, Bool, List}
use Rattle.std.specs.List.{Contains}
use Rattle.gql_conflicts.specs.Merged.{IsLike}
use Rattle.gql_conflicts.specs.declared.merged.Merged.{Merged}
use Rattle.gql_conflicts.specs.declared.visit.Visit.{Visit}

-- a visit is that of a merged set, and told nothing or something
pub record IsVisit (merged : Merged) (clean : Bool) (visit : Visit) : Type 0 where
  pub like : IsLike visit.merged merged
  pub clean_is : visit.clean ≡ clean

-- each visit is one of the old ones, or that of this merged set
abbrev pub OnlyAdds : Merged → Bool → List Visit → List Visit → Type 0
OnlyAdds merged clean old new =
    (visit : Visit) → Contains new visit → Contains old visit ⊎ IsVisit merged clean visit

-- a merged set was walked through, and told nothing or something
abbrev pub HasSeen : List Visit → Merged → Bool → Type 0
HasSeen visits merged clean = (visit : Visit) × Contains visits visit × IsVisit merged clean visit
