-- What a walk over a document may still look at in the fragments, by what it knows of them.
use Rattle.std.specs.Prelude.{◌≡◌, ℕ, zero, suc, ◌+◌, Bool, true, false, List, Option, None, Some}
use Rattle.std.specs.Prelude.{nat_le, slice_index_or}
use Rattle.gql_doc.specs.declared.document.FragmentDefinition.{FragmentDefinition}
use Rattle.gql_doc.specs.declared.document.Positioned.{Positioned}
use Rattle.gql_select.specs.Standing.{standing_unless}

-- whether a number of levels is known to suffice where so many are left
abbrev pub suffices : Option ℕ → ℕ → Bool
suffices None left = false
suffices (Some levels) left = nat_le levels left

-- the same of the fragment at a place
abbrev pub suffices_at : List (Option ℕ) → ℕ → ℕ → Bool
suffices_at fine left place = suffices (slice_index_or fine place None) left

-- what may still be looked at in the fragments where so many levels are left: at each number of
-- levels below, those of which it isn't known that they suffice
abbrev pub budget : ℕ → List (Positioned FragmentDefinition) → List (Option ℕ) → ℕ
budget zero fragments fine = 0
budget (suc left) fragments fine =
    budget left fragments fine + standing_unless (suffices_at fine left) fragments

-- where something is found, nothing else is looked at
abbrev pub unless_found : {A : Type 0} → Option A → ℕ → ℕ
unless_found None n = n
unless_found (Some found) n = 0

-- what is known to suffice stays so
pub record StaysKnown (old new : List (Option ℕ)) : Type 0 where
  pub stays : (left place : ℕ) → suffices_at old left place ≡ true
      → suffices_at new left place ≡ true
