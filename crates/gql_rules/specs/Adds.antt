-- What is added to the breaches that are found.
use Rattle.std.specs.Prelude.{◌↔◌, ◌⊎◌, List}
use Rattle.std.specs.List.{Contains}
use Rattle.gql_fields.specs.declared.breach.Breach.{Breach}

-- exactly those that are meant were added to others
pub record Adds (IsMeant : Breach → Type 0) (old new : List Breach) : Type 0 where
  pub kept : (found : Breach) → Contains old found → Contains new found
  pub has : (found : Breach) → IsMeant found → Contains new found
  pub only : (found : Breach) → Contains new found → Contains old found ⊎ IsMeant found

-- the same breaches, however often and in whatever order
pub record HoldsSame (old new : List Breach) : Type 0 where
  pub same : (found : Breach) → Contains new found ↔ Contains old found
