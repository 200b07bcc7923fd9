-- What is told of the items of a list by their names, and what a walk over such a list keeps of
-- them.
use Rattle.std.specs.Prelude.{◌≡◌, ℕ, List, [], ◌∷◌, ◌++◌}
use Rattle.gql_schema.specs.NameSet.{is_among}
use Rattle.gql_fields.specs.declared.breach.Breach.{Breach}

-- the same names, each once
pub record AreNames (names kept : List (List ℕ)) : Type 0 where
  pub same : (name : List ℕ) → is_among name kept ≡ is_among name names

-- what is told of each item, behind the names of those before it
module _ {A : Type 0} (name_of : A → List ℕ) (tell : List (List ℕ) → A → List Breach) where
  abbrev pub told_along : (before : List (List ℕ)) → List A → List Breach
  told_along before [] = []
  told_along before (x ∷ xs) = tell before x ++ told_along (before ++ name_of x ∷ []) xs
