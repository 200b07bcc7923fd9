-- Sets of names as lists in the order in which they were added, such as the items of an enum.
use Rattle.std.specs.Prelude.{◌≡◌, ℕ, Bool, List, [], ◌∷◌, ◌++◌, Option, Some, None, codes, refl}
use Rattle.std.specs.Prelude.{if◌then◌else◌}
use Rattle.std.specs.List.{list_any}
use Rattle.std.specs.Str.{bytes_eq}

-- whether a name is among these
abbrev pub is_among : List ℕ → List (List ℕ) → Bool
is_among name names = list_any (bytes_eq name) names

-- the names with one more at the end; one that is there changes nothing
abbrev pub with_name : List (List ℕ) → List ℕ → List (List ℕ)
with_name names name = if is_among name names then names else names ++ name ∷ []

-- the names with others, one after another
abbrev pub with_names : List (List ℕ) → List (List ℕ) → List (List ℕ)
with_names names [] = names
with_names names (other ∷ others) = with_names (with_name names other) others

abbrev pub with_optional : List (List ℕ) → Option (List ℕ) → List (List ℕ)
with_optional names None = names
with_optional names (Some name) = with_name names name

-- a second item of a name changes nothing
pub second_name : with_name (codes "A" ∷ codes "B" ∷ []) (codes "A") ≡ codes "A" ∷ codes "B" ∷ []
second_name = refl
