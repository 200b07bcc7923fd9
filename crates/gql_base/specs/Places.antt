-- An index of names: the place of each, in chains or in a tree.
use Rattle.std.specs.Prelude.{◌≡◌, ℕ, List, Some, if◌then◌else◌}
use Rattle.std.specs.BTreeMap as tree
use Rattle.std.specs.BTreeMap.{BTreeMap}
use Rattle.std.specs.Global.{Global}
use Rattle.std.specs.Prelude.{String}
use Rattle.std.specs.Str.{bytes_eq}
use Rattle.gql_base.specs.Chains.{AreChained}
use Rattle.gql_base.specs.Names.{place_of}
use Rattle.gql_base.specs.declared.places.Places.{Places}
use Rattle.gql_base.specs.declared.places.Places.TheVariants.{Chained, Ordered}

-- a tree of places under names
abbrev pub PlaceTree : Type 0
PlaceTree = BTreeMap (String Global) ℕ

-- a tree has the place of each of these names, and no other name
abbrev pub HasPlaces : PlaceTree → List (List ℕ) → Type 0
HasPlaces places names = (name : List ℕ) → tree.get_by_text places name ≡ place_of name names

-- an index has the places of these names
abbrev pub IsIndex : Places → List (List ℕ) → Type 0
IsIndex (Chained chains) names = AreChained chains names
IsIndex (Ordered places) names = HasPlaces places names

-- the new tree has the same places
abbrev pub SamePlaces : PlaceTree → PlaceTree → Type 0
SamePlaces old new =
    (name : List ℕ) → tree.get_by_text new name ≡ tree.get_by_text old name

-- the new tree has this place of this name, and the same of every other name
abbrev pub SetsPlace : PlaceTree → PlaceTree → List ℕ → ℕ → Type 0
SetsPlace old new name place =
    (other : List ℕ)
    → tree.get_by_text new other
    ≡ (if bytes_eq name other then Some place else tree.get_by_text old other)
