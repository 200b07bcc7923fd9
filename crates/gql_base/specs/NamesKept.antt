-- How `Names` keeps its names: a few in a list alone, and more beside an index of their places.
use Rattle.std.specs.Prelude.{List, ℕ, ◌≤◌, length}
use Rattle.std.specs.Arc.{arc_value}
use Rattle.gql_base.specs.Places.{IsIndex}
use Rattle.gql_base.specs.declared.names.Kept.{Kept}
use Rattle.gql_base.specs.declared.names.Kept.TheVariants.{Many, Own, Shared}

-- the most names that are searched in order
abbrev pub few_names : ℕ
few_names = 8

-- the names in order
abbrev pub kept_names : Kept → List (List ℕ)
kept_names (Own list) = list.items
kept_names (Shared list) = (arc_value list).items
kept_names (Many indexed) = (arc_value indexed).list.items

-- a list alone has few names, and an index has the places of the names beside it
abbrev pub IsKept : Kept → Type 0
IsKept (Own list) = length list.items ≤ few_names
IsKept (Shared list) = length (arc_value list).items ≤ few_names
IsKept (Many indexed) = IsIndex (arc_value indexed).places (arc_value indexed).list.items
