-- Places in which no object has a key twice, as all that come of executions.
use Rattle.std.specs.Prelude.{ℕ, Bool, true, not, ◌&&◌, List, [], ◌∷◌}
use Rattle.std.specs.List.{list_all, list_any}
use Rattle.std.specs.Str.{bytes_eq}
use Rattle.gql_base.specs.Pairs.{names_of}
use Rattle.gql_place.specs.declared.place.Place.{Place}
use Rattle.gql_place.specs.declared.place.Tree.{Tree}
use Rattle.gql_place.specs.declared.place.Tree.TheOpen.{Tree-F, Place-F}
use Rattle.gql_place.specs.declared.place.Tree.TheFolds.{fold-Place, fold-Tree}

-- whether no name stands twice
abbrev pub names_apart : List (List ℕ) → Bool
names_apart [] = true
names_apart (name ∷ names) = not (list_any (bytes_eq name) names) && names_apart names

-- one level of what stands at a place: the keys of an object are apart, and all under is so
abbrev pub tree_step : Tree-F Bool Bool → Bool
tree_step (Tree-F.Object members) =
    names_apart (names_of members) && list_all (λ member. member.1) members
tree_step (Tree-F.List items) = list_all (λ apart. apart) items
tree_step _ = true

-- a place is as what stands there
abbrev pub place_step : Place-F Bool Bool → Bool
place_step place = place.tree

-- whether no object in a place has a key twice
abbrev pub has_keys_apart : Place → Bool
has_keys_apart = fold-Place Bool Bool tree_step place_step

-- the same of what stands at a place
abbrev pub tree_keys_apart : Tree → Bool
tree_keys_apart = fold-Tree Bool Bool tree_step place_step
