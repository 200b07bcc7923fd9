-- The value of a place, where null is raised through the places that may not be null (GraphQL,
-- October 2021, section 6.4.4).
use Rattle.std.specs.Prelude.{ℕ, Bool, true, false, List, [], ◌∷◌, map, Option, Some, None}
use Rattle.std.specs.Prelude.{option_map, unwrap_or}
use Rattle.std.specs.List.{zip}
use Rattle.gql_base.specs.Pairs.{names_of, values_of}
use Rattle.gql_base.specs.declared.value.Value.{Value}
use Rattle.gql_base.specs.declared.value.Value.TheVariants as value
use Rattle.gql_place.specs.declared.place.Place.{Place}
use Rattle.gql_place.specs.declared.place.Tree.{Tree}
use Rattle.gql_place.specs.declared.place.Tree.TheOpen.{Tree-F, Place-F}
use Rattle.gql_place.specs.declared.place.Tree.TheFolds.{fold-Place, fold-Tree}

-- a value that is wanting is null where null may stand; else it is wanting for the place around it
-- too
abbrev pub null_if : Bool → Option Value → Option Value
null_if non_null (Some found) = Some found
null_if true None = None
null_if false None = Some value.Null

-- a value before the others, where those are there
abbrev pub with_first : {A : Type 0} → A → Option (List A) → Option (List A)
with_first first None = None
with_first first (Some rest) = Some (first ∷ rest)

-- all of the values, or none where one is wanting
abbrev pub all_items : List (Option Value) → Option (List Value)
all_items [] = Some []
all_items (None ∷ rest) = None
all_items (Some item ∷ rest) = with_first item (all_items rest)

-- the members of an object, or none where a value is wanting
abbrev pub all_members : List (List ℕ × Option Value) → Option (List (List ℕ × Value))
all_members members = option_map (zip (names_of members)) (all_items (values_of members))

-- the value of what stands at a place: a fault has none, nor has an object or a list of which a
-- part is wanting
abbrev pub tree_step : Tree-F (Option Value) (Option Value) → Option Value
tree_step Tree-F.Absent = Some value.Null
tree_step (Tree-F.Leaf leaf) = Some leaf
tree_step (Tree-F.Fault error) = None
tree_step (Tree-F.Object members) = option_map value.Object (all_members members)
tree_step (Tree-F.List items) = option_map value.List (all_items items)

-- the value of what stands at a place, or null where there is none and null may stand
abbrev pub place_step : Place-F (Option Value) (Option Value) → Option Value
place_step place = null_if place.non_null place.tree

-- the value of a place, or none where null is raised from it
abbrev pub value_at : Place → Option Value
value_at = fold-Place (Option Value) (Option Value) tree_step place_step

-- the value of what stands at a place
abbrev pub tree_value : Tree → Option Value
tree_value = fold-Tree (Option Value) (Option Value) tree_step place_step

-- the values of the members of an object, or none where one is wanting
abbrev pub member_values : List (List ℕ × Place) → Option (List (List ℕ × Value))
member_values members = all_members (map (λ m. (m.0, value_at m.1)) members)

-- the data of a response: null that is raised from its root is null
abbrev pub raised : Place → Value
raised place = unwrap_or (value_at place) value.Null
