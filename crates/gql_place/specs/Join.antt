-- How the places of one key are joined: the first's position, added errors, headers and fault stay;
-- objects are united key by key, and lists item by item (GraphQL, October 2021, section 6.4.3,
-- MergeSelectionSets: the fields of one key are one field, with the selections of all). The
-- recursion runs over the second place and builds a function of the first: with no first, the
-- second stands as it is.
use Rattle.std.specs.Prelude.{ℕ, List, [], ◌∷◌, map, Option, Some, None}
use Rattle.gql_base.specs.Pairs.{under, put}
use Rattle.gql_place.specs.declared.place.Place.{Place}
use Rattle.gql_place.specs.declared.place.Tree.{Tree, out-Tree}
use Rattle.gql_place.specs.declared.place.Tree.TheVariants as tree
use Rattle.gql_place.specs.declared.place.Tree.TheOpen.{Tree-F, Place-F}
use Rattle.gql_place.specs.declared.place.Tree.TheFolds.{fold-Place, fold-Tree}

-- what a place comes to after the one that stands there, if any does: alone it is itself
abbrev pub OntoPlace : Type 0
OntoPlace = Option Place → Place

-- the same of what stands at a place
abbrev pub OntoTree : Type 0
OntoTree = Option Tree → Tree

-- each member comes onto the one of its key, or to the end
abbrev pub onto_members : List (List ℕ × Place) → List (List ℕ × OntoPlace) → List (List ℕ × Place)
onto_members members [] = members
onto_members members (p ∷ ps) = onto_members (put members p.0 (p.1 (under p.0 members))) ps

-- each item comes onto the one of its index; further items of the second list are left out
abbrev pub onto_items : List Place → List OntoPlace → List Place
onto_items [] others = []
onto_items (item ∷ items) [] = item ∷ items
onto_items (item ∷ items) (other ∷ others) = other (Some item) ∷ onto_items items others

-- the members of an object come onto a first tree that is an object; another stays
abbrev pub onto_object : List (List ℕ × OntoPlace) → Tree → Tree-F Tree Place → Tree
onto_object parts first (Tree-F.Object members) = tree.Object (onto_members members parts)
onto_object parts first _ = first

-- the items of a list come onto a first tree that is a list; another stays
abbrev pub onto_list : List OntoPlace → Tree → Tree-F Tree Place → Tree
onto_list others first (Tree-F.List items) = tree.List (onto_items items others)
onto_list others first _ = first

-- what stands at the second place, onto what stands at the first: two objects and two lists are
-- united, of all others the first stays
abbrev pub tree_step : Tree-F OntoTree OntoPlace → OntoTree
tree_step Tree-F.Absent None = tree.Absent
tree_step (Tree-F.Leaf leaf) None = tree.Leaf leaf
tree_step (Tree-F.Fault error) None = tree.Fault error
tree_step (Tree-F.Object parts) None = tree.Object (map (λ p. (p.0, p.1 None)) parts)
tree_step (Tree-F.List others) None = tree.List (map (λ other. other None) others)
tree_step (Tree-F.Object parts) (Some first) = onto_object parts first (out-Tree first)
tree_step (Tree-F.List others) (Some first) = onto_list others first (out-Tree first)
tree_step _ (Some first) = first

-- the first's place with both trees; alone it is itself
abbrev pub place_step : Place-F OntoTree OntoPlace → OntoPlace
place_step second None =
    record {
      pos = second.pos;
      non_null = second.non_null;
      added = second.added;
      headers = second.headers;
      tree = second.tree None;
    }
place_step second (Some first) = record first { tree = second.tree (Some first.tree) }

-- a place, onto the first
abbrev pub placed_onto : Place → OntoPlace
placed_onto = fold-Place OntoTree OntoPlace tree_step place_step

-- what stands at a place, onto what stands at the first
abbrev pub tree_onto : Tree → OntoTree
tree_onto = fold-Tree OntoTree OntoPlace tree_step place_step

-- two places of one key, joined
abbrev pub join : Place → Place → Place
join first second = placed_onto second (Some first)

-- what stands at two places of one key, joined
abbrev pub join_trees : Tree → Tree → Tree
join_trees first second = tree_onto second (Some first)

-- the items of two lists, joined one by one
abbrev pub join_items : List Place → List Place → List Place
join_items firsts seconds = onto_items firsts (map placed_onto seconds)
