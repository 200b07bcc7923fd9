-- Completed answers without what their objects are, which get members one after another, from the
-- front of a list.
use Rattle.std.specs.Prelude.{Bool, false, List, [], ◌∷◌, map}
use Rattle.gql_base.specs.declared.pos.Pos.{Pos}
use Rattle.gql_meaning.specs.Responses.{Members}
use Rattle.gql_place.specs.Filled.{item_of}
use Rattle.gql_place.specs.declared.place.Place.{Place}
use Rattle.gql_place.specs.declared.place.Tree.{Tree}
use Rattle.gql_place.specs.declared.place.Tree.TheVariants as tree
use Rattle.gql_place.specs.declared.shape.Shape.TheFolds.{fold-Shape}
use Rattle.gql_place.specs.declared.shape.Shape.TheOpen.{Shape-F}
use Rattle.gql_complete.specs.FoundObjects.{Bare}

-- a tree, and the members that are left
pub record Made : Type 0 where
  pub tree : Tree
  pub left : List Members

-- places, and the members that are left
pub record AllMade : Type 0 where
  pub places : List Place
  pub left : List Members

-- the first members, if any
abbrev pub first_members : List Members → Members
first_members [] = []
first_members (first ∷ others) = first

-- those after them
abbrev pub other_members : List Members → List Members
other_members [] = []
other_members (first ∷ others) = others

module _ (pos : Pos) where
  -- items one after another
  abbrev pub made_all : Bool → List (List Members → Made) → List Members → AllMade
  made_all non_null [] members = record { places = []; left = members }
  made_all non_null (item ∷ items) members = record {
    places =
        item_of pos non_null (item members).tree
        ∷ (made_all non_null items (item members).left).places;
    left = (made_all non_null items (item members).left).left;
  }

  -- one level of a shape
  abbrev pub made_step : Shape-F (Unit {0}) (Unit {0}) (List Members → Made) → List Members → Made
  made_step Shape-F.Absent members = record { tree = tree.Absent; left = members }
  made_step (Shape-F.Leaf leaf) members = record { tree = tree.Leaf leaf; left = members }
  made_step (Shape-F.Fault error) members = record { tree = tree.Fault error; left = members }
  made_step (Shape-F.Object object parent) members =
      record { tree = tree.Object (first_members members); left = other_members members }
  made_step (Shape-F.List non_null items) members =
      record {
        tree = tree.List (made_all non_null items members).places;
        left = (made_all non_null items members).left;
      }

  -- what a shape comes to with these members
  abbrev pub made_of : Bare → List Members → Made
  made_of = fold-Shape (Unit {0}) (Unit {0}) (List Members → Made) made_step

  -- its tree
  abbrev pub tree_with : Bare → List Members → Tree
  tree_with shape members = (made_of shape members).tree

  -- the members that it leaves
  abbrev pub left_after : Bare → List Members → List Members
  left_after shape members = (made_of shape members).left

  -- the places of items
  abbrev pub all_trees : Bool → List Bare → List Members → List Place
  all_trees non_null items members = (made_all non_null (map made_of items) members).places

  -- the members that they leave
  abbrev pub left_after_all : List Bare → List Members → List Members
  left_after_all items members = (made_all false (map made_of items) members).left
