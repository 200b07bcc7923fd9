-- The tree of a completed answer: each object in it has the members that are found under it
-- (GraphQL, October 2021, section 6.4.3).
use Rattle.std.specs.Prelude.{ℕ, Bool, List, [], ◌∷◌, map}
use Rattle.std.specs.List.{flat_map}
use Rattle.gql_base.specs.declared.error.Error.{Error}
use Rattle.gql_base.specs.declared.pos.Pos.{Pos}
use Rattle.gql_request.specs.declared.header_op.HeaderOp.{HeaderOp}
use Rattle.gql_place.specs.declared.place.Place.{Place}
use Rattle.gql_place.specs.declared.place.Tree.{Tree}
use Rattle.gql_place.specs.declared.place.Tree.TheVariants as tree
use Rattle.gql_place.specs.declared.shape.Shape.{Shape}
use Rattle.gql_place.specs.declared.shape.Shape.TheOpen.{Shape-F}
use Rattle.gql_place.specs.declared.shape.Shape.TheFolds.{fold-Shape}

-- an item of a list: errors and header operations stand at the list's own place
abbrev pub item_of : Pos → Bool → Tree → Place
item_of pos non_null tree =
    record { pos = pos; non_null = non_null; added = []; headers = []; tree = tree }

module _ {O P : Type 0} where
  -- one level of a shape: an object has the members under it, and items have places of their own
  abbrev pub fill_step : Pos → (O → P → List (List ℕ × Place)) → Shape-F O P Tree → Tree
  fill_step pos below Shape-F.Absent = tree.Absent
  fill_step pos below (Shape-F.Leaf leaf) = tree.Leaf leaf
  fill_step pos below (Shape-F.Fault error) = tree.Fault error
  fill_step pos below (Shape-F.Object object parent) = tree.Object (below object parent)
  fill_step pos below (Shape-F.List non_null items) = tree.List (map (item_of pos non_null) items)

  -- the tree, given what is under each object
  abbrev pub fill : Pos → (O → P → List (List ℕ × Place)) → Shape O P → Tree
  fill pos below = fold-Shape O P Tree (fill_step pos below)

  -- the objects in a shape
  abbrev pub objects_step : Shape-F O P (List O) → List O
  objects_step Shape-F.Absent = []
  objects_step (Shape-F.Leaf leaf) = []
  objects_step (Shape-F.Fault error) = []
  objects_step (Shape-F.Object object parent) = object ∷ []
  objects_step (Shape-F.List non_null items) = flat_map (λ objects. objects) items

  -- the objects that stand in a shape
  abbrev pub objects_in : Shape O P → List O
  objects_in = fold-Shape O P (List O) objects_step

-- what the answer to a field comes to: all of its place but what is under its objects
pub record Outcome (O P : Type 0) : Type 0 where
  pub non_null : Bool
  pub added : List Error
  pub headers : List HeaderOp
  pub shape : Shape O P

-- the place of a field at a position
abbrev pub place_with : {O P : Type 0} → Pos → Outcome O P → (O → P → List (List ℕ × Place)) → Place
place_with pos outcome below =
    record {
      pos = pos;
      non_null = outcome.non_null;
      added = outcome.added;
      headers = outcome.headers;
      tree = fill pos below outcome.shape;
    }
