-- The objects of a completed answer, each with its value and its path, and what is left of the
-- answer without them.
use Rattle.std.specs.Prelude.{ℕ, suc, List, [], ◌∷◌, ◌++◌}
use Rattle.gql_base.specs.declared.path_segment.PathSegment.{PathSegment}
use Rattle.gql_base.specs.declared.path_segment.PathSegment.TheVariants as segment
use Rattle.gql_meaning.specs.Completion.{Completed}
use Rattle.gql_place.specs.declared.shape.Shape.{Shape}
use Rattle.gql_place.specs.declared.shape.Shape.TheFolds.{fold-Shape}
use Rattle.gql_place.specs.declared.shape.Shape.TheOpen.{Shape-F}
use Rattle.gql_place.specs.declared.shape.Shape.TheVariants as shape
use Rattle.gql_resolve.specs.declared.field_value.FieldValue.{FieldValue}

-- an object in an answer: the name of its type, its value and its path
pub record Spot (V : Type 0) : Type 0 where
  pub object : List ℕ
  pub parent : FieldValue V
  pub path : List PathSegment

-- a shape without what its objects are
abbrev pub Bare : Type 0
Bare = Shape (Unit {0}) (Unit {0})

module _ {V : Type 0} where
  -- those of items, each after its index, counted from this number on
  abbrev pub numbered : ℕ → List (List PathSegment → List (Spot V)) → List PathSegment
      → List (Spot V)
  numbered n [] path = []
  numbered n (item ∷ items) path =
      item (path ++ segment.Index n ∷ []) ++ numbered (suc n) items path

  -- one level of a shape
  abbrev pub spots_step : Shape-F (List ℕ) (FieldValue V) (List PathSegment → List (Spot V))
      → List PathSegment → List (Spot V)
  spots_step Shape-F.Absent path = []
  spots_step (Shape-F.Leaf leaf) path = []
  spots_step (Shape-F.Fault error) path = []
  spots_step (Shape-F.Object object parent) path =
      record { object = object; parent = parent; path = path } ∷ []
  spots_step (Shape-F.List non_null items) path = numbered 0 items path

  -- the objects of a shape that stands at a path, in their order
  abbrev pub spots : Completed V → List PathSegment → List (Spot V)
  spots = fold-Shape (List ℕ) (FieldValue V) (List PathSegment → List (Spot V)) spots_step

  -- one level of a shape
  abbrev pub bare_step : Shape-F (List ℕ) (FieldValue V) Bare → Bare
  bare_step Shape-F.Absent = shape.Absent
  bare_step (Shape-F.Leaf leaf) = shape.Leaf leaf
  bare_step (Shape-F.Fault error) = shape.Fault error
  bare_step (Shape-F.Object object parent) = shape.Object tt tt
  bare_step (Shape-F.List non_null items) = shape.List non_null items

  -- a completed answer without what its objects are
  abbrev pub bare : Completed V → Bare
  bare = fold-Shape (List ℕ) (FieldValue V) Bare bare_step
