-- What is left of a completed answer without its objects: a shape, or the number of the objects of a
-- list.
use Rattle.std.specs.Prelude.{replicate}
use Rattle.gql_place.specs.declared.shape.Shape.TheVariants as shape
use Rattle.gql_complete.specs.FoundObjects.{Bare}
use Rattle.gql_objects.specs.declared.assembly.bare.Left.{Left}
use Rattle.gql_objects.specs.declared.assembly.bare.Left.TheVariants as left

-- its shape
abbrev pub shape_left : Left → Bare
shape_left (left.Shape shape) = shape
shape_left (left.Objects non_null count) =
    shape.List non_null (replicate {A = Bare} count (shape.Object tt tt))
