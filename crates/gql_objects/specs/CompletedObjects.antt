-- The objects of a completed answer, each with its fields and its tasks.
use Rattle.std.specs.Prelude.{◌≡◌, List, ◌++◌, map, Option, Result}
use Rattle.std.specs.List.{flat_map}
use Rattle.gql_base.specs.declared.path_segment.PathSegment.{PathSegment}
use Rattle.gql_base.specs.declared.error.Error.{Error}
use Rattle.gql_meaning.specs.Completion.{Completed, shape_of}
use Rattle.gql_resolve.specs.declared.field_value.FieldValue.{FieldValue}
use Rattle.gql_schema.specs.Table.{types_of}
use Rattle.gql_collect.specs.Asks.{type_in}
use Rattle.gql_select.specs.Collected.{own_selections}
use Rattle.gql_collect.specs.Groups.{united}
use Rattle.gql_objects.specs.Jobs.{Job}
use Rattle.gql_objects.specs.ListParents.{AreBelow}
use Rattle.gql_objects.specs.Parents.{jobs_of_standing, Standing, standing_at, standing_behind}
use Rattle.gql_complete.specs.FoundObjects.{bare, Spot, spots}
use Rattle.gql_objects.specs.declared.assembly.kept.Placed.{Placed}
use Rattle.gql_collect.specs.declared.level.Node.{Node}

module _ {V : Type 0} where
  -- what a result comes to at the type of a field
  abbrev pub shape_asked : Node → Result (Option (FieldValue V)) Error → Completed V
  shape_asked node outcome = shape_of (types_of node.basis.types.now) (type_in node.asks) outcome

  -- objects under a field, with its selections
  abbrev pub standing_beneath : Node → List (Spot V) → List (Standing V)
  standing_beneath node found =
      map (standing_at node.basis (own_selections (united node.group))) found

  -- of what an answer to the field at a path comes to the objects stand with their fields, none of
  -- them at the root, their tasks are after the others, and this is left of it
  pub record IsPlaced (node : Node) (path : List PathSegment) (old new : List (Job V))
      (whole : Completed V) (placed : Placed V) : Type 0 where
    pub shape_is : placed.shape ≡ bare whole
    pub parents_are : map standing_behind placed.parents.items
        ≡ standing_beneath node (spots whole path)
    pub tasks_are : new
        ≡ old ++ flat_map jobs_of_standing (standing_beneath node (spots whole path))
    pub below : AreBelow (spots whole path)
