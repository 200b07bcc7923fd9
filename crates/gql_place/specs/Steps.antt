-- The steps on the way to a place of a response.
use Rattle.std.specs.Prelude.{List, map}
use Rattle.gql_base.specs.declared.path_segment.PathSegment.{PathSegment}
use Rattle.gql_base.specs.declared.path_segment.PathSegment.TheVariants.{Field, Index}
use Rattle.gql_place.specs.declared.place_faults.Step.{Step}
use Rattle.gql_place.specs.declared.place_faults.Step.TheVariants as step

-- the segment of a path that a step is
abbrev pub segment_of : Step → PathSegment
segment_of (step.Field key) = Field key.now
segment_of (step.Index index) = Index index

-- the path of steps
abbrev pub path_of : List Step → List PathSegment
path_of steps = map segment_of steps
