-- Paths by their steps.
use Rattle.std.specs.Prelude.{ℕ, suc, List, [], ◌∷◌, ◌++◌, Option, Some, None, drop, map, take}
use Rattle.gql_base.specs.declared.path_segment.PathSegment.{PathSegment}
use Rattle.gql_base.specs.declared.path_segment.PathSegment.TheVariants as segment
use Rattle.gql_objects.specs.declared.step.Step.{Step}
use Rattle.gql_objects.specs.declared.step.Step.TheVariants as step

-- a step as it is told
abbrev pub segment_of : Step → PathSegment
segment_of (step.Key key) = segment.Field key.now
segment_of (step.Index index) = segment.Index index

-- the path of these steps
abbrev pub path_of : List Step → List PathSegment
path_of steps = map segment_of steps

-- the step to the item of this index, if there is one
abbrev pub index_step : Option ℕ → List Step
index_step None = []
index_step (Some index) = step.Index index ∷ []

-- a path with this segment at a place, over the one that stands there, or after all
abbrev pub written : ℕ → PathSegment → List PathSegment → List PathSegment
written place segment path = take place path ++ segment ∷ drop (suc place) path
