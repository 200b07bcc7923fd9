-- A place of a bench as it is written, such as `schema.types[0].fields[1].type`. The whole is
-- `bench`.
use Rattle.std.specs.Prelude.{ℕ, List, [], ◌∷◌, ◌++◌, codes}
use Rattle.std.specs.Fmt.{decimal}
use Rattle.gql_base.specs.declared.path_segment.PathSegment.{PathSegment}
use Rattle.gql_base.specs.declared.path_segment.PathSegment.TheVariants.{Field, Index}

-- an item's place in its list, counted from 0
abbrev pub index_text : ℕ → List ℕ
index_text place = codes "[" ++ (decimal place ++ codes "]")

-- the first step: a member stands without a dot
abbrev pub first_step_text : PathSegment → List ℕ
first_step_text (Field name) = name
first_step_text (Index place) = index_text place

-- a step after others
abbrev pub step_text : PathSegment → List ℕ
step_text (Field name) = codes "." ++ name
step_text (Index place) = index_text place

abbrev pub steps_text : List PathSegment → List ℕ
steps_text [] = []
steps_text (step ∷ steps) = step_text step ++ steps_text steps

abbrev pub place_text : List PathSegment → List ℕ
place_text [] = codes "bench"
place_text (step ∷ steps) = first_step_text step ++ steps_text steps
