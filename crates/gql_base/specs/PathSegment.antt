-- Paths into a response (GraphQL, October 2021, section 7.1.2).
use Rattle.std.specs.Prelude.{ℕ, List, map, codes}
use Rattle.std.specs.Fmt.{decimal}
use Rattle.gql_base.specs.Separated.{separated}
use Rattle.gql_base.specs.declared.path_segment.PathSegment.{PathSegment}
use Rattle.gql_base.specs.declared.path_segment.PathSegment.TheVariants.{Field, Index}

-- the text of a segment: the key of a field as it is, and a place as a number
abbrev pub segment_text : PathSegment → List ℕ
segment_text (Field key) = key
segment_text (Index place) = decimal place

-- the text of a path: the texts of its segments, with dots between them
abbrev pub path_text : List PathSegment → List ℕ
path_text segments = separated (codes ".") (map segment_text segments)
