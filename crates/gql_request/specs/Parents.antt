-- The place whose parents come next.
use Rattle.std.specs.Prelude.{List}
use Rattle.gql_base.specs.declared.path_segment.PathSegment.{PathSegment}
use Rattle.gql_request.specs.declared.query_path_node.Parents.{Parents}

abbrev pub path_behind : Parents → List PathSegment
path_behind parents = parents.current.segments.now
