use Rattle.std.proofs.Common.{◌≡◌, map, take}
use Rattle.gql_base.specs.PathSegment.{segment_text}
use Rattle.gql_request.proofs.query_path_node.QueryPathNode.to_string_vec.Given as goal

abbrev pub invariant-loop-segment : goal.invariant-loop-segment
invariant-loop-segment l = l.texts ≡ map segment_text (take l.segment-index l.segment-items)
