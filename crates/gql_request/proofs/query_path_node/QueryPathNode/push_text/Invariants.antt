use Rattle.std.proofs.Common.{◌≡◌, ◌++◌, take, string_bytes}
use Rattle.gql_base.specs.PathSegment.{path_text}
use Rattle.gql_request.proofs.query_path_node.QueryPathNode.push_text.Given as goal

abbrev pub invariant-loop-place : goal.invariant-loop-place
invariant-loop-place l =
    string_bytes l.out ≡ string_bytes l.initial.out ++ path_text (take l.place l.segment-items)
