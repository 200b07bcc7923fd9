use Rattle.std.proofs.Common.{◌≡◌, take}
use Rattle.std.specs.Option.{option_copied}
use Rattle.gql_request.specs.Path.{last_field}
use Rattle.gql_request.proofs.query_path_node.QueryPathNode.field_name.Given as goal

abbrev pub invariant-loop-segment : goal.invariant-loop-segment
invariant-loop-segment l = option_copied l.last ≡ last_field (take l.segment-index l.segment-items)
