-- The requests of a batch, one after another, and what hooks are told of a field may go to other threads, and threads may read
-- them at once.
use denote.Ref.{NamedLft}
use denote.Param.Send.{IsSend, IsSync, sendable}
use Rattle.gql_base.proofs.SendLemmas.{type_ref_sync}
use Rattle.gql_base.proofs.path_segment.PathSegment.TheSendSync as segment
use Rattle.gql_doc.proofs.SendLemmas.{field_sync}
use Rattle.gql_request.proofs.SendLemmas.{request_sync}
use Rattle.gql_request.specs.contracts.batch_request.Requests as requests
use Rattle.gql_request.specs.contracts.query_path_node.QueryPathNode as path_node
use Rattle.gql_request.specs.contracts.resolve_info.ResolveInfo as info

pub requests_send : (a : NamedLft) → IsSend (requests.the_row a)
requests_send a = search (request_sync, sendable) depth 20

pub requests_sync : (a : NamedLft) → IsSync (requests.the_row a)
requests_sync a = search (request_sync, sendable) depth 20

node_field_send : (a : NamedLft) → IsSend (path_node.the_field a).row
node_field_send a = search (segment.the_sync, sendable) depth 20

node_field_sync : (a : NamedLft) → IsSync (path_node.the_field a).row
node_field_sync a = search (segment.the_sync, sendable) depth 20

pub info_send : (a : NamedLft) → IsSend (info.the_row a)
info_send a = search (node_field_send, type_ref_sync, field_sync, sendable) depth 24

pub info_sync : (a : NamedLft) → IsSync (info.the_row a)
info_sync a = search (node_field_sync, type_ref_sync, field_sync, sendable) depth 24
