-- The types of requests and responses may go to other threads, and threads may read them at once: a lemma for each type that
-- holds values or documents, from below, as a search that meets one of them twice ends at its limits without them.
use denote.Param.Send.{IsSend, IsSync, sendable}
use denote.Ref.{NamedLft}
use Rattle.gql_base.proofs.SendLemmas.{value_send, value_sync, value_field_send, value_field_sync}
use Rattle.gql_base.proofs.common.Common.TheSendSync as common
use Rattle.gql_base.proofs.items.Items.TheSendSync as items
use Rattle.gql_base.proofs.name.Name.TheSendSync as name
use Rattle.gql_base.proofs.pairs.Pairs.TheSendSync as pairs
use Rattle.gql_base.proofs.path_segment.PathSegment.TheSendSync as segment
use Rattle.gql_base.proofs.pos.Pos.TheSendSync as pos
use Rattle.gql_base.proofs.text.Text.TheSendSync as text
use Rattle.gql_base.specs.contracts.error_extension_values.ErrorExtensionValues as extension_values
use Rattle.gql_base.specs.contracts.server_error.ServerError as server_error
use Rattle.gql_base.specs.contracts.variables.Variables as variables
use Rattle.std.proofs.Crossing as std
use Rattle.gql_doc.proofs.SendLemmas.{operation_send, operation_sync, fragment_send, fragment_sync, document_send, document_sync}
use Rattle.gql_doc.proofs.document.Positioned.TheSendSync as positioned
use Rattle.gql_request.proofs.header_op.HeaderOp.TheSendSync as header_op
use Rattle.gql_request.proofs.key_tree.KeyTree.TheSendSync as key_tree
use Rattle.gql_request.proofs.query_env.IntrospectionMode.TheSendSync as mode
use Rattle.gql_request.specs.contracts.batch_request.BatchRequest as batch_request
use Rattle.gql_request.specs.contracts.batch_response.BatchResponse as batch_response
use Rattle.gql_request.specs.contracts.data.Data as held
use Rattle.gql_request.specs.contracts.extension_context.ExtensionContext as extension_context
use Rattle.gql_request.specs.contracts.query_env.QueryEnv as query_env
use Rattle.gql_request.specs.contracts.request.Request as request
use Rattle.gql_request.specs.contracts.response.Response as response
use Rattle.gql_request.specs.contracts.stream_poll.StreamPoll as stream_poll

pub variables_send : IsSend variables.the_row
variables_send = search (value_send, value_sync, common.the_send, pairs.the_send, pairs.the_sync, sendable) depth 20

pub variables_field_send : IsSend variables.the_field.row
variables_field_send = search (value_send, value_sync, common.the_send, pairs.the_send, pairs.the_sync, sendable) depth 20

pub variables_sync : IsSync variables.the_row
variables_sync = search (value_send, value_sync, common.the_sync, pairs.the_send, pairs.the_sync, sendable) depth 20

pub variables_field_sync : IsSync variables.the_field.row
variables_field_sync = search (value_send, value_sync, common.the_sync, pairs.the_send, pairs.the_sync, sendable) depth 20

pub extension_values_send : IsSend extension_values.the_row
extension_values_send = search (value_send, name.the_send, std.crosses, sendable) depth 20

pub extension_values_field_send : IsSend extension_values.the_field.row
extension_values_field_send = search (value_send, name.the_send, std.crosses, sendable) depth 20

pub extension_values_sync : IsSync extension_values.the_row
extension_values_sync = search (value_sync, name.the_sync, std.crosses, sendable) depth 20

pub extension_values_field_sync : IsSync extension_values.the_field.row
extension_values_field_sync = search (value_sync, name.the_sync, std.crosses, sendable) depth 20

pub server_error_send : IsSend server_error.the_row
server_error_send = search (
  extension_values_send,
  segment.the_send,
  pos.the_send,
  text.the_send,
  items.the_send,
  sendable,
) depth 20

pub server_error_sync : IsSync server_error.the_row
server_error_sync = search (
  extension_values_sync,
  segment.the_sync,
  pos.the_sync,
  text.the_sync,
  items.the_sync,
  sendable,
) depth 20

pub data_send : IsSend held.the_row
data_send = search (value_send, key_tree.the_field_send, std.crosses, sendable) depth 20

pub data_field_send : IsSend held.the_field.row
data_field_send = search (value_send, key_tree.the_field_send, std.crosses, sendable) depth 20

pub data_sync : IsSync held.the_row
data_sync = search (value_sync, key_tree.the_field_sync, std.crosses, sendable) depth 20

pub data_field_sync : IsSync held.the_field.row
data_field_sync = search (value_sync, key_tree.the_field_sync, std.crosses, sendable) depth 20

pub extension_context_send : (a : NamedLft) → IsSend (extension_context.the_row a)
extension_context_send a = search (data_sync, sendable) depth 20

pub extension_context_sync : (a : NamedLft) → IsSync (extension_context.the_row a)
extension_context_sync a = search (data_sync, sendable) depth 20

pub query_env_send : IsSend query_env.the_row
query_env_send = search (
  variables_field_send,
  text.the_send,
  operation_send,
  fragment_send,
  pairs.the_send,
  positioned.the_send,
  positioned.the_field_send,
  mode.the_field_send,
  sendable,
) depth 20

pub query_env_field_send : IsSend query_env.the_field.row
query_env_field_send = search (
  variables_field_send,
  text.the_send,
  operation_send,
  fragment_send,
  pairs.the_send,
  positioned.the_send,
  positioned.the_field_send,
  mode.the_field_send,
  sendable,
) depth 20

pub query_env_sync : IsSync query_env.the_row
query_env_sync = search (
  variables_field_sync,
  text.the_sync,
  operation_sync,
  fragment_sync,
  pairs.the_sync,
  positioned.the_sync,
  positioned.the_field_sync,
  mode.the_field_sync,
  sendable,
) depth 20

pub query_env_field_sync : IsSync query_env.the_field.row
query_env_field_sync = search (
  variables_field_sync,
  text.the_sync,
  operation_sync,
  fragment_sync,
  pairs.the_sync,
  positioned.the_sync,
  positioned.the_field_sync,
  mode.the_field_sync,
  sendable,
) depth 20

pub request_send : IsSend request.the_row
request_send = search (
  text.the_send,
  variables_field_send,
  data_field_send,
  value_send,
  pairs.the_send,
  mode.the_field_send,
  document_send,
  sendable,
) depth 20

pub request_field_send : IsSend request.the_field.row
request_field_send = search (
  text.the_send,
  variables_field_send,
  data_field_send,
  value_send,
  pairs.the_send,
  mode.the_field_send,
  document_send,
  sendable,
) depth 20

pub request_sync : IsSync request.the_row
request_sync = search (
  text.the_sync,
  variables_field_sync,
  data_field_sync,
  value_sync,
  pairs.the_sync,
  mode.the_field_sync,
  document_sync,
  sendable,
) depth 20

pub request_field_sync : IsSync request.the_field.row
request_field_sync = search (
  text.the_sync,
  variables_field_sync,
  data_field_sync,
  value_sync,
  pairs.the_sync,
  mode.the_field_sync,
  document_sync,
  sendable,
) depth 20

pub response_send : IsSend response.the_row
response_send = search (
  value_field_send,
  extension_values_field_send,
  server_error_send,
  header_op.the_send,
  items.the_send,
  sendable,
) depth 20

pub response_field_send : IsSend response.the_field.row
response_field_send = search (
  value_field_send,
  extension_values_field_send,
  server_error_send,
  header_op.the_send,
  items.the_send,
  sendable,
) depth 20

pub response_sync : IsSync response.the_row
response_sync = search (
  value_field_sync,
  extension_values_field_sync,
  server_error_sync,
  header_op.the_sync,
  items.the_sync,
  sendable,
) depth 20

pub response_field_sync : IsSync response.the_field.row
response_field_sync = search (
  value_field_sync,
  extension_values_field_sync,
  server_error_sync,
  header_op.the_sync,
  items.the_sync,
  sendable,
) depth 20

pub batch_request_send : IsSend batch_request.the_row
batch_request_send = search (request_send, request_field_send, items.the_send, sendable) depth 20

pub batch_request_sync : IsSync batch_request.the_row
batch_request_sync = search (request_sync, request_field_sync, items.the_sync, sendable) depth 20

pub batch_response_send : IsSend batch_response.the_row
batch_response_send = search (response_send, response_field_send, items.the_send, sendable) depth 20

pub batch_response_sync : IsSync batch_response.the_row
batch_response_sync = search (response_sync, response_field_sync, items.the_sync, sendable) depth 20

pub stream_poll_send : IsSend stream_poll.the_row
stream_poll_send = search (response_field_send, server_error_send, items.the_send, sendable) depth 20

pub stream_poll_sync : IsSync stream_poll.the_row
stream_poll_sync = search (response_field_sync, server_error_sync, items.the_sync, sendable) depth 20
