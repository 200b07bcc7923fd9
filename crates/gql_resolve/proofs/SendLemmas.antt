-- What resolvers answer, and what they are called with, may go to other threads, and threads may read it at once, where their own
-- values may: a lemma for each type, from below. A list over all of these types at once ends at its limits.
use denote.Param.Send.{IsSend, IsSync, sendable}
use denote.RattleType.{RattleType}
use denote.Ref.{NamedLft}
use Rattle.gql_base.proofs.SendLemmas.{value_field_send, value_field_sync, value_sync}
use Rattle.gql_base.proofs.boxed.Boxed.TheSendSync as boxed
use Rattle.gql_base.proofs.items.Items.TheSendSync as items
use Rattle.gql_base.proofs.name.Name.TheSendSync as name
use Rattle.gql_base.proofs.text.Text.TheSendSync as text
use Rattle.gql_base.specs.contracts.error.Error as error
use Rattle.gql_doc.proofs.SendLemmas.{field_sync}
use Rattle.gql_base.proofs.path_segment.PathSegment.TheSendSync as segment
use Rattle.gql_base.proofs.pairs.Pairs.TheSendSync as pairs
use Rattle.gql_input.specs.contracts.object_accessor.ObjectAccessor as accessor
use Rattle.gql_request.proofs.SendLemmas.{data_sync, extension_values_send, extension_values_sync, query_env_sync}
use Rattle.gql_request.specs.contracts.query_path_node.QueryPathNode as path_node
use Rattle.gql_resolve.specs.contracts.layers.Layers as layers
use Rattle.gql_resolve.specs.contracts.resolver_context.ResolverContext as context
use Rattle.gql_request.proofs.header_op.HeaderOp.TheSendSync as header_op
use Rattle.gql_resolve.proofs.field_value.FieldValue.TheLaws.TheKnot as knot
use Rattle.gql_resolve.specs.contracts.answer.Answer as answer
use Rattle.gql_resolve.specs.contracts.answer.Polled as polled
use Rattle.gql_resolve.specs.contracts.field_future.FieldFuture as field_future
use Rattle.gql_resolve.specs.contracts.field_value.FieldValue as field_value

error_send : IsSend error.the_row
error_send = search (extension_values_send, text.the_send, sendable) depth 20

pub field_value_send : (V : RattleType) → IsSend V → IsSend (field_value.the_row V)
field_value_send V p = search (
  knot.send-FieldValue,
  value_field_send,
  name.the_send,
  boxed.the_send,
  items.the_send,
  sendable,
) depth 20

-- the same, as a part of another type
pub field_value_field_send : (V : RattleType) → IsSend V → IsSend (field_value.the_field V).row
field_value_field_send V p = search (
  knot.send-FieldValue,
  value_field_send,
  name.the_send,
  boxed.the_send,
  items.the_send,
  sendable,
) depth 20

pub answer_send : (V : RattleType) → IsSend V → IsSend (answer.the_row V)
answer_send V p = search (
  field_value_send,
  error_send,
  header_op.the_send,
  items.the_send,
  sendable,
) depth 20

error_sync : IsSync error.the_row
error_sync = search (extension_values_sync, text.the_sync, sendable) depth 20

pub field_value_sync : (V : RattleType) → IsSync V → IsSync (field_value.the_row V)
field_value_sync V p = search (
  knot.sync-FieldValue,
  value_field_sync,
  name.the_sync,
  boxed.the_sync,
  items.the_sync,
  sendable,
) depth 20

pub field_value_field_sync : (V : RattleType) → IsSync V → IsSync (field_value.the_field V).row
field_value_field_sync V p = search (
  knot.sync-FieldValue,
  value_field_sync,
  name.the_sync,
  boxed.the_sync,
  items.the_sync,
  sendable,
) depth 20

pub answer_sync : (V : RattleType) → IsSync V → IsSync (answer.the_row V)
answer_sync V p = search (
  field_value_sync,
  error_sync,
  header_op.the_sync,
  items.the_sync,
  sendable,
) depth 20

pub answer_field_send : (V : RattleType) → IsSend V → IsSend (answer.the_field V).row
answer_field_send V p = search (
  field_value_send,
  error_send,
  header_op.the_send,
  items.the_send,
  sendable,
) depth 20

pub polled_send : (V : RattleType) → IsSend V → IsSend (polled.the_row V)
polled_send V p = search (answer_field_send, sendable) depth 20

pub answer_field_sync : (V : RattleType) → IsSync V → IsSync (answer.the_field V).row
answer_field_sync V p = search (
  field_value_sync,
  error_sync,
  header_op.the_sync,
  items.the_sync,
  sendable,
) depth 20

pub polled_sync : (V : RattleType) → IsSync V → IsSync (polled.the_row V)
polled_sync V p = search (answer_field_sync, sendable) depth 20

pub future_send : (V F : RattleType) → IsSend V → IsSend F → IsSend (field_future.the_row V F)
future_send V F v f = search (field_value_send, sendable) depth 20

pub future_sync : (V F : RattleType) → IsSync V → IsSync F → IsSync (field_future.the_row V F)
future_sync V F v f = search (field_value_sync, sendable) depth 20

-- what a resolver is called with is read by references
pub layers_send : (a : NamedLft) → IsSend (layers.the_row a)
layers_send a = search (data_sync, sendable) depth 20

pub layers_field_send : (a : NamedLft) → IsSend (layers.the_field a).row
layers_field_send a = search (data_sync, sendable) depth 20

pub layers_sync : (a : NamedLft) → IsSync (layers.the_row a)
layers_sync a = search (data_sync, sendable) depth 20

pub layers_field_sync : (a : NamedLft) → IsSync (layers.the_field a).row
layers_field_sync a = search (data_sync, sendable) depth 20

accessor_field_send : (a : NamedLft) → IsSend (accessor.the_field a).row
accessor_field_send a = search (value_sync, pairs.the_sync, sendable) depth 20

accessor_field_sync : (a : NamedLft) → IsSync (accessor.the_field a).row
accessor_field_sync a = search (value_sync, pairs.the_sync, sendable) depth 20

node_field_send : (a : NamedLft) → IsSend (path_node.the_field a).row
node_field_send a = search (segment.the_sync, sendable) depth 20

node_field_sync : (a : NamedLft) → IsSync (path_node.the_field a).row
node_field_sync a = search (segment.the_sync, sendable) depth 20

pub context_send : (a : NamedLft) (V : RattleType) → IsSync V → IsSend (context.the_row a V)
context_send a V p = search (
  layers_field_send,
  accessor_field_send,
  node_field_send,
  field_value_sync,
  field_sync,
  query_env_sync,
  sendable,
) depth 12

pub context_sync : (a : NamedLft) (V : RattleType) → IsSync V → IsSync (context.the_row a V)
context_sync a V p = search (
  layers_field_sync,
  accessor_field_sync,
  node_field_sync,
  field_value_sync,
  field_sync,
  query_env_sync,
  sendable,
) depth 12
