-- Places and what stands at them may go to other threads, and threads may read them at once. A place holds itself, so that no
-- lemma on it is made with the type.
use denote.Param.Send.{IsSend, IsSync, sendable}
use Rattle.gql_base.proofs.SendLemmas.{value_field_send, value_field_sync}
use Rattle.gql_base.proofs.items.Items.TheSendSync as items
use Rattle.gql_base.proofs.pairs.Pairs.TheSendSync as pairs
use Rattle.gql_base.proofs.pos.Pos.TheSendSync as pos
use Rattle.gql_base.proofs.text.Text.TheSendSync as text
use Rattle.gql_base.specs.contracts.error.Error as error
use Rattle.gql_request.proofs.SendLemmas.{extension_values_send, extension_values_sync}
use Rattle.gql_request.proofs.header_op.HeaderOp.TheSendSync as header_op
use Rattle.gql_place.proofs.place.Tree.TheLaws.TheKnot as ring
use Rattle.gql_place.specs.contracts.place.Place as place
use Rattle.gql_place.specs.contracts.place.Tree as tree

pub error_send : IsSend error.the_row
error_send = search (extension_values_send, text.the_send, sendable) depth 20

pub error_field_send : IsSend error.the_field.row
error_field_send = search (extension_values_send, text.the_send, sendable) depth 20

pub place_field_send : IsSend place.the_field.row
place_field_send = search (
  ring.send-Place,
  value_field_send,
  error_send,
  error_field_send,
  header_op.the_send,
  pos.the_field_send,
  items.the_send,
  pairs.the_send,
  sendable,
) depth 20

pub place_send : IsSend place.the_row
place_send = search (place_field_send, sendable) depth 20

pub tree_field_send : IsSend tree.the_field.row
tree_field_send = search (
  ring.send-Tree,
  value_field_send,
  error_send,
  error_field_send,
  header_op.the_send,
  pos.the_field_send,
  items.the_send,
  pairs.the_send,
  sendable,
) depth 20

pub tree_send : IsSend tree.the_row
tree_send = search (tree_field_send, sendable) depth 20

-- the same of reading
pub error_sync : IsSync error.the_row
error_sync = search (extension_values_sync, text.the_sync, sendable) depth 20

pub error_field_sync : IsSync error.the_field.row
error_field_sync = search (extension_values_sync, text.the_sync, sendable) depth 20

pub place_field_sync : IsSync place.the_field.row
place_field_sync = search (
  ring.sync-Place,
  value_field_sync,
  error_sync,
  error_field_sync,
  header_op.the_sync,
  pos.the_field_sync,
  items.the_sync,
  pairs.the_sync,
  sendable,
) depth 20

pub place_sync : IsSync place.the_row
place_sync = search (place_field_sync, sendable) depth 20

pub tree_field_sync : IsSync tree.the_field.row
tree_field_sync = search (
  ring.sync-Tree,
  value_field_sync,
  error_sync,
  error_field_sync,
  header_op.the_sync,
  pos.the_field_sync,
  items.the_sync,
  pairs.the_sync,
  sendable,
) depth 20

pub tree_sync : IsSync tree.the_row
tree_sync = search (tree_field_sync, sendable) depth 20
