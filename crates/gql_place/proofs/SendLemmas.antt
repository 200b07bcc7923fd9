-- Shapes may go to other threads, and threads may read them at once, where what they hold of objects may. A shape holds itself, so
-- that no lemma on it is made with the type.
use denote.Param.Send.{IsSend, IsSync, sendable}
use denote.RattleType.{RattleType}
use Rattle.gql_base.proofs.SendLemmas.{value_field_send, value_field_sync}
use Rattle.gql_base.proofs.items.Items.TheSendSync as items
use Rattle.gql_base.proofs.text.Text.TheSendSync as text
use Rattle.gql_base.specs.contracts.error.Error as error
use Rattle.gql_request.proofs.SendLemmas.{extension_values_send, extension_values_sync}
use Rattle.gql_place.proofs.shape.Shape.TheLaws.TheKnot as ring
use Rattle.gql_place.specs.contracts.shape.Shape as shape

error_field_send : IsSend error.the_field.row
error_field_send = search (extension_values_send, text.the_send, sendable) depth 20

error_field_sync : IsSync error.the_field.row
error_field_sync = search (extension_values_sync, text.the_sync, sendable) depth 20

pub shape_send : (O P : RattleType) → IsSend O → IsSend P → IsSend (shape.the_row O P)
shape_send O P o p = search (ring.send-Shape, value_field_send, error_field_send, items.the_send, sendable) depth 20

pub shape_sync : (O P : RattleType) → IsSync O → IsSync P → IsSync (shape.the_row O P)
shape_sync O P o p = search (ring.sync-Shape, value_field_sync, error_field_sync, items.the_sync, sendable) depth 20
