-- What a task is given may go to another thread, and threads may read it at once, where the resolvers' own values may: a lemma for each
-- type, from below.
use denote.Param.Send.{IsSend, IsSync, sendable}
use denote.RattleType.{RattleType}
use Rattle.gql_base.proofs.SendLemmas.{value_send, value_sync}
use Rattle.gql_base.proofs.items.Items.TheSendSync as items
use Rattle.gql_base.proofs.text.Text.TheSendSync as text
use Rattle.gql_base.specs.contracts.error.Error as error
use Rattle.gql_tasks.specs.contracts.given.Given as given
use Rattle.gql_request.proofs.SendLemmas.{extension_values_send, extension_values_sync}
use Rattle.gql_request.proofs.header_op.HeaderOp.TheSendSync as header_op
use Rattle.gql_resolve.proofs.SendLemmas.{field_value_send, field_value_sync}
use Rattle.gql_resolve.specs.contracts.answer.Answer as answer

error_send : IsSend error.the_row
error_send = search (extension_values_send, text.the_send, sendable) depth 20

answer_field_send : (V : RattleType) → IsSend V → IsSend (answer.the_field V).row
answer_field_send V p = search (
  field_value_send,
  error_send,
  header_op.the_send,
  items.the_send,
  sendable,
) depth 20

pub given_send : (V : RattleType) → IsSend V → IsSend (given.the_row V)
given_send V p = search (answer_field_send, value_send, error_send, sendable) depth 20

-- the same of reading
error_sync : IsSync error.the_row
error_sync = search (extension_values_sync, text.the_sync, sendable) depth 20

answer_field_sync : (V : RattleType) → IsSync V → IsSync (answer.the_field V).row
answer_field_sync V p = search (
  field_value_sync,
  error_sync,
  header_op.the_sync,
  items.the_sync,
  sendable,
) depth 20

pub given_sync : (V : RattleType) → IsSync V → IsSync (given.the_row V)
given_sync V p = search (answer_field_sync, value_sync, error_sync, sendable) depth 20
