-- Sessions, and what they take and give, may go to other threads, and threads may read them at once: a lemma for each type, from
-- below.
use denote.Param.Send.{IsSend, IsSync, sendable}
use Rattle.gql_base.proofs.SendLemmas.{value_send, value_sync, value_field_send, value_field_sync}
use Rattle.gql_base.proofs.items.Items.TheSendSync as items
use Rattle.gql_base.proofs.text.Text.TheSendSync as text
use Rattle.gql_base.specs.contracts.error.Error as error
use Rattle.gql_protocols.proofs.protocols.Protocols.TheSendSync as protocols
use Rattle.gql_request.proofs.SendLemmas.{data_send, data_sync, data_field_send, data_field_sync, extension_values_send}
use Rattle.gql_request.proofs.SendLemmas.{extension_values_sync, request_field_send, request_field_sync, response_field_send}
use Rattle.gql_request.proofs.SendLemmas.{response_field_sync, server_error_send, server_error_sync}
use Rattle.gql_ws.proofs.lives.Lives.TheSendSync as lives
use Rattle.gql_ws.proofs.message_fault.MessageFault.TheSendSync as fault
use Rattle.gql_ws.proofs.session.Stage.TheSendSync as stage
use Rattle.gql_ws.proofs.ws_message.WsMessage.TheSendSync as written
use Rattle.gql_ws.specs.contracts.client_message.ClientMessage as client_message
use Rattle.gql_ws.specs.contracts.job.Job as job
use Rattle.gql_ws.specs.contracts.job.WsStep as step
use Rattle.gql_ws.specs.contracts.session.WsCore as core
use Rattle.gql_ws.specs.contracts.ws_event.WsEvent as event

error_send : IsSend error.the_row
error_send = search (extension_values_send, text.the_send, sendable) depth 20

error_sync : IsSync error.the_row
error_sync = search (extension_values_sync, text.the_sync, sendable) depth 20

pub client_message_send : IsSend client_message.the_row
client_message_send = search (value_send, request_field_send, text.the_send, sendable) depth 20

pub client_message_sync : IsSync client_message.the_row
client_message_sync = search (value_sync, request_field_sync, text.the_sync, sendable) depth 20

pub event_send : IsSend event.the_row
event_send = search (
  client_message_send,
  fault.the_send,
  data_send,
  error_send,
  value_send,
  response_field_send,
  server_error_send,
  items.the_send,
  sendable,
) depth 20

pub event_sync : IsSync event.the_row
event_sync = search (
  client_message_sync,
  fault.the_sync,
  data_sync,
  error_sync,
  value_sync,
  response_field_sync,
  server_error_sync,
  items.the_sync,
  sendable,
) depth 20

pub job_send : IsSend job.the_row
job_send = search (value_send, value_field_send, request_field_send, text.the_send, sendable) depth 20

pub job_sync : IsSync job.the_row
job_sync = search (value_sync, value_field_sync, request_field_sync, text.the_sync, sendable) depth 20

job_field_send : IsSend job.the_field.row
job_field_send = search (value_send, value_field_send, request_field_send, text.the_send, sendable) depth 20

job_field_sync : IsSync job.the_field.row
job_field_sync = search (value_sync, value_field_sync, request_field_sync, text.the_sync, sendable) depth 20

pub step_send : IsSend step.the_row
step_send = search (job_field_send, written.the_send, sendable) depth 20

pub step_sync : IsSync step.the_row
step_sync = search (job_field_sync, written.the_sync, sendable) depth 20

pub core_send : IsSend core.the_row
core_send = search (protocols.the_field_send, data_field_send, stage.the_field_send, lives.the_send, sendable) depth 20

pub core_sync : IsSync core.the_row
core_sync = search (protocols.the_field_sync, data_field_sync, stage.the_field_sync, lives.the_sync, sendable) depth 20
