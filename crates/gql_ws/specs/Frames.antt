-- The messages of a session to its client, and how each is written (the pages of
-- subscriptions-transport-ws and graphql-transport-ws).
use Rattle.std.specs.Prelude.{ℕ, List, ◌++◌, Option, Some, None, codes}
use Rattle.gql_base.specs.ErrorJson.{error_json, list_json}
use Rattle.gql_base.specs.Json.{json, quoted}
use Rattle.gql_base.specs.declared.server_error.ServerError.{ServerError}
use Rattle.gql_base.specs.declared.value.Value.{Value}
use Rattle.gql_request.specs.Response.{response_json}
use Rattle.gql_request.specs.declared.response.Response.{Response}
use Rattle.gql_ws.specs.declared.ws_message.WsMessage.{WsMessage}
use Rattle.gql_ws.specs.declared.ws_message.WsMessage.TheVariants as written

-- a message to the client: the acknowledgement; a failure of the session; under an id a response by
-- either protocol, the errors of a refused request, or that no more comes; the answer to a ping; a
-- close with its code
pub data Frame : Type 0 where
  Ack : Frame
  Failed : List ℕ → Frame
  Data : List ℕ → Response → Frame
  Next : List ℕ → Response → Frame
  Error : List ℕ → List ServerError → Frame
  Complete : List ℕ → Frame
  Pong : Option Value → Frame
  Close : ℕ → List ℕ → Frame

-- a text that begins so, with this id, up to its payload, and the whole text
abbrev pub opened : List ℕ → List ℕ → List ℕ
opened front id = front ++ (quoted id ++ codes ",\"payload\":")

abbrev pub carrying : List ℕ → List ℕ → List ℕ → List ℕ
carrying front id payload = opened front id ++ (payload ++ codes "}")

abbrev pub data_front : List ℕ
data_front = codes "{\"type\":\"data\",\"id\":"

abbrev pub next_front : List ℕ
next_front = codes "{\"type\":\"next\",\"id\":"

abbrev pub error_front : List ℕ
error_front = codes "{\"type\":\"error\",\"id\":"

abbrev pub complete_front : List ℕ
complete_front = codes "{\"type\":\"complete\",\"id\":"

abbrev pub failed_text : List ℕ → List ℕ
failed_text text =
    codes "{\"type\":\"connection_error\",\"payload\":{\"message\":"
    ++ (quoted text ++ codes "}}")

abbrev pub pong_text : Option Value → List ℕ
pong_text None = codes "{\"type\":\"pong\"}"
pong_text (Some payload) = codes "{\"type\":\"pong\",\"payload\":" ++ (json payload ++ codes "}")

-- how a message is written
abbrev pub message_of : Frame → WsMessage
message_of Ack = written.Text (codes "{\"type\":\"connection_ack\"}")
message_of (Failed text) = written.Text (failed_text text)
message_of (Data id response) = written.Text (carrying data_front id (response_json response))
message_of (Next id response) = written.Text (carrying next_front id (response_json response))
message_of (Error id errors) =
    written.Text (carrying error_front id (list_json error_json errors))
message_of (Complete id) = written.Text (complete_front ++ (quoted id ++ codes "}"))
message_of (Pong payload) = written.Text (pong_text payload)
message_of (Close code text) = written.Close code text

-- the kinds of messages
pub data Kind : Type 0 where
  acknowledgement : Kind
  failure : Kind
  data_message : Kind
  next_message : Kind
  error_message : Kind
  complete_message : Kind
  pong_message : Kind
  close_message : Kind

abbrev pub kind_of : Frame → Kind
kind_of Ack = acknowledgement
kind_of (Failed text) = failure
kind_of (Data id response) = data_message
kind_of (Next id response) = next_message
kind_of (Error id errors) = error_message
kind_of (Complete id) = complete_message
kind_of (Pong payload) = pong_message
kind_of (Close code text) = close_message
