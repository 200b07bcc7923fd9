-- What the bytes of a client's message are (the pages of subscriptions-transport-ws and
-- graphql-transport-ws): a JSON object with a text as its type.
use Rattle.std.specs.Prelude.{◌≡◌, ℕ, List, Option, Some, None, Result, Ok, Err, codes, IsUtf8}
use Rattle.std.specs.Prelude.{if◌then◌else◌}
use Rattle.std.specs.Str.{bytes_eq}
use Rattle.serde_json.specs.Data.{Data}
use Rattle.serde_json.specs.Read.{read}
use Rattle.gql_base.specs.Pairs.{under}
use Rattle.gql_base.specs.ReadJson.{value_of}
use Rattle.gql_base.specs.declared.value.Value.{Value, out-Value}
use Rattle.gql_base.specs.declared.value.Value.TheOpen.{Value-F}
use Rattle.gql_request.specs.Request.{request_of}
use Rattle.gql_request.specs.declared.request.Request.{Request}
use Rattle.gql_ws.specs.declared.client_message.ClientMessage.{ClientMessage}
use Rattle.gql_ws.specs.declared.client_message.ClientMessage.TheVariants as message
use Rattle.gql_ws.specs.declared.client_message.Fault.{Fault}
use Rattle.gql_ws.specs.declared.client_message.Fault.TheVariants.{Bad, NoMemory}
use Rattle.gql_ws.specs.declared.client_message.MessageType.{MessageType}
use Rattle.gql_ws.specs.declared.client_message.MessageType.TheVariants as kind
use Rattle.gql_ws.specs.declared.message_fault.MessageFault.{MessageFault}
use Rattle.gql_ws.specs.declared.message_fault.MessageFault.TheVariants as fault

abbrev pub Reading : Type 0 → Type 0
Reading A = Result A MessageFault

-- what is read next, once this is there
infixl 10 ◌>>=◌
abbrev pub ◌>>=◌ : {A B : Type 0} → Reading A → (A → Reading B) → Reading B
Ok value >>= next = next value
Err fault >>= next = Err fault

-- The readings of the members, each by its kind.

abbrev pub text_here : Value-F Value → Option (List ℕ)
text_here (Value-F.String text) = Some text
text_here _ = None

-- the text of a member, if it is there and is one
abbrev pub text_in : Option Value → Option (List ℕ)
text_in None = None
text_in (Some value) = text_here (out-Value value)

abbrev pub payload_here : Value → Value-F Value → Option Value
payload_here value Value-F.Null = None
payload_here value _ = Some value

-- the payload of an init, a ping or a pong: null is none
abbrev pub payload_in : Option Value → Option Value
payload_in None = None
payload_in (Some value) = payload_here value (out-Value value)

-- what has to be there
abbrev pub shaped : {A : Type 0} → Option A → Reading A
shaped None = Err fault.Shape
shaped (Some value) = Ok value

abbrev pub id_in : Option Value → Reading (List ℕ)
id_in member = shaped (text_in member)

-- a request, or a bad shape for whatever reason
abbrev pub request_read : Result Request (List ℕ) → Reading Request
request_read (Ok request) = Ok request
request_read (Err reason) = Err fault.Shape

abbrev pub request_in : Option Value → Reading Request
request_in None = Err fault.Shape
request_in (Some value) = request_read (request_of value)

-- the type of a name; two types have two names, that of the older protocol and of the newer
abbrev pub type_named : List ℕ → Option MessageType
type_named name =
    if bytes_eq name (codes "connection_init") then Some kind.Init
    else (if bytes_eq name (codes "start") then Some kind.Start
    else (if bytes_eq name (codes "subscribe") then Some kind.Start
    else (if bytes_eq name (codes "stop") then Some kind.Stop
    else (if bytes_eq name (codes "complete") then Some kind.Stop
    else (if bytes_eq name (codes "connection_terminate") then Some kind.Terminate
    else (if bytes_eq name (codes "ping") then Some kind.Ping
    else (if bytes_eq name (codes "pong") then Some kind.Pong else None)))))))

-- the message of a type; other members don't count
abbrev pub typed_message : MessageType → List (List ℕ × Value) → Reading ClientMessage
typed_message kind.Init members =
    Ok (message.ConnectionInit (payload_in (under (codes "payload") members)))
typed_message kind.Start members = do
  id ← id_in (under (codes "id") members)
  request ← request_in (under (codes "payload") members)
  Ok (message.Start id request)
typed_message kind.Stop members = do
  id ← id_in (under (codes "id") members)
  Ok (message.Stop id)
typed_message kind.Terminate members = Ok message.ConnectionTerminate
typed_message kind.Ping members =
    Ok (message.Ping (payload_in (under (codes "payload") members)))
typed_message kind.Pong members =
    Ok (message.Pong (payload_in (under (codes "payload") members)))

abbrev pub known_message : Option MessageType → List (List ℕ × Value) → Reading ClientMessage
known_message None members = Err fault.Unknown
known_message (Some known) members = typed_message known members

-- the message of an object's members
abbrev pub members_message : List (List ℕ × Value) → Reading ClientMessage
members_message members = do
  name ← shaped (text_in (under (codes "type") members))
  known_message (type_named name) members

abbrev pub message_here : Value-F Value → Reading ClientMessage
message_here (Value-F.Object members) = members_message members
message_here _ = Err fault.Shape

-- the message that a value is
abbrev pub value_message : Value → Reading ClientMessage
value_message value = message_here (out-Value value)

abbrev pub numbered_message : Option Value → Reading ClientMessage
numbered_message None = Err fault.Number
numbered_message (Some value) = value_message value

-- the message that a JSON value is: whether its numbers are such as values have comes first
abbrev pub message_in : Data → Reading ClientMessage
message_in json = numbered_message (value_of json)

-- what is given for bytes that are JSON
abbrev pub GivesMessage : List ℕ → Reading ClientMessage → Type 0
GivesMessage bytes given =
    (json : Data) → IsUtf8 bytes → read bytes ≡ Some json → given ≡ message_in json

-- and for those that aren't
abbrev pub GivesNotJson : List ℕ → Reading ClientMessage → Type 0
GivesNotJson bytes given = (IsUtf8 bytes → read bytes ≡ None) → given ≡ Err fault.NotJson

-- that a reader answers what there is to read, unless memory runs out
abbrev pub IsRead : {A : Type 0} → Result A Fault → Reading A → Type 0
IsRead (Ok value) given = given ≡ Ok value
IsRead (Err (Bad wrong)) given = given ≡ Err wrong
IsRead (Err NoMemory) given = Unit {0}

-- that this is what a reader answered, where memory wasn't wanting
abbrev pub IsTold : {A : Type 0} → Result A Fault → Reading A → Type 0
IsTold (Ok value) told = told ≡ Ok value
IsTold (Err (Bad wrong)) told = told ≡ Err wrong
IsTold (Err NoMemory) told = ⊥
