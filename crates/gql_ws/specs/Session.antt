-- The table of a session: what one event does to it, and what a list of events does.
use Rattle.std.specs.Prelude.{◌≡◌, ℕ, ◌+◌, nat_le, Bool, true, false, List, [], ◌∷◌, ◌++◌}
use Rattle.std.specs.Prelude.{Option, Some, None, Result, Ok, Err, codes, option_map}
use Rattle.std.specs.Prelude.{if◌then◌else◌}
use Rattle.gql_base.specs.declared.error.Error.{Error}
use Rattle.gql_base.specs.declared.server_error.ServerError.{ServerError}
use Rattle.gql_base.specs.declared.value.Value.{Value}
use Rattle.gql_base.specs.declared.value.Value.TheVariants.{Null}
use Rattle.gql_protocols.specs.declared.protocols.Protocols.{Protocols}
use Rattle.gql_protocols.specs.declared.protocols.Protocols.TheVariants as protocol
use Rattle.gql_request.specs.Data.{put_keys}
use Rattle.gql_request.specs.declared.request.Request.{Request}
use Rattle.gql_request.specs.declared.response.Response.{Response}
use Rattle.gql_ws.specs.Found.{has_id, has_number, found, without, placed, number_of}
use Rattle.gql_ws.specs.Frames.{Frame, message_of}
use Rattle.gql_ws.specs.Frames as frame
use Rattle.gql_ws.specs.MessageFault.{fault_text}
use Rattle.gql_ws.specs.declared.client_message.ClientMessage.{ClientMessage}
use Rattle.gql_ws.specs.declared.client_message.ClientMessage.TheVariants as message
use Rattle.gql_ws.specs.declared.job.Job.{Job}
use Rattle.gql_ws.specs.declared.job.Job.TheVariants as job
use Rattle.gql_ws.specs.declared.job.WsStep.{WsStep}
use Rattle.gql_ws.specs.declared.live.Live.{Live}
use Rattle.gql_ws.specs.declared.session.Stage.{Stage}
use Rattle.gql_ws.specs.declared.session.Stage.TheVariants as stage
use Rattle.gql_ws.specs.declared.session.WsCore.{WsCore}
use Rattle.gql_ws.specs.declared.ws_event.WsEvent.{WsEvent}
use Rattle.gql_ws.specs.declared.ws_event.WsEvent.TheVariants as event

-- values under their keys, as contracts see data
abbrev pub Held : Type 0
Held = List (ℕ × Value)

-- as many starts as are ever made: 2^64-1
abbrev pub limit : ℕ
limit = 18446744073709551615

-- What is said.

abbrev pub is_graphql : Protocols → Bool
is_graphql protocol.SubscriptionsTransportWS = false
is_graphql protocol.GraphQLWS = true

-- the message for a response of the start of an id
abbrev pub delivery : Protocols → List ℕ → Response → Frame
delivery protocol.SubscriptionsTransportWS id response = frame.Data id response
delivery protocol.GraphQLWS id response = frame.Next id response

-- the response with null data and these errors
abbrev pub failed : List ServerError → Response
failed errors = record { result = Null; extensions = []; errors = errors; headers = [] }

-- the message for the errors of a refused request of the start of an id
abbrev pub refused_message : Protocols → List ℕ → List ServerError → Frame
refused_message protocol.SubscriptionsTransportWS id errors = frame.Data id (failed errors)
refused_message protocol.GraphQLWS id errors = frame.Error id errors

-- the message that refuses a client
abbrev pub refusal : Protocols → List ℕ → ℕ → Frame
refusal protocol.SubscriptionsTransportWS text code = frame.Failed text
refusal protocol.GraphQLWS text code = frame.Close code text

-- the message to a start before the acknowledgement
abbrev pub unready : Protocols → Frame
unready protocol.SubscriptionsTransportWS =
    frame.Close 1011 (codes "The handshake is not completed.")
unready protocol.GraphQLWS = frame.Close 4401 (codes "Unauthorized")

-- the message to a start of an id that is live
abbrev pub taken_id : List ℕ → Frame
taken_id id = frame.Close 4409 (codes "Subscriber for " ++ (id ++ codes " already exists"))

-- What an event gives: the later state, and the step with its message unwritten.

pub record Step : Type 0 where
  pub out : Option Frame
  pub job : Job

abbrev pub Outcome : Type 0
Outcome = WsCore × Step

abbrev pub step_of : Option Frame → Job → Step
step_of out wanted = record { out = out; job = wanted }

abbrev pub quiet : WsCore → Outcome
quiet core = (core, step_of None job.Nothing)

abbrev pub says : WsCore → Frame → Outcome
says core out = (core, step_of (Some out) job.Nothing)

abbrev pub asks : WsCore → Job → Outcome
asks core wanted = (core, step_of None wanted)

-- the closed state, in which nothing is live
abbrev pub shut : WsCore → WsCore
shut core = record core { closed = true; live = [] }

abbrev pub refuses : WsCore → List ℕ → ℕ → Outcome
refuses core text code = says (shut core) (refusal core.protocol text code)

-- the payload of an init, where none is null
abbrev pub or_null : Option Value → Value
or_null None = Null
or_null (Some payload) = payload

-- The rows.

abbrev pub on_init : WsCore → Stage → Option Value → Outcome
on_init core stage.New payload =
    asks (record core { stage = stage.Initialising }) (job.Init (or_null payload))
on_init core stage.Initialising payload =
    refuses core (codes "Too many initialisation requests.") 4429
on_init core stage.Acknowledged payload =
    refuses core (codes "Too many initialisation requests.") 4429

abbrev pub on_init_answered : WsCore → Stage → Result Held Error → Outcome
on_init_answered core stage.Initialising (Ok answer) =
    says (record core {
      stage = stage.Acknowledged;
      connection = put_keys core.connection answer;
    }) frame.Ack
on_init_answered core stage.Initialising (Err error) = refuses core error.message 1002
on_init_answered core stage.New answer = quiet core
on_init_answered core stage.Acknowledged answer = quiet core

abbrev pub begins : WsCore → List ℕ → Request → Outcome
begins core id request =
    asks (record core { starts = core.starts + 1; live = placed id core.starts core.live })
    (job.Start core.starts id request (number_of id core.live))

abbrev pub on_allowed : WsCore → Protocols → List ℕ → Request → Option ℕ → Outcome
on_allowed core protocol.GraphQLWS id request (Some old) = says (shut core) (taken_id id)
on_allowed core protocol.GraphQLWS id request None = begins core id request
on_allowed core protocol.SubscriptionsTransportWS id request old = begins core id request

abbrev pub on_accepted : WsCore → Stage → List ℕ → Request → Outcome
on_accepted core stage.Acknowledged id request =
    on_allowed core core.protocol id request (number_of id core.live)
on_accepted core stage.New id request = says (shut core) (unready core.protocol)
on_accepted core stage.Initialising id request = says (shut core) (unready core.protocol)

abbrev pub on_start : WsCore → List ℕ → Request → Outcome
on_start core id request =
    if nat_le limit core.starts then quiet (shut core) else on_accepted core core.stage id request

abbrev pub on_stop : WsCore → List ℕ → Option ℕ → Outcome
on_stop core id None = quiet core
on_stop core id (Some number) = (
  record core { live = without (has_id id) core.live },
  step_of (Some (frame.Complete id)) (job.Drop number),
)

abbrev pub on_ping_answered : WsCore → Bool → Result (Option Value) Error → Outcome
on_ping_answered core false answer = quiet core
on_ping_answered core true (Ok payload) =
    says (record core { ping = false }) (frame.Pong payload)
on_ping_answered core true (Err error) = refuses core error.message 1002

abbrev pub on_item : WsCore → Response → Option Live → Outcome
on_item core response None = quiet core
on_item core response (Some start) = says core (delivery core.protocol start.id response)

abbrev pub on_end : WsCore → ℕ → Option Live → Outcome
on_end core number None = quiet core
on_end core number (Some start) =
    says (record core { live = without (has_number number) core.live }) (frame.Complete start.id)

abbrev pub on_refused : WsCore → Protocols → ℕ → List ServerError → Option Live → Outcome
on_refused core spoken number errors None = quiet core
on_refused core protocol.SubscriptionsTransportWS number errors (Some start) =
    says core (refused_message protocol.SubscriptionsTransportWS start.id errors)
on_refused core protocol.GraphQLWS number errors (Some start) = (
  record core { live = without (has_number number) core.live },
  step_of (Some (refused_message protocol.GraphQLWS start.id errors)) (job.Drop number),
)

abbrev pub on_message : WsCore → ClientMessage → Outcome
on_message core (message.ConnectionInit payload) = on_init core core.stage payload
on_message core (message.Start id request) = on_start core id request
on_message core (message.Stop id) = on_stop core id (number_of id core.live)
on_message core message.ConnectionTerminate = quiet (shut core)
on_message core (message.Ping payload) = asks (record core { ping = true }) (job.Ping payload)
on_message core (message.Pong payload) = quiet core

-- what an event gives in an open session
abbrev pub in_open : WsCore → WsEvent → Outcome
in_open core (event.Message (Ok said)) = on_message core said
in_open core (event.Message (Err fault)) =
    says (shut core) (frame.Close 1002 (fault_text fault))
in_open core event.InboxEnded = quiet (shut core)
in_open core (event.Init answer) = on_init_answered core core.stage answer
in_open core (event.Ping answer) = on_ping_answered core core.ping answer
in_open core (event.Item number response) =
    on_item core response (found (has_number number) core.live)
in_open core (event.Ended number) = on_end core number (found (has_number number) core.live)
in_open core (event.Refused number errors) =
    on_refused core core.protocol number errors (found (has_number number) core.live)
in_open core event.Timeout = refuses core (codes "timeout") 3008

-- in a closed one nothing happens
abbrev pub ws_step : WsCore → WsEvent → Outcome
ws_step core now = if core.closed then quiet core else in_open core now

-- the state before the first event
abbrev pub new_core : Protocols → Held → WsCore
new_core spoken connection = record {
  protocol = spoken;
  connection = connection;
  stage = stage.New;
  ping = false;
  live = [];
  starts = 0;
  closed = false;
}

-- the steps of a list of events, and the state after them
abbrev pub steps_from : WsCore → List WsEvent → List Step
steps_from core [] = []
steps_from core (now ∷ events) = (ws_step core now).1 ∷ steps_from (ws_step core now).0 events

abbrev pub after : WsCore → List WsEvent → WsCore
after core [] = core
after core (now ∷ events) = after (ws_step core now).0 events

abbrev pub session_at : WsCore → Stage → Option Held
session_at core stage.Acknowledged = Some core.connection
session_at core stage.New = None
session_at core stage.Initialising = None

-- the data of the session, where its client is acknowledged
abbrev pub session_of : WsCore → Option Held
session_of core = session_at core core.stage

-- a step with its message written
abbrev pub shown : Step → WsStep
shown step = record { out = option_map message_of step.out; job = step.job }

-- that a call gives an outcome, or leaves the state as it was where memory runs out
abbrev pub Gives : {E : Type 0} → WsCore → Result WsStep E → WsCore → Outcome → Type 0
Gives old (Ok step) core outcome = (step ≡ shown outcome.1) × (core ≡ outcome.0)
Gives old (Err wanting) core outcome = core ≡ old
