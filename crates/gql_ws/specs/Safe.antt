-- What a client can rely on, over whole lists of events. It knows no table of live starts, but only
-- what went before.
use Rattle.std.specs.Prelude.{◌≡◌, ℕ, ◌+◌, ◌==◌, nat_le, Bool, true, false, not, ◌&&◌, ◌||◌}
use Rattle.std.specs.Prelude.{List, [], ◌∷◌, Option, Some, None, Ok, bytes_eq, is_some}
use Rattle.std.specs.Prelude.{if◌then◌else◌}
use Rattle.gql_protocols.specs.declared.protocols.Protocols.{Protocols}
use Rattle.gql_ws.specs.Frames.{Frame}
use Rattle.gql_ws.specs.Frames as frame
use Rattle.gql_ws.specs.Session.{Held, Step, limit, delivery, is_graphql, refused_message}
use Rattle.gql_ws.specs.Session.{after, new_core, session_of, steps_from, ws_step}
use Rattle.gql_ws.specs.declared.client_message.ClientMessage.TheVariants as message
use Rattle.gql_ws.specs.declared.job.Job.{Job}
use Rattle.gql_ws.specs.declared.job.Job.TheVariants as job
use Rattle.gql_ws.specs.declared.session.WsCore.{WsCore}
use Rattle.gql_ws.specs.declared.ws_event.WsEvent.{WsEvent}
use Rattle.gql_ws.specs.declared.ws_event.WsEvent.TheVariants as event

-- an event with its step
abbrev pub Moment : Type 0
Moment = WsEvent × Step

-- What a message is.

abbrev pub is_ack : Option Frame → Bool
is_ack (Some frame.Ack) = true
is_ack other = false

-- a data, next, error or complete message
abbrev pub is_delivery : Option Frame → Bool
is_delivery (Some (frame.Data id response)) = true
is_delivery (Some (frame.Next id response)) = true
is_delivery (Some (frame.Error id errors)) = true
is_delivery (Some (frame.Complete id)) = true
is_delivery other = false

-- a Close or connection_error message
abbrev pub is_last : Option Frame → Bool
is_last (Some (frame.Failed text)) = true
is_last (Some (frame.Close code text)) = true
is_last other = false

-- What a job is.

abbrev pub is_start_job : Job → Bool
is_start_job (job.Start number id request replaced) = true
is_start_job other = false

-- a start of this id, and one of this number too
abbrev pub starts_id : List ℕ → Job → Bool
starts_id id (job.Start k i request replaced) = bytes_eq i id
starts_id id other = false

abbrev pub starts_as : ℕ → List ℕ → Job → Bool
starts_as number id (job.Start k i request replaced) = (k == number) && bytes_eq i id
starts_as number id other = false

-- What an event is.

abbrev pub is_start_event : WsEvent → Bool
is_start_event (event.Message (Ok (message.Start id request))) = true
is_start_event other = false

-- a termination, or the inbox's end
abbrev pub is_goodbye : WsEvent → Bool
is_goodbye (event.Message (Ok message.ConnectionTerminate)) = true
is_goodbye event.InboxEnded = true
is_goodbye other = false

-- an end of this number, a refusal of it under the newer protocol, or a stop of this id
abbrev pub is_end : Protocols → ℕ → List ℕ → WsEvent → Bool
is_end spoken number id (event.Ended k) = k == number
is_end spoken number id (event.Refused k errors) = is_graphql spoken && (k == number)
is_end spoken number id (event.Message (Ok (message.Stop i))) = bytes_eq i id
is_end spoken number id other = false

-- Of moments that are past, the latest first.

-- how many starts were made
abbrev pub starts : List Moment → ℕ
starts [] = 0
starts (m ∷ past) = if is_start_job m.1.job then starts past + 1 else starts past

-- whether there was an acknowledgement
abbrev pub acknowledged : List Moment → Bool
acknowledged [] = false
acknowledged (m ∷ past) = is_ack m.1.out || acknowledged past

-- whether a moment closes the session: by its message, by a goodbye, or by one start too many
abbrev pub closes : List Moment → Moment → Bool
closes past m =
    is_last m.1.out || (is_goodbye m.0 || (is_start_event m.0 && nat_le limit (starts past)))

abbrev pub closed : List Moment → Bool
closed [] = false
closed (m ∷ past) = closes past m || closed past

-- whether the start of a number and an id is live: from its job until the first end of the number,
-- refusal of it under the newer protocol, stop of the id, later start of the id, or close
abbrev pub is_live : Protocols → ℕ → List ℕ → List Moment → Bool
is_live spoken number id [] = false
is_live spoken number id (m ∷ past) =
    starts_as number id m.1.job
    || (not (is_end spoken number id m.0 || (starts_id id m.1.job || closes past m))
    && is_live spoken number id past)

-- what is owed to a response, a refusal or an end of a live start, and to a stop of a live id
abbrev pub Answers : Protocols → List Moment → WsEvent → Option Frame → Type 0
Answers spoken past (event.Item number response) out =
    (id : List ℕ) → is_live spoken number id past ≡ true
    → out ≡ Some (delivery spoken id response)
Answers spoken past (event.Refused number errors) out =
    (id : List ℕ) → is_live spoken number id past ≡ true
    → out ≡ Some (refused_message spoken id errors)
Answers spoken past (event.Ended number) out =
    (id : List ℕ) → is_live spoken number id past ≡ true → out ≡ Some (frame.Complete id)
Answers spoken past (event.Message (Ok (message.Stop id))) out =
    (number : ℕ) → is_live spoken number id past ≡ true → out ≡ Some (frame.Complete id)
Answers spoken past other out = Unit {0}

-- a response, a refusal or an end of a live start, or a stop of a live id
abbrev pub IsOfLive : Protocols → List Moment → WsEvent → Type 0
IsOfLive spoken past (event.Item number response) =
    (id : List ℕ) × (is_live spoken number id past ≡ true)
IsOfLive spoken past (event.Refused number errors) =
    (id : List ℕ) × (is_live spoken number id past ≡ true)
IsOfLive spoken past (event.Ended number) =
    (id : List ℕ) × (is_live spoken number id past ≡ true)
IsOfLive spoken past (event.Message (Ok (message.Stop id))) =
    (number : ℕ) × (is_live spoken number id past ≡ true)
IsOfLive spoken past other = ⊥

-- a step that is right after what went before
pub record IsSafe (spoken : Protocols) (past : List Moment) (now : WsEvent) (step : Step)
    : Type 0 where
  -- there is one acknowledgement at most, and nothing of a start before it
  pub one_acknowledgement : is_ack step.out ≡ true → acknowledged past ≡ false
  pub acknowledged_first :
      (is_delivery step.out || is_start_job step.job) ≡ true → acknowledged past ≡ true
  -- starts are numbered from 0 on, and under the newer protocol none has a live id
  pub numbered :
      (number : ℕ) → (id : List ℕ) → starts_as number id step.job ≡ true → number ≡ starts past
  pub fresh :
      is_graphql spoken ≡ true → (id : List ℕ) → starts_id id step.job ≡ true → (number : ℕ)
      → is_live spoken number id past ≡ false
  -- what belongs to a live start goes out under its id, and nothing else does
  pub answered : Answers spoken past now step.out
  pub nothing_else : is_delivery step.out ≡ true → IsOfLive spoken past now
  -- nothing comes after a close
  pub silent_after_close : closed past ≡ true → (step.out ≡ None) × (step.job ≡ job.Nothing)

abbrev pub SafeAfter : Protocols → List Moment → List WsEvent → List Step → Type 0
SafeAfter spoken past [] [] = Unit {0}
SafeAfter spoken past [] (step ∷ steps) = ⊥
SafeAfter spoken past (now ∷ events) [] = ⊥
SafeAfter spoken past (now ∷ events) (step ∷ steps) =
    IsSafe spoken past now step × SafeAfter spoken ((now, step) ∷ past) events steps

-- as many steps as events, each right after what went before
abbrev pub Safe : Protocols → List WsEvent → List Step → Type 0
Safe spoken events steps = SafeAfter spoken [] events steps

-- the law: a session's steps are safe, whatever its protocol, its data and its events are
abbrev pub EverySessionIsSafe : Type 0
EverySessionIsSafe =
    (spoken : Protocols) → (connection : Held) → (events : List WsEvent)
    → Safe spoken events (steps_from (new_core spoken connection) events)

-- the moments of a list of events, after those that are past, the latest first
abbrev pub past_after : List Moment → WsCore → List WsEvent → List Moment
past_after past core [] = past
past_after past core (now ∷ events) =
    past_after ((now, (ws_step core now).1) ∷ past) (ws_step core now).0 events

-- the law: the data of a session are there exactly once there was an acknowledgement
abbrev pub DataOnceAcknowledged : Type 0
DataOnceAcknowledged =
    (spoken : Protocols) → (connection : Held) → (events : List WsEvent)
    → is_some (session_of (after (new_core spoken connection) events))
    ≡ acknowledged (past_after [] (new_core spoken connection) events)
