-- The kind of a message is read off its text.
use Rattle.std.proofs.Common.{◌≡◌, ℕ, List, get_or, refl, sym, ap, ◌∙◌}
use Rattle.std.specs.Prelude.{◌==◌, Some, None, if◌then◌else◌}
use Rattle.gql_ws.specs.Frames.{Frame, Kind, kind_of, message_of, acknowledgement, failure, data_message, next_message, error_message}
use Rattle.gql_ws.specs.Frames.{complete_message, pong_message, close_message}
use Rattle.gql_ws.specs.Frames as frame
use Rattle.gql_ws.specs.Kinds.{KindsDiffer}
use Rattle.gql_ws.specs.declared.ws_message.WsMessage.{WsMessage}
use Rattle.gql_ws.specs.declared.ws_message.WsMessage.TheVariants as written

-- of the texts whose type begins with `c`: `complete`, or one of the connection
abbrev by_third : List ℕ → Kind
by_third text =
    if get_or text 11 0 == 109 then complete_message
    else (if get_or text 20 0 == 97 then acknowledgement else failure)

-- by the first letter of the type, after `{"type":"`
abbrev by_first : List ℕ → Kind
by_first text =
    if get_or text 9 0 == 100 then data_message
    else (if get_or text 9 0 == 110 then next_message
    else (if get_or text 9 0 == 101 then error_message
    else (if get_or text 9 0 == 112 then pong_message else by_third text)))

abbrev kind_read : WsMessage → Kind
kind_read (written.Text text) = by_first text
kind_read (written.Close code reason) = close_message

reads : (f : Frame) → kind_read (message_of f) ≡ kind_of f
reads frame.Ack = refl
reads (frame.Failed text) = refl
reads (frame.Data id response) = refl
reads (frame.Next id response) = refl
reads (frame.Error id errors) = refl
reads (frame.Complete id) = refl
reads (frame.Pong None) = refl
reads (frame.Pong (Some payload)) = refl
reads (frame.Close code text) = refl

pub kinds_differ : KindsDiffer
kinds_differ a b e = sym (reads a) ∙ (ap kind_read e ∙ reads b)
