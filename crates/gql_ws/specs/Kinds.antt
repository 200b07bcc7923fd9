-- That the texts of two kinds of messages are never equal.
use Rattle.std.specs.Prelude.{◌≡◌}
use Rattle.gql_ws.specs.Frames.{Frame, kind_of, message_of}

abbrev pub KindsDiffer : Type 0
KindsDiffer = (a : Frame) → (b : Frame) → message_of a ≡ message_of b → kind_of a ≡ kind_of b
