-- What seats counted together.
use Rattle.std.proofs.Common.{◌≡◌, ◌+◌, ◌++◌, List, [], ◌∷◌, arith}
use Rattle.gql_serve.specs.Seats.{counted, entries_of}
use Rattle.gql_serve.specs.declared.seat.Seat.{Seat}

pub counted_snoc : {L : Type 0} (seats : List (Seat L)) (seat : Seat L) → counted (seats ++ seat ∷ []) ≡ counted seats + entries_of seat
counted_snoc [] seat = omega arith
counted_snoc (first ∷ seats) seat = let e = counted_snoc seats seat in omega arith
