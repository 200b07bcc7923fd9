-- Seats of services, and what they counted.
use Rattle.std.specs.Prelude.{◌+◌, ℕ, List, [], ◌∷◌}
use Rattle.gql_serve.specs.declared.seat.Seat.{Seat}

-- how many calls of a seat left an entry
abbrev pub entries_of : {L : Type 0} → Seat L → ℕ
entries_of seat = seat.count

-- its number, by which the journal's entries name their caller
abbrev pub number_of : {L : Type 0} → Seat L → ℕ
number_of seat = seat.number

-- how many calls of all these seats did
abbrev pub counted : {L : Type 0} → List (Seat L) → ℕ
counted [] = 0
counted (seat ∷ seats) = entries_of seat + counted seats
