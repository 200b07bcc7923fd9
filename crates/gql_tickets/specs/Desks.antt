-- Desks and their seats, as a caller sees them.
use Rattle.std.specs.Prelude.{◌≡◌, ◌+◌, ◌++◌, ℕ, List, [], ◌∷◌}
use Rattle.atomic_table.specs.Seated.{TableId}
use Rattle.gql_tickets.specs.declared.desk.Desk.{Desk}
use Rattle.gql_tickets.specs.declared.desk_seat.DeskSeat.{DeskSeat}
use Rattle.gql_tickets.specs.declared.view.Part.{Part}
use Rattle.gql_tickets.specs.Turns.{AreFrom, entries_by, seen_in}

module _ {A E : Type 0} where
  -- how many calls a seat made
  abbrev pub calls_of : DeskSeat A E → ℕ
  calls_of seat = seat.calls

  -- its number, by which entries name their caller
  abbrev pub number_of : DeskSeat A E → ℕ
  number_of seat = seat.number

  -- the front of the journal that it has seen
  abbrev pub seen_by : DeskSeat A E → List E
  seen_by seat = seen_in seat.place.me.0.parts

  -- a seat of the desk with this table, whose thing was this one at first
  pub record IsPlacedAt (table : TableId) (first : A) (seat : DeskSeat A E) : Type 0 where
    pub table_is : seat.place.table_id ≡ table
    pub from : AreFrom first seat.place.me.0.parts

  abbrev pub ArePlacedAt : TableId → A → List (DeskSeat A E) → Type 0
  ArePlacedAt table first [] = Unit {0}
  ArePlacedAt table first (seat ∷ seats) =
      IsPlacedAt table first seat × ArePlacedAt table first seats

  -- a seat of this number that made no call and has seen nothing
  pub record IsNew (number : ℕ) (seat : DeskSeat A E) : Type 0 where
    pub number_is : number_of seat ≡ number
    pub calls : calls_of seat ≡ 0
    pub seen : seen_by seat ≡ []

  -- numbered from one on
  abbrev pub AreNew : ℕ → List (DeskSeat A E) → Type 0
  AreNew start [] = Unit {0}
  AreNew start (seat ∷ seats) = IsNew start seat × AreNew (start + 1) seats

  -- the parts of all
  abbrev pub parts_at : List (DeskSeat A E) → List (Part A E)
  parts_at [] = []
  parts_at (seat ∷ seats) = seat.place.me.0.parts ++ parts_at seats

  -- of each seat a journal has just the entries that the seat saw as its own
  abbrev pub AreAllTold : (E → ℕ) → List E → List (DeskSeat A E) → Type 0
  AreAllTold by log [] = Unit {0}
  AreAllTold by log (seat ∷ seats) =
      (entries_by by (number_of seat) log ≡ entries_by by (number_of seat) (seen_by seat))
      × AreAllTold by log seats

  abbrev pub table_of : Desk A E → TableId
  table_of desk = desk.board.shared.table_id

  -- its thing as it was at first
  abbrev pub origin_of : Desk A E → A
  origin_of desk = desk.board.shared.key.first.value

  -- how many seats were made for it
  abbrev pub made_at : Desk A E → ℕ
  made_at desk = desk.made

  -- a seat of this desk
  abbrev pub IsSeatOf : Desk A E → DeskSeat A E → Type 0
  IsSeatOf desk seat = IsPlacedAt (table_of desk) (origin_of desk) seat

  abbrev pub AreSeatsOf : Desk A E → List (DeskSeat A E) → Type 0
  AreSeatsOf desk seats = ArePlacedAt (table_of desk) (origin_of desk) seats
