use Rattle.std.proofs.Common.{◌≡◌, ◌+◌, length, vec_len}
use Rattle.gql_tickets.specs.Desks.{ArePlacedAt, parts_at}
use Rattle.gql_tickets.specs.Turns.{AreAll, IsQuiet}
use Rattle.gql_tickets.proofs.closing.gathered.Given as goal

abbrev pub invariant-loop-seat : goal.invariant-loop-seat
invariant-loop-seat g l = (l.all.table_id ≡ l.fn.board.shared.table_id)
    × IsQuiet l.all.me.0
    × (length l.all.me.0.parts + vec_len l.seats ≡ vec_len l.fn.seats)
    × ArePlacedAt l.fn.board.shared.table_id l.fn.board.shared.key.first.value l.seats.items
    × ((log : _) → AreAll g.A.Journaled.caller log l.all.me.0.parts
    → AreAll g.A.Journaled.caller log (parts_at l.seats.items)
    → AreAll g.A.Journaled.caller log (parts_at l.fn.seats.items))

abbrev pub decreases-loop-seat : goal.decreases-loop-seat
decreases-loop-seat g l = vec_len l.seats
