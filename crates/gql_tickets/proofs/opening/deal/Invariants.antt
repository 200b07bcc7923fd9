use Rattle.std.proofs.Common.{◌≡◌, ◌+◌, ℕ, [], vec_len}
use Rattle.gql_tickets.specs.Desks.{AreNew, ArePlacedAt}
use Rattle.gql_tickets.specs.Turns.{from, idle_view}
use Rattle.gql_tickets.proofs.opening.deal.Given as goal

abbrev pub invariant-loop-number : goal.invariant-loop-number
invariant-loop-number g l = (m : ℕ) × (m + l.number ≡ l.fn.seats)
    × (l.place.me ≡ (idle_view (from l.fn.board.shared.key.first.value l.number m) 0, []))
    × (l.place.table_id ≡ l.fn.board.shared.table_id)
    × (vec_len l.dealt ≡ l.number)
    × ArePlacedAt l.fn.board.shared.table_id l.fn.board.shared.key.first.value l.dealt.items
    × AreNew 0 l.dealt.items
