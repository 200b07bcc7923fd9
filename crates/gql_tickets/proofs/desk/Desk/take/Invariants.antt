use Rattle.std.proofs.Common.{◌≡◌}
use Rattle.gql_tickets.specs.Turns.{draws}
use Rattle.gql_tickets.proofs.desk.Desk.take.Given as goal

abbrev pub invariant-loop : goal.invariant-loop
invariant-loop g l = (goal.iterator-loop g).can_next l.iterator' × (goal.iterator-loop g).is_finite l.iterator'
    × (l.place.table_id ≡ l.fn.place.table_id) × (l.place.id ≡ l.fn.place.id)
    × (l.place.me ≡ (draws l.fn.place.me.0 l.ticket, l.fn.place.me.1))
