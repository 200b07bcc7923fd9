use Rattle.std.proofs.Common.{ap, ◌∙◌}
use Rattle.gql_tickets.specs.Journals.{IsAt}
use Rattle.gql_tickets.proofs.TakingLemmas.{one_part, takes_has}
use Rattle.gql_tickets.proofs.desk.Desk.take.Goals as goal

pub draw-ticket-requires-clause-one : goal.draw-ticket-requires-clause-one
draw-ticket-requires-clause-one g c = one_part c.args.place.now.me.0.parts c.requires.one

pub look-turn-requires-clause-one : goal.look-turn-requires-clause-one
look-turn-requires-clause-one g c = let p = one_part c.args.place.now.me.0.parts c.requires.one in
    (p.0, ap (λ m. m.0.parts) c.loop.invariant.4 ∙ p.1)

pub returns-then-turn-ticket-clause-has : goal.returns-then-turn-ticket-clause-has
returns-then-turn-ticket-clause-has g c =
    takes_has g.A.Journaled.caller (IsAt g.A.Journaled) c.args.place.now.me c.loop.place.me c.look-turn.new.place.me
    c.draw-ticket.result c.look-turn.result c.requires.empty c.loop.invariant.4 c.look-turn.ensures.told c.if-turn-ticket.true
