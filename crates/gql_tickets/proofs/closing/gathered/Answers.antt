use Rattle.std.proofs.Common.{◌≡◌, ◌∙◌, ◌+◌, ap, sym, subst, length, length-append, arith}
use Rattle.gql_tickets.specs.Desks.{ArePlacedAt, parts_at}
use Rattle.gql_tickets.specs.Turns.{AreAll}
use Rattle.gql_tickets.proofs.ClosingLemmas.{all_left, all_right, all_snoc, placed_front, placed_last}
use Rattle.gql_tickets.proofs.TakingLemmas.{no_items}
use Rattle.gql_tickets.proofs.closing.gathered.Goals as goal

pub loop-seat-init : goal.loop-seat-init
loop-seat-init g c = let e = c.in-Some.ensures in let seat = c.in-Some.seat in let place = c.into_place-all.ensures in
    let by = g.A.Journaled.caller in
    let table = c.args.board.now.shared.table_id in let first = c.args.board.now.shared.key.first.value in
    let all = subst (ArePlacedAt table first) e.items c.requires.seats in
    let one : length c.into_place-all.result.me.0.parts ≡ 1 = ap (λ p. length p.me.0.parts) place ∙ seat.one in
    let less = e.cases in (
      ap (λ p. p.table_id) place ∙ (placed_last table first c.pop.new.self.items seat all).table_is,
      record { waits = ap (λ p. p.me.0.waits) place ∙ seat.waits; out = ap (λ p. p.me.0.out) place ∙ seat.out },
      omega arith,
      placed_front table first c.pop.new.self.items seat all,
      λ log a b. subst (λ l. AreAll by log (parts_at l)) (sym e.items)
          (all_snoc by log c.pop.new.self.items seat b (subst (λ p. AreAll by log p.me.0.parts) place a)),
    )

pub join-requires-clause-seat : goal.join-requires-clause-seat
join-requires-clause-seat g c = let e = c.in-Some-pop.ensures in let seat = c.in-Some-pop.seat in
    let i = c.loop-seat.invariant in
    let table = c.args.board.now.shared.table_id in let first = c.args.board.now.shared.key.first.value in (
      i.0,
      ap (λ p. p.table_id) c.into_place.ensures
          ∙ (placed_last table first c.pop-in-loop-seat.new.self.items seat (subst (ArePlacedAt table first) e.items i.3)).table_is,
    )

pub loop-seat-preserved : goal.loop-seat-preserved
loop-seat-preserved g c = let e = c.in-Some-pop.ensures in let seat = c.in-Some-pop.seat in let i = c.loop-seat.invariant in
    let by = g.A.Journaled.caller in
    let place = c.into_place.ensures in let both = c.join.ensures.both in
    let table = c.args.board.now.shared.table_id in let first = c.args.board.now.shared.key.first.value in
    let ps = c.loop-seat.all.me.0.parts in let qs = c.into_place.result.me.0.parts in
    let one : length qs ≡ 1 = ap (λ p. length p.me.0.parts) place ∙ seat.one in
    let less = e.cases in let many = i.2 in
    let longer : length c.join.new.place.me.0.parts ≡ length ps + length qs
    = ap (λ m. length m.0.parts) both ∙ length-append ps qs in (
      c.join.ensures.same.0 ∙ i.0,
      record { waits = ap (λ m. m.0.waits) both; out = ap (λ m. m.0.out) both },
      omega arith,
      placed_front table first c.pop-in-loop-seat.new.self.items seat (subst (ArePlacedAt table first) e.items i.3),
      λ log a b. let a' = subst (λ m. AreAll by log m.0.parts) both a in
          i.4 log (all_left by log ps qs a') (subst (λ l. AreAll by log (parts_at l)) (sym e.items)
          (all_snoc by log c.pop-in-loop-seat.new.self.items seat b
          (subst (λ p. AreAll by log p.me.0.parts) place (all_right by log ps qs a')))),
    )

pub returns-clause-all : goal.returns-clause-all
returns-clause-all g c = λ log a. c.loop-seat.invariant.4 log a
    (subst (λ l. AreAll g.A.Journaled.caller log (parts_at l))
    (sym (no_items c.loop-seat.seats.items (let ok = c.loop-seat.seats.ok in let none = c.in_default.ensures.cases.0 in omega arith)))
    tt)
