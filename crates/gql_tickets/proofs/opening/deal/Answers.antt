use Rattle.std.proofs.Common.{◌≡◌, ◌+◌, ◌∙◌, ap, sym, subst, refl, length, arith}
use Rattle.gql_tickets.specs.Desks.{AreNew, ArePlacedAt}
use Rattle.gql_tickets.specs.Turns.{AreFrom, number_in, seen_in}
use Rattle.gql_tickets.proofs.OpeningLemmas.{new_snoc, next, placed_snoc}
use Rattle.gql_tickets.proofs.opening.deal.Goals as goal

pub invariant_of-push : goal.invariant_of-push
invariant_of-push g c = let i = c.loop-number.invariant in let e = c.split-one.ensures in
    let d = next c.args.board.now.shared.key.first.value c.loop-number.number i.0 c.args.seats c.loop-number.place.me
    c.split-one.new.place.me c.split-one.result.me i.1 c.loop-number-test.true i.2 e.left e.right.1 in record {
      one = ap (λ x. length x.0.parts) d.right_is;
      number_is = ap (λ x. number_in x.0.parts) d.right_is;
      waits = ap (λ x. x.0.waits) d.right_is;
      out = ap (λ x. x.0.out) d.right_is;
      empty = ap (λ x. length x.1) d.right_is;
      drew = ap (λ x. x.0.drew) d.right_is;
    }

pub loop-number-preserved : goal.loop-number-preserved
loop-number-preserved g c = let i = c.loop-number.invariant in let e = c.split-one.ensures in
    let first = c.args.board.now.shared.key.first.value in let table = c.args.board.now.shared.table_id in
    let d = next first c.loop-number.number i.0 c.args.seats c.loop-number.place.me c.split-one.new.place.me
    c.split-one.result.me i.1 c.loop-number-test.true i.2 e.left e.right.1 in
    let items = c.in_ok-push.ensures.items in let many = c.in_ok-push.ensures.len in let before = i.4 in
    let ok = c.loop-number.dealt.ok in
    let place : 0 + length c.loop-number.dealt.items ≡ c.loop-number.number = omega arith in (
      d.rest,
      d.sum,
      d.left_is,
      e.same.0 ∙ i.3,
      omega arith,
      subst (ArePlacedAt table first) (sym items) (placed_snoc table first c.loop-number.dealt.items _ i.5
          (record { table_is = e.right.0 ∙ i.3; from = subst (λ x. AreFrom first x.0.parts) (sym d.right_is) (refl, tt) })),
      subst (AreNew 0) (sym items) (new_snoc 0 c.loop-number.number c.loop-number.dealt.items _ place i.6
          (record { number_is = refl; calls = refl; seen = ap (λ x. seen_in x.0.parts) d.right_is })),
    )
