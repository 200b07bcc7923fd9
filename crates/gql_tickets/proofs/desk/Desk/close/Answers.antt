use Rattle.std.proofs.Common.{◌≡◌, ◌∙◌, ap, sym, subst, length, arith}
use Rattle.gql_tickets.specs.Journals.{IsAt}
use Rattle.gql_tickets.specs.Turns.{AllBelow, AreAll}
use Rattle.gql_tickets.proofs.ClosingLemmas.{all_told, ends, not_none, some_same, taken_is}
use Rattle.gql_tickets.proofs.desk.Desk.close.Goals as goal

pub unreachable-requires : goal.unreachable-requires
unreachable-requires g c =
    let made = c.args.self.seats in let all = c.requires.all in let many = c.gathered-all.ensures.many in
    let whole : length c.gathered-all.result.me.0.parts ≡ c.args.self.board.shared.key.seats = omega arith in
    let f = ends g.A.Journaled.caller (IsAt g.A.Journaled) c.args.self.board.shared.key.first.value
    c.args.self.board.shared.key.seats c.gathered-all.result.id c.gathered-all.result.me.0 _ _
    c.gathered-all.ensures.quiet whole c.close_with-closed.ensures.values.2 in
    not_none f.thing (sym (taken_is _ f.thing c.take-slot.result f.there c.take-slot.ensures.value) ∙ c.in-None.is)

pub returns-clause-from : goal.returns-clause-from
returns-clause-from g c =
    let made = c.args.self.seats in let all = c.requires.all in let many = c.gathered-all.ensures.many in
    let whole : length c.gathered-all.result.me.0.parts ≡ c.args.self.board.shared.key.seats = omega arith in
    let f = ends g.A.Journaled.caller (IsAt g.A.Journaled) c.args.self.board.shared.key.first.value
    c.args.self.board.shared.key.seats c.gathered-all.result.id c.gathered-all.result.me.0 _ _
    c.gathered-all.ensures.quiet whole c.close_with-closed.ensures.values.2 in
    let thing : f.thing ≡ c.in-Some.thing = some_same f.thing c.in-Some.thing
    (sym (taken_is _ f.thing c.take-slot.result f.there c.take-slot.ensures.value) ∙ c.in-Some.is) in
    subst (λ t. g.A.Journaled.is_from c.args.self.board.shared.key.first.value t) thing f.is.from

pub returns-clause-callers : goal.returns-clause-callers
returns-clause-callers g c =
    let made = c.args.self.seats in let all = c.requires.all in let many = c.gathered-all.ensures.many in
    let whole : length c.gathered-all.result.me.0.parts ≡ c.args.self.board.shared.key.seats = omega arith in
    let f = ends g.A.Journaled.caller (IsAt g.A.Journaled) c.args.self.board.shared.key.first.value
    c.args.self.board.shared.key.seats c.gathered-all.result.id c.gathered-all.result.me.0 _ _
    c.gathered-all.ensures.quiet whole c.close_with-closed.ensures.values.2 in
    let thing : f.thing ≡ c.in-Some.thing = some_same f.thing c.in-Some.thing
    (sym (taken_is _ f.thing c.take-slot.result f.there c.take-slot.ensures.value) ∙ c.in-Some.is) in
    subst (λ n. AllBelow g.A.Journaled.caller n (g.A.Journaled.journal c.in-Some.thing)) made
    (subst (λ l. AllBelow g.A.Journaled.caller c.args.self.board.shared.key.seats l)
    (sym f.is.log_is ∙ ap g.A.Journaled.journal thing) f.below)

pub returns-clause-told : goal.returns-clause-told
returns-clause-told g c =
    let made = c.args.self.seats in let all = c.requires.all in let many = c.gathered-all.ensures.many in
    let whole : length c.gathered-all.result.me.0.parts ≡ c.args.self.board.shared.key.seats = omega arith in
    let f = ends g.A.Journaled.caller (IsAt g.A.Journaled) c.args.self.board.shared.key.first.value
    c.args.self.board.shared.key.seats c.gathered-all.result.id c.gathered-all.result.me.0 _ _
    c.gathered-all.ensures.quiet whole c.close_with-closed.ensures.values.2 in
    let thing : f.thing ≡ c.in-Some.thing = some_same f.thing c.in-Some.thing
    (sym (taken_is _ f.thing c.take-slot.result f.there c.take-slot.ensures.value) ∙ c.in-Some.is) in
    let log = g.A.Journaled.journal c.in-Some.thing in
    all_told g.A.Journaled.caller log c.args.seats.items
    (c.gathered-all.ensures.all log
    (subst (λ l. AreAll g.A.Journaled.caller l c.gathered-all.result.me.0.parts)
    (sym f.is.log_is ∙ ap g.A.Journaled.journal thing) f.all))
