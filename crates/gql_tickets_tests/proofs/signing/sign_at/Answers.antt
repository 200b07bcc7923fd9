use Rattle.std.proofs.Common.{ap, ◌∙◌}
use Rattle.gql_tickets.specs.Turns.{number_in}
use Rattle.gql_tickets.proofs.LeavingLemmas.{none_more, one_more}
use Rattle.gql_tickets_tests.specs.contracts.guestbook.GuestbookJournaledLine.TheImpl as journaling
use Rattle.gql_tickets_tests.proofs.SigningLemmas.{wrote_none, wrote_one}
use Rattle.gql_tickets_tests.proofs.signing.sign_at.Goals as goal

pub write_there-requires-clause-has : goal.write_there-requires-clause-has
write_there-requires-clause-has g c = let h = c.take.ensures.has in (h.2.taken, ap (λ n. n.1) h.2.is)

pub leave_counted-requires-clause-one : goal.leave_counted-requires-clause-one
leave_counted-requires-clause-one g c = let h = c.take.ensures.has in let s = c.write_there.ensures.told in
    let e = wrote_one c.args.guest s.0 s.1 c.write_there.result c.if-write_there.true s.4 in
    one_more journaling.ghosts h.0 c.args.place.now.me.0 c.take.new.place.me c.write_there.new.place.me h.2 c.write_there.ensures.same.2
    s.0 s.1 s.2 s.3 e.0 (e.1 ∙ (c.requires.guest ∙ ap number_in h.1)) tt e.2 e.3

pub leave-requires-clause-kept : goal.leave-requires-clause-kept
leave-requires-clause-kept g c = let h = c.take.ensures.has in let s = c.write_there.ensures.told in
    none_more journaling.ghosts h.0 c.args.place.now.me.0 c.take.new.place.me c.write_there.new.place.me h.2 c.write_there.ensures.same.2
    s.0 s.1 s.2 s.3 tt (wrote_none c.args.guest s.0 s.1 c.write_there.result c.if-write_there.false s.4)
