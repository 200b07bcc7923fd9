use Rattle.gql_tickets.specs.Journals.{IsAt}
use Rattle.gql_tickets.proofs.LeavingLemmas.{give_back, leaves}
use Rattle.gql_tickets.proofs.desk.Desk.leave_counted.Goals as goal

pub pass-requires-clause-kept : goal.pass-requires-clause-kept
pass-requires-clause-kept g c = give_back g.A.Journaled.caller (IsAt g.A.Journaled) c.args.place.now.me c.count.new.place.me
    c.count.result c.count.ensures.told

pub returns-clause-told : goal.returns-clause-told
returns-clause-told g c = leaves g.A.Journaled.caller (IsAt g.A.Journaled) c.args.place.now.me c.count.new.place.me
    c.count.result c.count.ensures.told c.pass.new.place.me c.pass.result c.pass.ensures.told
