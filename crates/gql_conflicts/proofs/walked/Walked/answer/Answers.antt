use Rattle.std.proofs.Common.{subst}
use Rattle.std.specs.Option.{IfSome}
use Rattle.gql_conflicts.specs.Seen.{HasSeen}
use Rattle.gql_conflicts.proofs.WalkedLemmas.{walks_seen}
use Rattle.gql_conflicts.proofs.walked.Walked.answer.Goals as goal

pub returns-in-Some : goal.returns-in-Some
returns-in-Some c =
    let seen = subst (λ found. IfSome found (HasSeen c.args.self.now.seen.visits.items c.args.merged.now)) c.in-Some.is c.find.ensures in
    λ reader. walks_seen reader c.args.self.now c.args.merged.now c.in-Some.clean seen
