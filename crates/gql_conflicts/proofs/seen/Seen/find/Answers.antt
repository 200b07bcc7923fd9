use Rattle.std.proofs.Common.{subst}
use Rattle.std.specs.Option.{IfSome}
use Rattle.gql_conflicts.specs.Seen.{HasSeen}
use Rattle.gql_conflicts.proofs.seen.Seen.find.Goals as goal

pub returns-in-Some : goal.returns-in-Some
returns-in-Some c =
    subst (λ visits. IfSome c.found_from.result (HasSeen visits c.args.merged.now)) c.as_slice-visits.ensures.value c.found_from.ensures
