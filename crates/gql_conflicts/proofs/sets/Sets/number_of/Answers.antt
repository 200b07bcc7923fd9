use Rattle.std.proofs.Common.{subst}
use Rattle.std.specs.Option.{IfSome}
use Rattle.gql_conflicts.specs.Sets.{HasNumber}
use Rattle.gql_conflicts.proofs.sets.Sets.number_of.Goals as goal

pub returns-in-Some : goal.returns-in-Some
returns-in-Some c =
    subst (λ known. IfSome c.number_from.result (HasNumber known c.args.field.now)) c.as_slice-known.ensures.value c.number_from.ensures
