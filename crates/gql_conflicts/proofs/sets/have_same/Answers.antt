use Rattle.std.proofs.Common.{subst}
use Rattle.std.specs.Option.{IfSome}
use Rattle.gql_conflicts.specs.Sets.{IsSole}
use Rattle.gql_conflicts.proofs.MergedLemmas.{sets_same}
use Rattle.gql_conflicts.proofs.sets.have_same.Goals as goal

pub returns-in-None : goal.returns-in-None
returns-in-None c = λ so. sets_same c.args.one.now c.args.other.now (c.same_set.ensures so)

pub returns-in-Some : goal.returns-in-Some
returns-in-Some c =
    c.have_spread.ensures (subst (λ found. IfSome found (λ spread. IsSole spread.now c.args.one.now)) c.in-Some.is c.sole_spread.ensures)
