use Rattle.std.proofs.Common.{◌≡◌, true, false, subst}
use Rattle.std.specs.Option.{IfSome}
use Rattle.gql_conflicts.specs.Sets.{IsSole}
use Rattle.gql_conflicts.proofs.MergedLemmas.{sole_same}
use Rattle.gql_conflicts.proofs.sets.have_spread.Goals as goal

pub returns-in-None : goal.returns-in-None
returns-in-None c = λ sole so. absurd (let bad : false ≡ true = so in cc)

pub returns-in-Some : goal.returns-in-Some
returns-in-Some c =
    let second = subst (λ found. IfSome found (λ spread. IsSole spread.now c.args.other.now)) c.in-Some.is c.sole_spread.ensures in
    λ sole so.
    sole_same c.args.spread.now c.in-Some.second.now c.args.one.now c.args.other.now sole second (c.spread_same.ensures so)
