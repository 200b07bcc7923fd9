use Rattle.std.proofs.Common.{refl}
use Rattle.gql_conflicts.specs.declared.walked.Walked.{Walked}
use Rattle.gql_conflicts.proofs.WalkedLemmas.{keeps_added}
use Rattle.gql_conflicts.proofs.walked.Walked.remember.Goals as goal

pub returns : goal.returns
returns c =
    let now = c.pair_up.new.self in
    let new : Walked = record { found = now.found; seen = c.add.new.self; pairs = now.pairs } in
    λ reader. keeps_added reader c.args.merged c.args.clean c.args.self.now now new c.in_ok-pair_up.ensures refl refl c.in_ok-add.ensures
