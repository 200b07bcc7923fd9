use Rattle.std.proofs.Common.{arith, ◌≡◌, subst}
use Rattle.gql_rules.specs.AlikeOperations.{AreEmpty}
use Rattle.gql_rules.proofs.reached_uses.no_starts.Goals as goal

pub returns : goal.returns
returns c =
    let over : c.loop-place._place ≡ c.args.count = omega arith in
    subst (λ n. AreEmpty n c.loop-place.starts) over c.loop-place.invariant
