use Rattle.std.proofs.Common.{arith, ◌≡◌, length, subst}
use Rattle.gql_base.specs.Pairs.{names_of}
use Rattle.gql_rules.specs.AlikeOperations.{AreGathered}
use Rattle.gql_rules.proofs.GatheringLemmas.{none_gathered}
use Rattle.gql_rules.proofs.reached_uses.starts_of.Goals as goal

pub loop-place-init : goal.loop-place-init
loop-place-init c = none_gathered (names_of c.args.against.now.fragments.now) c.args.operations.now c.in_ok-starts.starts
    c.in_ok-starts.ensures

pub returns : goal.returns
returns c =
    let over : c.loop-place.place ≡ length c.args.operations.now = omega arith in
    subst (λ n. AreGathered (names_of c.args.against.now.fragments.now) c.args.operations.now n c.loop-place.starts) over
    c.loop-place.invariant
