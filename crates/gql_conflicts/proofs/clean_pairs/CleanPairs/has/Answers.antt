use Rattle.std.proofs.Common.{IsTrue, subst}
use Rattle.gql_conflicts.specs.CleanPairs.{HasPair}
use Rattle.gql_conflicts.proofs.clean_pairs.CleanPairs.has.Goals as goal

pub returns-in-Some : goal.returns-in-Some
returns-in-Some c =
    subst (λ pairs. IsTrue c.has_at.result → HasPair pairs c.args.merged.now c.args.one c.args.other) c.as_slice-pairs.ensures.value c.has_at.ensures
