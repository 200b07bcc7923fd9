use Rattle.std.proofs.Common.{◌<◌, length, rules}
use Rattle.gql_conflicts.proofs.CleanLemmas.{pair_at}
use Rattle.gql_conflicts.proofs.clean_pairs.has_at.Goals as goal

pub returns : goal.returns
returns c =
    let within : c.args.place < length c.args.pairs.now = search rules in
    λ so. pair_at c.args.pairs.now c.args.place _ c.args.merged.now c.args.one c.args.other within (c.is_pair.ensures so)
