use Rattle.std.proofs.Common.{◌≡◌, length, rules}
use Rattle.gql_conflicts.proofs.MergedLemmas.{sole_of}
use Rattle.gql_conflicts.proofs.sets.sole_spread.Goals as goal

pub returns : goal.returns
returns c =
    let long : length c.as_slice-selections.result.now ≡ 1 = search rules in
    sole_of c.args.field.now c.as_slice-selections.result.now c.index-selections-0.result c.spread_in.result c.as_slice-selections.ensures long
    c.index-selections-0.is c.spread_in.ensures
