use Rattle.std.proofs.Common.{◌<◌, IsTrue, length, refl, rules}
use Rattle.gql_conflicts.proofs.WalkedLemmas.{seen_at}
use Rattle.gql_conflicts.proofs.seen.found_at.Goals as goal

pub returns : goal.returns
returns c =
    let within : c.args.place < length c.args.visits.now = search rules in
    let so : IsTrue c.is_like.result = cc in
    seen_at c.args.visits.now c.args.place c.index-visits-place.result c.args.merged.now c.index-visits-place.result.clean within c.index-visits-place.is
    (record { like = c.is_like.ensures so; clean_is = refl })
