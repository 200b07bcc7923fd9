use Rattle.std.proofs.Common.{◌≤◌, length, arith}
use Rattle.gql_conflicts.proofs.MarkLemmas.{keys_once}
use Rattle.gql_conflicts.proofs.coarse.has_keys_once.Goals as goal

pub returns : goal.returns
returns c =
    let over : length c.args.entries.now ≤ c.loop-place.place = omega arith in
    λ so. keys_once c.args.entries.now (λ at within. c.loop-place.invariant at (omega (arith, over, within)))
