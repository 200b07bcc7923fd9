use Rattle.std.proofs.Common.{◌≤◌, IsTrue, length, arith}
use Rattle.gql_conflicts.specs.CleanPairs.{HasPairsOf}
use Rattle.gql_conflicts.proofs.CleanLemmas.{all_numbers, each_number}
use Rattle.gql_conflicts.proofs.clean_pairs.CleanPairs.has_all.Goals as goal

pub loop-one-preserved : goal.loop-one-preserved
loop-one-preserved c =
    let so : IsTrue c.has_all_of.result = cc in
    each_number (HasPairsOf c.args.self.now.pairs.items c.args.merged.now) c.args.merged.now.sets.items c.as_slice-one-items.result.now
    c.loop-one.one-index c.as_slice-one-items.ensures.value c.loop-one-test.true c.loop-one.invariant (c.has_all_of.ensures so)

pub returns : goal.returns
returns c =
    let over : length c.as_slice-one-items.result.now ≤ c.loop-one.one-index = omega arith in
    λ so.
    all_numbers (HasPairsOf c.args.self.now.pairs.items c.args.merged.now) c.args.merged.now.sets.items c.as_slice-one-items.result.now
    c.loop-one.one-index c.as_slice-one-items.ensures.value over c.loop-one.invariant
