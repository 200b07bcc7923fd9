use Rattle.gql_conflicts.proofs.CleanLemmas.{adds_none, adds_then}
use Rattle.gql_conflicts.proofs.clean_pairs.CleanPairs.add_all_of.Goals as goal

pub loop-place-init : goal.loop-place-init
loop-place-init c = adds_none c.args.merged.now c.args.self.now.pairs.items

pub loop-place-preserved : goal.loop-place-preserved
loop-place-preserved c =
    adds_then c.args.merged.now c.args.self.now.pairs.items c.loop-place.self.pairs.items c.add.new.self.pairs.items c.loop-place.invariant
    c.in_ok-add.ensures
