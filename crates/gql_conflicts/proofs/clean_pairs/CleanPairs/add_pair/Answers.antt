use Rattle.std.proofs.Common.{refl}
use Rattle.gql_conflicts.specs.declared.clean_pair.CleanPair.{CleanPair}
use Rattle.gql_conflicts.proofs.CleanLemmas.{adds_pair_none, pair_added}
use Rattle.gql_conflicts.proofs.clean_pairs.CleanPairs.add_pair.Goals as goal

pub returns-then-has : goal.returns-then-has
returns-then-has c = adds_pair_none c.args.merged.now c.args.one c.args.other c.args.self.now.pairs.items

pub returns : goal.returns
returns c =
    let pair : CleanPair = record { left = c.args.merged.now.left; ty = c.args.merged.now.ty; one = c.args.one; other = c.args.other } in
    pair_added c.args.merged.now c.args.one c.args.other c.args.self.now.pairs.items c.push.new.self.items pair c.in_ok-push.ensures.items
    (record { known_for = record { left_is = refl; ty_is = refl }; one_is = refl; other_is = refl })
