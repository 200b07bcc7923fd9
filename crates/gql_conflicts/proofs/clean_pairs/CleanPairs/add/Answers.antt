use Rattle.std.proofs.Common.{◌<◌, length, get_or, subst, arith}
use Rattle.std.specs.List.{Contains}
use Rattle.gql_conflicts.proofs.CleanLemmas.{number_in, pair_of}
use Rattle.gql_conflicts.proofs.clean_pairs.CleanPairs.add.Goals as goal

pub returns : goal.returns
returns c =
    let sets = c.as_slice-sets.result.now in
    let first : c.args.one < length sets = omega arith in
    let second : c.args.other < length sets = omega arith in
    pair_of c.args.merged.now (get_or sets c.args.one 0) (get_or sets c.args.other 0) c.args.self.now.pairs.items c.add_pair.new.self.pairs.items
    (subst (λ xs. Contains xs (get_or sets c.args.one 0)) c.as_slice-sets.ensures.value (number_in sets c.args.one first))
    (subst (λ xs. Contains xs (get_or sets c.args.other 0)) c.as_slice-sets.ensures.value (number_in sets c.args.other second))
    c.in_ok-add_pair.ensures
