use Rattle.std.proofs.Common.{arith}
use Rattle.gql_base.proofs.PairLemmas.{pair_at, pairs_long}
use Rattle.gql_base.proofs.pairs.Pairs.pair_at.Goals as goal

pub name_at-requires : goal.name_at-requires
name_at-requires g c =
    let long = pairs_long c.self.inside.names c.self.inside.values.items c.args.self.now c.self.invariant c.self.view_is in
    omega arith

pub index-requires : goal.index-requires
index-requires g c =
    let long = pairs_long c.self.inside.names c.self.inside.values.items c.args.self.now c.self.invariant c.self.view_is in
    let whole = c.self.inside.values.ok.0 in
    omega arith

pub returns : goal.returns
returns g c =
    pair_at c.self.inside.names c.self.inside.values.items c.args.self.now c.self.invariant c.self.view_is c.args.place
    c.name_at.result.now c.index.result.now c.requires c.name_at.ensures c.index.ensures
