use Rattle.gql_base.proofs.PairLemmas.{under_found, under_missing}
use Rattle.gql_base.proofs.pairs.Pairs.get.Goals as goal

pub returns-in-Some : goal.returns-in-Some
returns-in-Some g c =
    under_found c.args.name.now c.self.inside.names c.self.inside.values.items c.args.self.now c.self.invariant c.self.view_is
    c.in-Some.place c.index.result.now c.in-Some.ensures.place c.index.ensures

pub returns-in-None : goal.returns-in-None
returns-in-None g c =
    under_missing c.args.name.now c.self.inside.names c.self.inside.values.items c.args.self.now c.self.invariant c.self.view_is
    c.in-None.ensures.place
