use Rattle.std.proofs.Common.{sym, ap, ◌∙◌}
use Rattle.gql_base.specs.Names.{place_of}
use Rattle.gql_base.proofs.PairLemmas.{pairs_long, pairs_names}
use Rattle.gql_base.proofs.pairs.Pairs.place_of.Goals as goal

pub returns-clause-place : goal.returns-clause-place
returns-clause-place g c =
    c.place_of.ensures.place
    ∙ ap (place_of c.args.name.now) (sym (pairs_names c.self.inside.names c.self.inside.values.items c.args.self.now c.self.invariant c.self.view_is))

pub returns-clause-within : goal.returns-clause-within
returns-clause-within g c =
    let long = pairs_long c.self.inside.names c.self.inside.values.items c.args.self.now c.self.invariant c.self.view_is in
    rw long c.place_of.ensures.within
