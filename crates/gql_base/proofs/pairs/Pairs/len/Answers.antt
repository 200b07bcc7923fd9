use Rattle.std.proofs.Common.{sym, ◌∙◌}
use Rattle.gql_base.proofs.PairLemmas.{pairs_long, pairs_distinct}
use Rattle.gql_base.proofs.pairs.Pairs.len.Goals as goal

pub returns-clause-length : goal.returns-clause-length
returns-clause-length g c =
    c.len.ensures.length ∙ sym (pairs_long c.self.inside.names c.self.inside.values.items c.args.self.now c.self.invariant c.self.view_is)

pub returns-clause-distinct : goal.returns-clause-distinct
returns-clause-distinct g c =
    pairs_distinct c.self.inside.names c.self.inside.values.items c.args.self.now c.self.invariant c.self.view_is c.len.ensures.distinct
