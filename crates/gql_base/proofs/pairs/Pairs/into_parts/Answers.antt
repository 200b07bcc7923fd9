use Rattle.std.proofs.Common.{sym}
use Rattle.gql_base.proofs.PairLemmas.{pairs_names, pairs_values}
use Rattle.gql_base.proofs.pairs.Pairs.into_parts.Goals as goal

pub returns-clause-names : goal.returns-clause-names
returns-clause-names g c = sym (pairs_names c.self.inside.names c.self.inside.values.items c.args.self c.self.invariant c.self.view_is)

pub returns-clause-values : goal.returns-clause-values
returns-clause-values g c = sym (pairs_values c.self.inside.names c.self.inside.values.items c.args.self c.self.invariant c.self.view_is)
