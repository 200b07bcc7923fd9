use Rattle.gql_base.proofs.ChainLemmas.{SeeksFrom, weight}
use Rattle.gql_base.proofs.chains.Chains.find.Given as goal

abbrev pub invariant-chain : goal.invariant-chain
invariant-chain l = SeeksFrom l.self.before.items l.names l.name l.at

abbrev pub decreases-chain : goal.decreases-chain
decreases-chain l = weight l.at
