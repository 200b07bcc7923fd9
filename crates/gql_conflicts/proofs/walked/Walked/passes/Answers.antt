use Rattle.gql_conflicts.proofs.WalkedLemmas.{walks_known}
use Rattle.gql_conflicts.proofs.walked.Walked.passes.Goals as goal

pub returns : goal.returns
returns c = λ reader so. walks_known reader c.args.self.now c.args.merged.now (c.has_all.ensures so)
