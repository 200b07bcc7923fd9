use Rattle.gql_exec.proofs.AdmittedLemmas.{alike_sets}
use Rattle.gql_exec.proofs.laws.alike_sets_respond_alike.Goals as goal

pub returns : goal.returns
returns g c = alike_sets g.R.ResolverSet
