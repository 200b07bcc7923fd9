use Rattle.gql_exec.proofs.AdmittedLemmas.{admitted_apart_is_merged as law}
use Rattle.gql_exec.proofs.laws.admitted_apart_is_merged.Goals as goal

pub returns : goal.returns
returns g c = law _ _
