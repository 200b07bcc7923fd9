use Rattle.gql_exec.proofs.JoinedLemmas.{kept_is_written as law}
use Rattle.gql_exec.proofs.laws.kept_is_written.Goals as goal

pub returns : goal.returns
returns g c = λ schema request scene served of_it. law schema request scene served of_it
