use Rattle.gql_exec.proofs.ConflictLemmas.{no_conflicts_written}
use Rattle.gql_exec.proofs.laws.admitted_has_no_conflicts.Goals as goal

pub returns : goal.returns
returns g c = λ schema request admitted. no_conflicts_written schema request admitted
