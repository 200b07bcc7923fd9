use Rattle.gql_engine.proofs.SchemaAloneLemmas.{has_no_task}
use Rattle.gql_engine.proofs.laws.schema_alone_has_no_task.Goals as goal

pub returns : goal.returns
returns g c = λ by scene only. has_no_task by scene only
