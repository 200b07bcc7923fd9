use Rattle.gql_objects.proofs.JobLemmas.{level_jobs}
use Rattle.gql_engine.proofs.laws.tasks_are_jobs.Goals as goal

pub returns : goal.returns
returns g c = λ basis spot selections. level_jobs basis spot selections
