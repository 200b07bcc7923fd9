use Rattle.gql_tasks.specs.Progress.{seen}
use Rattle.gql_serve.proofs.threads.execute_work.Goals as goal

pub returns : goal.returns
returns g c = (seen c.execute_bare.new.resolvers c.execute_bare.new.turns, c.execute_bare.ensures)
