use Rattle.gql_cli.proofs.LoadLemmas.{one_load}
use Rattle.gql_cli.proofs.laws.one_result_of_a_load.Goals as goal

pub returns : goal.returns
returns c = λ rows one other entries others a b. one_load rows one other entries others a b
