use Rattle.gql_cli.proofs.LawLemmas.{one-result}
use Rattle.gql_cli.proofs.laws.one_result_of_a_bench.Goals as goal

pub returns-clause-outcome : goal.returns-clause-outcome
returns-clause-outcome c = λ command bytes one other entries others a b. (one-result command bytes one other entries others a b).0

pub returns-clause-told : goal.returns-clause-told
returns-clause-told c = λ command bytes one other entries others a b. (one-result command bytes one other entries others a b).1
