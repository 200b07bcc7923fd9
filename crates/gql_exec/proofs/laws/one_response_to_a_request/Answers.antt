use Rattle.gql_exec.proofs.AdmittedLemmas.{one_count, one_response, one_world}
use Rattle.gql_exec.proofs.laws.one_response_to_a_request.Goals as goal

pub returns-clause-response : goal.returns-clause-response
returns-clause-response g c = λ schema request served one other a b. one_response schema request served one other a b

pub returns-clause-world : goal.returns-clause-world
returns-clause-world g c = λ schema request served one other a b. one_world schema request served one other a b

pub returns-clause-asked : goal.returns-clause-asked
returns-clause-asked g c = λ schema request served one other a b. one_count schema request served one other a b
