use Rattle.gql_admit.proofs.PreparedLemmas.{one_prepared}
use Rattle.gql_admit.proofs.laws.one_preparation_of_a_request.Goals as goal

pub returns : goal.returns
returns c = λ terms request one other a b. one_prepared terms request one other a b
