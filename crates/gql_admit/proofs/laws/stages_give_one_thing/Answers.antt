use Rattle.gql_admit.proofs.PreparedLemmas.{one_staged}
use Rattle.gql_admit.proofs.laws.stages_give_one_thing.Goals as goal

pub returns : goal.returns
returns c = λ terms request one other a b. one_staged terms request one other a b
