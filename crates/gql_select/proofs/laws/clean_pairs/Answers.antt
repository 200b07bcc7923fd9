use Rattle.gql_select.proofs.PairwiseLemmas.{clean_pairs as law}
use Rattle.gql_select.proofs.laws.clean_pairs.Goals as goal

pub returns : goal.returns
returns g c = law _ _ _ _ _
