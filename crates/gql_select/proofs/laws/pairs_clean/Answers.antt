use Rattle.gql_select.proofs.PairwiseLemmas.{pairs_clean as law}
use Rattle.gql_select.proofs.laws.pairs_clean.Goals as goal

pub returns : goal.returns
returns g c = law _ _ _ _ _
