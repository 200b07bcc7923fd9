use Rattle.gql_select.proofs.PairwiseLemmas.{agreeing_has_none as law}
use Rattle.gql_select.proofs.laws.agreeing_has_none.Goals as goal

pub returns : goal.returns
returns g c = law _ _ _ _
