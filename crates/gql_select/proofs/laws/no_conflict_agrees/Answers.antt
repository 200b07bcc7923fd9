use Rattle.gql_select.proofs.LawProofs.{no_conflict_agrees as law}
use Rattle.gql_select.proofs.laws.no_conflict_agrees.Goals as goal

pub returns : goal.returns
returns g c = law _ _ _ _
