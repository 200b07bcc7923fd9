use Rattle.gql_select.proofs.LawProofs.{fewer_conflict as law}
use Rattle.gql_select.proofs.laws.fewer_conflict.Goals as goal

pub returns : goal.returns
returns g c = law _ _ _ _
