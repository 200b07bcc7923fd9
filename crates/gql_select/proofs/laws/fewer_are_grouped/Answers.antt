use Rattle.gql_select.proofs.LawProofs.{fewer_are_grouped as law}
use Rattle.gql_select.proofs.laws.fewer_are_grouped.Goals as goal

pub returns : goal.returns
returns g c = law _ _ _ _ _
