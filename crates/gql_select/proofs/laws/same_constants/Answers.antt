use Rattle.gql_select.proofs.LawProofs.{same_constants as law}
use Rattle.gql_select.proofs.laws.same_constants.Goals as goal

pub returns : goal.returns
returns c = law
