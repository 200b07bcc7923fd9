use Rattle.gql_select.proofs.LawProofs.{kept_agrees as law}
use Rattle.gql_select.proofs.laws.kept_agrees.Goals as goal

pub returns : goal.returns
returns c = law
