use Rattle.gql_select.proofs.LawProofs.{once_leaves_out as law}
use Rattle.gql_select.proofs.laws.once_leaves_out.Goals as goal

pub returns : goal.returns
returns c = law
