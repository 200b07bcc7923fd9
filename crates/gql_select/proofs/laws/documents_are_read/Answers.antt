use Rattle.gql_select.proofs.LawProofs.{documents_are_read as law}
use Rattle.gql_select.proofs.laws.documents_are_read.Goals as goal

pub returns : goal.returns
returns c = law
