use Rattle.gql_meaning.proofs.LawProofs.{completion_fits as law}
use Rattle.gql_meaning.proofs.laws.completion_fits.Goals as goal

pub returns : goal.returns
returns g c = law _
