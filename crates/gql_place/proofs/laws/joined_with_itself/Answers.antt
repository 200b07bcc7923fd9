use Rattle.gql_place.proofs.LawProofs.{joined_with_itself as law}
use Rattle.gql_place.proofs.laws.joined_with_itself.Goals as goal

pub returns : goal.returns
returns c = law
