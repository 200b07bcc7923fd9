use Rattle.gql_place.proofs.LawProofs.{documents_apart_are_merged as law}
use Rattle.gql_place.proofs.laws.documents_apart_are_merged.Goals as goal

pub returns : goal.returns
returns g c = law _ _
