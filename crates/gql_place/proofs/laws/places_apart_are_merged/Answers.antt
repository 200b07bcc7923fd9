use Rattle.gql_place.proofs.LawProofs.{places_apart_are_merged as law}
use Rattle.gql_place.proofs.laws.places_apart_are_merged.Goals as goal

pub returns : goal.returns
returns g c = law _ _ _ _
