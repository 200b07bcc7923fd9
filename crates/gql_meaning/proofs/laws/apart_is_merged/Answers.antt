use Rattle.gql_meaning.proofs.LawProofs.{apart_is_merged as law}
use Rattle.gql_meaning.proofs.laws.apart_is_merged.Goals as goal

pub returns : goal.returns
returns g c = law _ _ _
