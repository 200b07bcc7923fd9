use Rattle.gql_meaning.proofs.LawProofs.{introspection_asks_nothing as law}
use Rattle.gql_meaning.proofs.laws.introspection_asks_nothing.Goals as goal

pub returns : goal.returns
returns g c = law _ _
