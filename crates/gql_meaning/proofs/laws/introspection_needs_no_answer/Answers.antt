use Rattle.gql_meaning.proofs.LawProofs.{introspection_needs_no_answer as law}
use Rattle.gql_meaning.proofs.laws.introspection_needs_no_answer.Goals as goal

pub returns : goal.returns
returns g c = law _ _
