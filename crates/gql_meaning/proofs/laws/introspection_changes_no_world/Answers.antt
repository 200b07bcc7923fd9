use Rattle.gql_meaning.proofs.LawProofs.{introspection_changes_no_world as law}
use Rattle.gql_meaning.proofs.laws.introspection_changes_no_world.Goals as goal

pub returns : goal.returns
returns g c = law _ _
