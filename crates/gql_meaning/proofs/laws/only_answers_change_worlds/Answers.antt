use Rattle.gql_meaning.proofs.LawProofs.{only_answers_change_worlds as law}
use Rattle.gql_meaning.proofs.laws.only_answers_change_worlds.Goals as goal

pub returns : goal.returns
returns g c = law _ _
