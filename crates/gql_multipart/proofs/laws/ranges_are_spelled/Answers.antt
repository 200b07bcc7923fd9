use Rattle.gql_multipart.proofs.GrammarLemmas.{ranges}
use Rattle.gql_multipart.proofs.laws.ranges_are_spelled.Goals as goal

pub returns : goal.returns
returns c = ranges
