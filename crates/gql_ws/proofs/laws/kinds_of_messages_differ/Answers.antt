use Rattle.gql_ws.proofs.KindLemmas.{kinds_differ}
use Rattle.gql_ws.proofs.laws.kinds_of_messages_differ.Goals as goal

pub returns : goal.returns
returns c = kinds_differ
