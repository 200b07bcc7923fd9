use Rattle.gql_ws.proofs.SessionLemmas.{data_acknowledged}
use Rattle.gql_ws.proofs.laws.data_once_acknowledged.Goals as goal

pub returns : goal.returns
returns c = data_acknowledged
