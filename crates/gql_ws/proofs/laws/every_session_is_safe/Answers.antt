use Rattle.gql_ws.proofs.SessionLemmas.{every_session}
use Rattle.gql_ws.proofs.laws.every_session_is_safe.Goals as goal

pub returns : goal.returns
returns c = every_session
