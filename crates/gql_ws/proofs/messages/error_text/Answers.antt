use Rattle.gql_ws.proofs.TextLemmas.{enclosed}
use Rattle.gql_ws.proofs.messages.error_text.Goals as goal

pub returns : goal.returns
returns c = enclosed _ _ _ _ _ _ c.in_ok-out.ensures c.in_ok-push_errors.ensures c.in_ok-push_str.ensures.bytes
