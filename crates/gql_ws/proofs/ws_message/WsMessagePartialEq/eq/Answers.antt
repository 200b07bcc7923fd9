use Rattle.gql_base.specs.Same.{is_same_is}
use Rattle.gql_ws.specs.contracts.ws_message.WsMessage.{the_row}
use Rattle.gql_ws.proofs.ws_message.WsMessagePartialEq.eq.Goals as goal

pub returns-clause-value : goal.returns-clause-value
returns-clause-value c = is_same_is the_row.coded c.same_message.result c.args.self.now c.args.other.now c.same_message.ensures
