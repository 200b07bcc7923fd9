-- The two kinds of messages to a client.
use Rattle.gql_ws.specs.declared.ws_message.WsMessage.{WsMessage}
use Rattle.gql_ws.specs.declared.ws_message.WsMessage.TheVariants.{Text, Close}

abbrev pub IsText : WsMessage → Type 0
IsText (Text text) = Unit {0}
IsText (Close code reason) = ⊥

abbrev pub IsClose : WsMessage → Type 0
IsClose (Text text) = ⊥
IsClose (Close code reason) = Unit {0}
