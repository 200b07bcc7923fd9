-- The subprotocols of GraphQL over WebSocket, by their names (RFC 6455, section 11.3.4).
use Rattle.std.specs.Prelude.{ℕ, List, codes, Option, Some, None, if◌then◌else◌}
use Rattle.std.specs.Str.{str_eq_ignore_ascii_case}
use Rattle.gql_protocols.specs.declared.protocols.Protocols.{Protocols}
use Rattle.gql_protocols.specs.declared.protocols.Protocols.TheVariants.{SubscriptionsTransportWS}
use Rattle.gql_protocols.specs.declared.protocols.Protocols.TheVariants.{GraphQLWS}

-- the name in the header
abbrev pub protocol_name : Protocols → List ℕ
protocol_name SubscriptionsTransportWS = codes "graphql-ws"
protocol_name GraphQLWS = codes "graphql-transport-ws"

-- the protocol of a name, whatever the case of its letters
abbrev pub protocol_named : List ℕ → Option Protocols
protocol_named name =
    if str_eq_ignore_ascii_case name (codes "graphql-ws") then Some SubscriptionsTransportWS
    else (if str_eq_ignore_ascii_case name (codes "graphql-transport-ws")
    then Some GraphQLWS else None)
