-- Schemas, and requests as they are executed over them, may go to other threads, and threads may read them at once.
use denote.Param.Send.{IsSend, IsSync, sendable}
use denote.RattleType.{RattleType}
use Rattle.gql_exec.specs.contracts.dynamic_request.DynamicRequest as dynamic_request
use Rattle.gql_exec.specs.contracts.ready.Ready as ready
use Rattle.gql_exec.specs.contracts.schema.Schema as schema
use Rattle.gql_request.proofs.SendLemmas.{query_env_field_send, query_env_field_sync, request_field_send, request_field_sync}
use Rattle.gql_resolve.proofs.SendLemmas.{field_value_field_send, field_value_field_sync}
use Rattle.gql_settings.proofs.SendLemmas.{settings_field_send, settings_field_sync, types_field_send, types_field_sync}

pub schema_send : IsSend schema.the_row
schema_send = search (types_field_send, settings_field_send, sendable) depth 20

pub schema_sync : IsSync schema.the_row
schema_sync = search (types_field_sync, settings_field_sync, sendable) depth 20

pub ready_send : IsSend ready.the_row
ready_send = search (request_field_send, query_env_field_send, sendable) depth 20

pub ready_sync : IsSync ready.the_row
ready_sync = search (request_field_sync, query_env_field_sync, sendable) depth 20

pub dynamic_request_send : (V : RattleType) → IsSend V → IsSend (dynamic_request.the_row V)
dynamic_request_send V p = search (request_field_send, field_value_field_send, sendable) depth 20

pub dynamic_request_sync : (V : RattleType) → IsSync V → IsSync (dynamic_request.the_row V)
dynamic_request_sync V p = search (request_field_sync, field_value_field_sync, sendable) depth 20
