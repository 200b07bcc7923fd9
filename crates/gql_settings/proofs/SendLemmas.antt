-- Builders of schemas and their settings may go to other threads, and threads may read them at once.
use denote.Param.Send.{IsSend, IsSync, sendable}
use Rattle.gql_base.proofs.text.Text.TheSendSync as text
use Rattle.gql_request.proofs.SendLemmas.{data_field_send, data_field_sync}
use Rattle.gql_request.proofs.query_env.IntrospectionMode.TheSendSync as mode
use Rattle.gql_schema.proofs.SendLemmas.{schema_type_send, schema_type_sync}
use Rattle.gql_schema.proofs.by_name.ByName.TheSendSync as by_name
use Rattle.gql_schema.specs.contracts.types.Types as types
use Rattle.gql_settings.specs.contracts.builder.SchemaBuilder as builder
use Rattle.gql_settings.specs.contracts.settings.Settings as settings

-- a table of types, as a part of another type
pub types_field_send : IsSend types.the_field.row
types_field_send = search (schema_type_send, by_name.the_send, sendable) depth 20

pub types_field_sync : IsSync types.the_field.row
types_field_sync = search (schema_type_sync, by_name.the_sync, sendable) depth 20

-- settings, as a part of another type
pub settings_field_send : IsSend settings.the_field.row
settings_field_send = search (text.the_send, data_field_send, mode.the_field_send, sendable) depth 20

pub settings_field_sync : IsSync settings.the_field.row
settings_field_sync = search (text.the_sync, data_field_sync, mode.the_field_sync, sendable) depth 20

pub builder_send : IsSend builder.the_row
builder_send = search (types_field_send, settings_field_send, sendable) depth 20

pub builder_sync : IsSync builder.the_row
builder_sync = search (types_field_sync, settings_field_sync, sendable) depth 20
