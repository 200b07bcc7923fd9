-- Fields of a query, what is under them and what was looked at may go to other threads, and threads may read them at once.
use denote.Param.Send.{IsSend, IsSync, sendable}
use denote.Ref.{NamedLft}
use Rattle.gql_base.proofs.SendLemmas.{value_send, value_sync}
use Rattle.gql_base.proofs.items.Items.TheSendSync as items
use Rattle.gql_base.proofs.name.Name.TheSendSync as name
use Rattle.gql_doc.proofs.SendLemmas.{field_sync, selection_sync}
use Rattle.gql_doc.proofs.document.Positioned.TheSendSync as positioned
use Rattle.gql_request.proofs.SendLemmas.{query_env_sync}
use Rattle.gql_resolve.specs.contracts.const_directive.ConstDirective as const_directive
use Rattle.gql_resolve.specs.contracts.look_ahead.Lookahead as ahead
use Rattle.gql_resolve.specs.contracts.open_set.OpenSet as open_set
use Rattle.gql_resolve.specs.contracts.selection_field.SelectionField as selection_field
use Rattle.gql_resolve.specs.contracts.selection_fields_iter.SelectionFieldsIter as fields

pub selection_field_send : (a : NamedLft) → IsSend (selection_field.the_row a)
selection_field_send a = search (field_sync, query_env_sync, sendable) depth 12

pub selection_field_sync : (a : NamedLft) → IsSync (selection_field.the_row a)
selection_field_sync a = search (field_sync, query_env_sync, sendable) depth 12

open_set_send : (a : NamedLft) → IsSend (open_set.the_row a)
open_set_send a = search (selection_sync, positioned.the_sync, query_env_sync, sendable) depth 12

open_set_sync : (a : NamedLft) → IsSync (open_set.the_row a)
open_set_sync a = search (selection_sync, positioned.the_sync, query_env_sync, sendable) depth 12

pub fields_send : (a : NamedLft) → IsSend (fields.the_row a)
fields_send a = search (open_set_send, items.the_send, sendable) depth 12

pub fields_sync : (a : NamedLft) → IsSync (fields.the_row a)
fields_sync a = search (open_set_sync, items.the_sync, sendable) depth 12

pub ahead_send : (a : NamedLft) → IsSend (ahead.the_row a)
ahead_send a = search (selection_field_send, items.the_send, sendable) depth 12

pub ahead_sync : (a : NamedLft) → IsSync (ahead.the_row a)
ahead_sync a = search (selection_field_sync, items.the_sync, sendable) depth 12

pub directive_send : IsSend const_directive.the_row
directive_send = search (
  value_send,
  name.the_send,
  positioned.the_send,
  items.the_send,
  sendable,
) depth 20

pub directive_sync : IsSync const_directive.the_row
directive_sync = search (
  value_sync,
  name.the_sync,
  positioned.the_sync,
  items.the_sync,
  sendable,
) depth 20
