-- Each type of documents may go to another thread, and threads may read it at once. A set of selections holds itself, so
-- that no lemma on it is made with the type. The lemmas go from what stands in a document to the whole: a search that meets
-- one of these types twice ends at its limits without them.
use denote.Param.Send.{IsSend, IsSync, sendable}
use Rattle.gql_base.proofs.SendLemmas.{value_send, value_sync, type_ref_send, type_ref_sync}
use denote.RattleType.{RattleType}
use Rattle.std.specs.contracts.option.Option as option
use Rattle.gql_base.specs.contracts.items.Items as items_row
use Rattle.gql_base.specs.contracts.name.Name as name_row
use Rattle.gql_doc.specs.contracts.document.Positioned as positioned_row
use Rattle.gql_base.proofs.items.Items.TheSendSync as items
use Rattle.gql_base.proofs.name.Name.TheSendSync as name
use Rattle.gql_base.proofs.number.Number.TheSendSync as number
use Rattle.gql_base.proofs.pairs.Pairs.TheSendSync as pairs
use Rattle.gql_base.proofs.text.Text.TheSendSync as text
use Rattle.gql_doc.proofs.document.Positioned.TheSendSync as positioned
use Rattle.gql_doc.proofs.document.DocValue.TheLaws.TheKnot as knot
use Rattle.gql_doc.proofs.document.Selection.TheLaws.TheKnot as ring
use Rattle.gql_doc.specs.contracts.document.DocValue as doc_value
use Rattle.gql_doc.specs.contracts.document.Argument as argument
use Rattle.gql_doc.specs.contracts.document.Directive as directive
use Rattle.gql_doc.specs.contracts.document.FragmentSpread as spread
use Rattle.gql_doc.specs.contracts.document.VariableDefinition as variable_definition
use Rattle.gql_doc.specs.contracts.document.FragmentDefinition as fragment
use Rattle.gql_doc.specs.contracts.document.OperationDefinition as operation
use Rattle.gql_doc.specs.contracts.document.DocumentOperations as operations
use Rattle.gql_doc.specs.contracts.document.ExecutableDocument as document
use Rattle.gql_doc.proofs.document.OperationType.TheSendSync as kind
use Rattle.gql_doc.specs.contracts.document.SelectionSet as set
use Rattle.gql_doc.specs.contracts.document.Selection as selection
use Rattle.gql_doc.specs.contracts.document.Field as field
use Rattle.gql_doc.specs.contracts.document.InlineFragment as inline

pub doc_value_send : IsSend doc_value.the_row
doc_value_send = search (
  knot.send-DocValue,
  name.the_send,
  number.the_send,
  text.the_send,
  items.the_send,
  pairs.the_send,
  sendable,
) depth 20

pub doc_value_sync : IsSync doc_value.the_row
doc_value_sync = search (
  knot.sync-DocValue,
  name.the_sync,
  number.the_sync,
  text.the_sync,
  items.the_sync,
  pairs.the_sync,
  sendable,
) depth 20

pub argument_send : IsSend argument.the_row
argument_send = search (doc_value_send, name.the_send, positioned.the_field_send, sendable) depth 20

pub argument_sync : IsSync argument.the_row
argument_sync = search (doc_value_sync, name.the_sync, positioned.the_field_sync, sendable) depth 20

pub directive_send : IsSend directive.the_row
directive_send = search (
  argument_send,
  name.the_send,
  items.the_send,
  positioned.the_field_send,
  sendable,
) depth 20

pub directive_sync : IsSync directive.the_row
directive_sync = search (
  argument_sync,
  name.the_sync,
  items.the_sync,
  positioned.the_field_sync,
  sendable,
) depth 20

pub spread_send : IsSend spread.the_row
spread_send = search (
  directive_send,
  name.the_send,
  items.the_send,
  positioned.the_field_send,
  positioned.the_send,
  sendable,
) depth 20

pub spread_sync : IsSync spread.the_row
spread_sync = search (
  directive_sync,
  name.the_sync,
  items.the_sync,
  positioned.the_field_sync,
  positioned.the_sync,
  sendable,
) depth 20

pub variable_definition_send : IsSend variable_definition.the_row
variable_definition_send = search (
  value_send,
  type_ref_send,
  directive_send,
  name.the_send,
  items.the_send,
  positioned.the_field_send,
  positioned.the_send,
  sendable,
) depth 20

pub variable_definition_sync : IsSync variable_definition.the_row
variable_definition_sync = search (
  value_sync,
  type_ref_sync,
  directive_sync,
  name.the_sync,
  items.the_sync,
  positioned.the_field_sync,
  positioned.the_sync,
  sendable,
) depth 20

-- what the types between a set of selections and itself are, where the next of them is so
at_send : (T : RattleType) → IsSend T → IsSend (positioned_row.the_row T)
at_send = positioned.the_send

field_at_send : IsSend field.the_field.row → IsSend (positioned_row.the_field field.the_row).row
field_at_send p = search (positioned.the_field_send, sendable) depth 20

spread_at_send : IsSend (positioned_row.the_field spread.the_row).row
spread_at_send = search (spread_send, positioned.the_field_send, sendable) depth 20

inline_at_send : IsSend inline.the_field.row → IsSend (positioned_row.the_field inline.the_row).row
inline_at_send p = search (positioned.the_field_send, sendable) depth 20

optional_name_send : IsSend (option.the_field (positioned_row.the_row name_row.the_row)).row
optional_name_send = search (name.the_send, positioned.the_send, sendable) depth 20

name_at_send : IsSend (positioned_row.the_field name_row.the_row).row
name_at_send = search (name.the_send, positioned.the_field_send, sendable) depth 20

arguments_send : IsSend (items_row.the_field argument.the_row).row
arguments_send = search (argument_send, items.the_send, sendable) depth 20

directives_send : IsSend (items_row.the_field (positioned_row.the_row directive.the_row)).row
directives_send = search (directive_send, positioned.the_send, items.the_send, sendable) depth 20

set_at_send : IsSend set.the_field.row → IsSend (positioned_row.the_field set.the_row).row
set_at_send p = search (positioned.the_field_send, sendable) depth 20

many_at_send : (T : RattleType) → IsSend T → IsSend (items_row.the_row (positioned_row.the_row T))
many_at_send T p = search (positioned.the_send, items.the_send, sendable) depth 20

pub set_field_send : IsSend set.the_field.row
set_field_send =
    ring.send-SelectionSet
    at_send
    field_at_send
    spread_at_send
    inline_at_send
    optional_name_send
    name_at_send
    arguments_send
    directives_send
    set_at_send
    many_at_send

pub set_send : IsSend set.the_row
set_send = search (set_field_send, sendable) depth 20

pub selection_field_send : IsSend selection.the_field.row
selection_field_send =
    ring.send-Selection
    at_send
    field_at_send
    spread_at_send
    inline_at_send
    optional_name_send
    name_at_send
    arguments_send
    directives_send
    set_at_send
    many_at_send

pub selection_send : IsSend selection.the_row
selection_send = search (selection_field_send, sendable) depth 20

pub field_field_send : IsSend field.the_field.row
field_field_send =
    ring.send-Field
    at_send
    field_at_send
    spread_at_send
    inline_at_send
    optional_name_send
    name_at_send
    arguments_send
    directives_send
    set_at_send
    many_at_send

pub field_send : IsSend field.the_row
field_send = search (field_field_send, sendable) depth 20

pub inline_field_send : IsSend inline.the_field.row
inline_field_send =
    ring.send-InlineFragment
    at_send
    field_at_send
    spread_at_send
    inline_at_send
    optional_name_send
    name_at_send
    arguments_send
    directives_send
    set_at_send
    many_at_send

pub inline_send : IsSend inline.the_row
inline_send = search (inline_field_send, sendable) depth 20

-- the same of reading
at_sync : (T : RattleType) → IsSync T → IsSync (positioned_row.the_row T)
at_sync = positioned.the_sync

field_at_sync : IsSync field.the_field.row → IsSync (positioned_row.the_field field.the_row).row
field_at_sync p = search (positioned.the_field_sync, sendable) depth 20

spread_at_sync : IsSync (positioned_row.the_field spread.the_row).row
spread_at_sync = search (spread_sync, positioned.the_field_sync, sendable) depth 20

inline_at_sync : IsSync inline.the_field.row → IsSync (positioned_row.the_field inline.the_row).row
inline_at_sync p = search (positioned.the_field_sync, sendable) depth 20

optional_name_sync : IsSync (option.the_field (positioned_row.the_row name_row.the_row)).row
optional_name_sync = search (name.the_sync, positioned.the_sync, sendable) depth 20

name_at_sync : IsSync (positioned_row.the_field name_row.the_row).row
name_at_sync = search (name.the_sync, positioned.the_field_sync, sendable) depth 20

arguments_sync : IsSync (items_row.the_field argument.the_row).row
arguments_sync = search (argument_sync, items.the_sync, sendable) depth 20

directives_sync : IsSync (items_row.the_field (positioned_row.the_row directive.the_row)).row
directives_sync = search (directive_sync, positioned.the_sync, items.the_sync, sendable) depth 20

set_at_sync : IsSync set.the_field.row → IsSync (positioned_row.the_field set.the_row).row
set_at_sync p = search (positioned.the_field_sync, sendable) depth 20

many_at_sync : (T : RattleType) → IsSync T → IsSync (items_row.the_row (positioned_row.the_row T))
many_at_sync T p = search (positioned.the_sync, items.the_sync, sendable) depth 20

pub set_field_sync : IsSync set.the_field.row
set_field_sync =
    ring.sync-SelectionSet
    at_sync
    field_at_sync
    spread_at_sync
    inline_at_sync
    optional_name_sync
    name_at_sync
    arguments_sync
    directives_sync
    set_at_sync
    many_at_sync

pub set_sync : IsSync set.the_row
set_sync = search (set_field_sync, sendable) depth 20

pub selection_field_sync : IsSync selection.the_field.row
selection_field_sync =
    ring.sync-Selection
    at_sync
    field_at_sync
    spread_at_sync
    inline_at_sync
    optional_name_sync
    name_at_sync
    arguments_sync
    directives_sync
    set_at_sync
    many_at_sync

pub selection_sync : IsSync selection.the_row
selection_sync = search (selection_field_sync, sendable) depth 20

pub field_field_sync : IsSync field.the_field.row
field_field_sync =
    ring.sync-Field
    at_sync
    field_at_sync
    spread_at_sync
    inline_at_sync
    optional_name_sync
    name_at_sync
    arguments_sync
    directives_sync
    set_at_sync
    many_at_sync

pub field_sync : IsSync field.the_row
field_sync = search (field_field_sync, sendable) depth 20

pub inline_field_sync : IsSync inline.the_field.row
inline_field_sync =
    ring.sync-InlineFragment
    at_sync
    field_at_sync
    spread_at_sync
    inline_at_sync
    optional_name_sync
    name_at_sync
    arguments_sync
    directives_sync
    set_at_sync
    many_at_sync

pub inline_sync : IsSync inline.the_row
inline_sync = search (inline_field_sync, sendable) depth 20

pub fragment_send : IsSend fragment.the_row
fragment_send = search (
  set_send,
  directive_send,
  name.the_send,
  items.the_send,
  positioned.the_field_send,
  positioned.the_send,
  sendable,
) depth 20

pub operation_send : IsSend operation.the_row
operation_send = search (
  kind.the_field_send,
  variable_definition_send,
  set_send,
  directive_send,
  items.the_send,
  positioned.the_field_send,
  positioned.the_send,
  sendable,
) depth 20

pub operations_send : IsSend operations.the_row
operations_send = search (
  operation_send,
  pairs.the_send,
  positioned.the_field_send,
  positioned.the_send,
  sendable,
) depth 20

pub operations_field_send : IsSend operations.the_field.row
operations_field_send = search (
  operation_send,
  pairs.the_send,
  positioned.the_field_send,
  positioned.the_send,
  sendable,
) depth 20

pub document_send : IsSend document.the_row
document_send = search (
  operations_field_send,
  fragment_send,
  pairs.the_send,
  positioned.the_field_send,
  positioned.the_send,
  sendable,
) depth 20

pub document_field_send : IsSend document.the_field.row
document_field_send = search (
  operations_field_send,
  fragment_send,
  pairs.the_send,
  positioned.the_field_send,
  positioned.the_send,
  sendable,
) depth 20

pub fragment_sync : IsSync fragment.the_row
fragment_sync = search (
  set_sync,
  directive_sync,
  name.the_sync,
  items.the_sync,
  positioned.the_field_sync,
  positioned.the_sync,
  sendable,
) depth 20

pub operation_sync : IsSync operation.the_row
operation_sync = search (
  kind.the_field_sync,
  variable_definition_sync,
  set_sync,
  directive_sync,
  items.the_sync,
  positioned.the_field_sync,
  positioned.the_sync,
  sendable,
) depth 20

pub operations_sync : IsSync operations.the_row
operations_sync = search (
  operation_sync,
  pairs.the_sync,
  positioned.the_field_sync,
  positioned.the_sync,
  sendable,
) depth 20

pub operations_field_sync : IsSync operations.the_field.row
operations_field_sync = search (
  operation_sync,
  pairs.the_sync,
  positioned.the_field_sync,
  positioned.the_sync,
  sendable,
) depth 20

pub document_sync : IsSync document.the_row
document_sync = search (
  operations_field_sync,
  fragment_sync,
  pairs.the_sync,
  positioned.the_field_sync,
  positioned.the_sync,
  sendable,
) depth 20

pub document_field_sync : IsSync document.the_field.row
document_field_sync = search (
  operations_field_sync,
  fragment_sync,
  pairs.the_sync,
  positioned.the_field_sync,
  positioned.the_sync,
  sendable,
) depth 20
