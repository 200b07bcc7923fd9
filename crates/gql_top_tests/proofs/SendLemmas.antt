-- What is read of a bench may go to other threads, and threads may read it at once: a lemma for each type, from below, and one for the
-- type as a part of another.
use denote.Param.Send.{IsSend, IsSync, sendable}
use Rattle.gql_base.proofs.SendLemmas.{type_ref_field_send, type_ref_field_sync, value_field_send, value_field_sync}
use Rattle.gql_base.proofs.boxed.Boxed.TheSendSync as boxed
use Rattle.gql_base.proofs.items.Items.TheSendSync as items
use Rattle.gql_base.proofs.name.Name.TheSendSync as name
use Rattle.gql_base.proofs.pairs.Pairs.TheSendSync as pairs
use Rattle.gql_base.proofs.text.Text.TheSendSync as text
use Rattle.gql_form.proofs.answered.Answered.TheLaws.TheKnot as knot
use Rattle.gql_form.specs.contracts.path.Path as path
use Rattle.gql_form.specs.contracts.answered.Answered as answered
use Rattle.gql_form.specs.contracts.event_form.OutcomeForm as outcome
use Rattle.gql_form.specs.contracts.event_form.EventForm as event
use Rattle.gql_form.specs.contracts.rule_form.RuleForm as rule
use Rattle.gql_form.specs.contracts.answer_form.AnswerForm as answer
use Rattle.gql_form.specs.contracts.fields.ArgumentForm as argument
use Rattle.gql_form.specs.contracts.fields.FieldForm as field
use Rattle.gql_form.specs.contracts.fields.InterfaceFieldForm as interface_field
use Rattle.gql_form.specs.contracts.fields.InputFieldForm as input_field
use Rattle.gql_form.specs.contracts.fields.SubscriptionFieldForm as subscription_field
use Rattle.gql_form.specs.contracts.type_form.ObjectForm as object
use Rattle.gql_form.specs.contracts.type_form.InterfaceForm as interface
use Rattle.gql_form.specs.contracts.type_form.UnionForm as union
use Rattle.gql_form.specs.contracts.type_form.EnumTypeForm as enum_type
use Rattle.gql_form.specs.contracts.type_form.InputForm as input
use Rattle.gql_form.specs.contracts.type_form.ScalarForm as scalar
use Rattle.gql_form.specs.contracts.type_form.SubscriptionForm as subscription
use Rattle.gql_form.specs.contracts.type_form.TypeForm as type
use Rattle.gql_form.specs.contracts.schema_form.SchemaForm as schema
use Rattle.gql_form.specs.contracts.setup_form.SetupForm as setup
use Rattle.gql_form.specs.contracts.session_form.EntryForm as entry
use Rattle.gql_form.specs.contracts.session_form.SessionForm as session
use Rattle.gql_form.specs.contracts.work_form.WorkForm as work
use Rattle.gql_form.specs.contracts.bench_form.BenchForm as bench
use Rattle.gql_request.proofs.SendLemmas.{request_field_send, request_field_sync, request_send, request_sync}
use Rattle.gql_request.specs.contracts.batch_request.BatchRequest as batch_request
use Rattle.gql_request.proofs.header_op.HeaderOp.TheSendSync as header_op
use Rattle.gql_schema.proofs.scalar_rule.ScalarRule.TheSendSync as scalar_rule

batch_request_send : IsSend batch_request.the_field.row
batch_request_send = search (request_send, request_field_send, items.the_send, sendable) depth 20

path_send : IsSend path.the_row
path_send = search (name.the_send, items.the_send, sendable) depth 20

answered_send : IsSend answered.the_field.row
answered_send = search (
  knot.send-Answered,
  value_field_send,
  name.the_send,
  boxed.the_send,
  items.the_send,
  sendable,
) depth 20

outcome_send : IsSend outcome.the_field.row
outcome_send = search (answered_send, text.the_send, sendable) depth 20

event_send : IsSend event.the_row
event_send = search (outcome_send, sendable) depth 20

rule_send : IsSend rule.the_field.row
rule_send = search (
  answered_send,
  path_send,
  text.the_send,
  name.the_send,
  items.the_send,
  sendable,
) depth 20

answer_send : IsSend answer.the_field.row
answer_send = search (rule_send, text.the_send, header_op.the_send, items.the_send, sendable) depth 20

argument_send : IsSend argument.the_row
argument_send = search (name.the_send, type_ref_field_send, value_field_send, sendable) depth 20

field_send : IsSend field.the_row
field_send = search (argument_send, answer_send, type_ref_field_send, items.the_send, sendable) depth 20

interface_field_send : IsSend interface_field.the_row
interface_field_send = search (argument_send, type_ref_field_send, items.the_send, sendable) depth 20

input_field_send : IsSend input_field.the_row
input_field_send = search (type_ref_field_send, value_field_send, sendable) depth 20

subscription_field_send : IsSend subscription_field.the_row
subscription_field_send = search (
  argument_send,
  event_send,
  type_ref_field_send,
  items.the_send,
  sendable,
) depth 20

object_send : IsSend object.the_field.row
object_send = search (
  field_send,
  name.the_send,
  text.the_send,
  items.the_send,
  pairs.the_send,
  sendable,
) depth 20

interface_send : IsSend interface.the_field.row
interface_send = search (interface_field_send, name.the_send, pairs.the_send, sendable) depth 20

union_send : IsSend union.the_field.row
union_send = search (name.the_send, items.the_send, sendable) depth 20

enum_type_send : IsSend enum_type.the_field.row
enum_type_send = search (name.the_send, items.the_send, sendable) depth 20

input_send : IsSend input.the_field.row
input_send = search (input_field_send, name.the_send, pairs.the_send, sendable) depth 20

scalar_send : IsSend scalar.the_field.row
scalar_send = search (name.the_send, scalar_rule.the_field_send, sendable) depth 20

subscription_send : IsSend subscription.the_field.row
subscription_send = search (subscription_field_send, name.the_send, pairs.the_send, sendable) depth 20

type_send : IsSend type.the_row
type_send = search (
  object_send,
  interface_send,
  union_send,
  enum_type_send,
  input_send,
  scalar_send,
  subscription_send,
  sendable,
) depth 20

schema_send : IsSend schema.the_field.row
schema_send = search (type_send, text.the_send, items.the_send, sendable) depth 20

setup_send : IsSend setup.the_field.row
setup_send = search (schema_send, answered_send, items.the_send, sendable) depth 20

entry_send : IsSend entry.the_row
entry_send = search (text.the_send, sendable) depth 20

session_send : IsSend session.the_field.row
session_send = search (entry_send, items.the_send, sendable) depth 20

work_send : IsSend work.the_field.row
work_send = search (session_send, request_field_send, batch_request_send, sendable) depth 20

pub bench_send : IsSend bench.the_row
bench_send = search (setup_send, work_send, sendable) depth 20

batch_request_sync : IsSync batch_request.the_field.row
batch_request_sync = search (request_sync, request_field_sync, items.the_sync, sendable) depth 20

path_sync : IsSync path.the_row
path_sync = search (name.the_sync, items.the_sync, sendable) depth 20

answered_sync : IsSync answered.the_field.row
answered_sync = search (
  knot.sync-Answered,
  value_field_sync,
  name.the_sync,
  boxed.the_sync,
  items.the_sync,
  sendable,
) depth 20

outcome_sync : IsSync outcome.the_field.row
outcome_sync = search (answered_sync, text.the_sync, sendable) depth 20

event_sync : IsSync event.the_row
event_sync = search (outcome_sync, sendable) depth 20

rule_sync : IsSync rule.the_field.row
rule_sync = search (
  answered_sync,
  path_sync,
  text.the_sync,
  name.the_sync,
  items.the_sync,
  sendable,
) depth 20

answer_sync : IsSync answer.the_field.row
answer_sync = search (rule_sync, text.the_sync, header_op.the_sync, items.the_sync, sendable) depth 20

argument_sync : IsSync argument.the_row
argument_sync = search (name.the_sync, type_ref_field_sync, value_field_sync, sendable) depth 20

field_sync : IsSync field.the_row
field_sync = search (argument_sync, answer_sync, type_ref_field_sync, items.the_sync, sendable) depth 20

interface_field_sync : IsSync interface_field.the_row
interface_field_sync = search (argument_sync, type_ref_field_sync, items.the_sync, sendable) depth 20

input_field_sync : IsSync input_field.the_row
input_field_sync = search (type_ref_field_sync, value_field_sync, sendable) depth 20

subscription_field_sync : IsSync subscription_field.the_row
subscription_field_sync = search (
  argument_sync,
  event_sync,
  type_ref_field_sync,
  items.the_sync,
  sendable,
) depth 20

object_sync : IsSync object.the_field.row
object_sync = search (
  field_sync,
  name.the_sync,
  text.the_sync,
  items.the_sync,
  pairs.the_sync,
  sendable,
) depth 20

interface_sync : IsSync interface.the_field.row
interface_sync = search (interface_field_sync, name.the_sync, pairs.the_sync, sendable) depth 20

union_sync : IsSync union.the_field.row
union_sync = search (name.the_sync, items.the_sync, sendable) depth 20

enum_type_sync : IsSync enum_type.the_field.row
enum_type_sync = search (name.the_sync, items.the_sync, sendable) depth 20

input_sync : IsSync input.the_field.row
input_sync = search (input_field_sync, name.the_sync, pairs.the_sync, sendable) depth 20

scalar_sync : IsSync scalar.the_field.row
scalar_sync = search (name.the_sync, scalar_rule.the_field_sync, sendable) depth 20

subscription_sync : IsSync subscription.the_field.row
subscription_sync = search (subscription_field_sync, name.the_sync, pairs.the_sync, sendable) depth 20

type_sync : IsSync type.the_row
type_sync = search (
  object_sync,
  interface_sync,
  union_sync,
  enum_type_sync,
  input_sync,
  scalar_sync,
  subscription_sync,
  sendable,
) depth 20

schema_sync : IsSync schema.the_field.row
schema_sync = search (type_sync, text.the_sync, items.the_sync, sendable) depth 20

setup_sync : IsSync setup.the_field.row
setup_sync = search (schema_sync, answered_sync, items.the_sync, sendable) depth 20

entry_sync : IsSync entry.the_row
entry_sync = search (text.the_sync, sendable) depth 20

session_sync : IsSync session.the_field.row
session_sync = search (entry_sync, items.the_sync, sendable) depth 20

work_sync : IsSync work.the_field.row
work_sync = search (session_sync, request_field_sync, batch_request_sync, sendable) depth 20

pub bench_sync : IsSync bench.the_row
bench_sync = search (setup_sync, work_sync, sendable) depth 20
