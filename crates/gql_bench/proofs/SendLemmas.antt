-- A bench, its rules and its table may go to other threads, and threads may read them at once: a lemma for each type, from below.
-- What a resolver gives holds itself, so that no lemma on it is made with the type. The rules are shared,
-- so that each lemma on what holds them asks both of a rule.
use denote.Param.Send.{IsSend, IsSync, sendable, struct_send, struct_sync, recorded_send, recorded_sync}
use denote.Struct.Declared.{shape}
use denote.RattleType.{RattleType}
use Rattle.gql_base.proofs.SendLemmas.{value_field_send, value_field_sync}
use Rattle.gql_base.proofs.boxed.Boxed.TheSendSync as boxed
use Rattle.gql_base.proofs.common.Common.TheSendSync as common
use Rattle.gql_base.proofs.items.Items.TheSendSync as items
use Rattle.gql_base.proofs.name.Name.TheSendSync as name
use Rattle.gql_base.proofs.text.Text.TheSendSync as text
use Rattle.gql_form.proofs.answered.Answered.TheLaws.TheKnot as answered_knot
use Rattle.gql_form.specs.contracts.answered.Answered as answered
use Rattle.gql_form.specs.contracts.event_form.EventForm as event
use Rattle.gql_form.specs.contracts.path.Path as path
use Rattle.gql_form.specs.contracts.session_form.SessionForm as session
use Rattle.gql_request.proofs.SendLemmas.{request_send, request_sync, request_field_send, request_field_sync}
use Rattle.gql_request.specs.contracts.batch_request.BatchRequest as requests
use Rattle.gql_settings.proofs.SendLemmas.{types_field_send, types_field_sync, settings_field_send, settings_field_sync}
use Rattle.gql_settings.specs.contracts.builder.SchemaBuilder as builder
use Rattle.gql_bench.specs.contracts.bench.Bench as bench
use Rattle.gql_request.proofs.header_op.HeaderOp.TheSendSync as header_op
use Rattle.gql_resolve.proofs.field_value.FieldValue.TheLaws.TheKnot as knot
use Rattle.gql_resolve.proofs.record_entry.RecordEntry.TheSendSync as entry
use Rattle.gql_resolve.specs.contracts.field_value.FieldValue as field_value
use Rattle.std.proofs.Crossing as std
use Rattle.gql_bench.specs.contracts.rule.Rule as rule
use Rattle.gql_bench.specs.contracts.rule.RuleKind as kind
use Rattle.gql_bench.specs.contracts.table.Table as table
use Rattle.gql_bench.specs.contracts.table_maker.TableMaker as maker

-- what a resolver gives, as a part of another type
given_field_send : (V : RattleType) → IsSend V → IsSend (field_value.the_field V).row
given_field_send V p = search (
  knot.send-FieldValue,
  value_field_send,
  name.the_send,
  boxed.the_send,
  items.the_send,
  sendable,
) depth 20

path_send : IsSend path.the_row
path_send = search (name.the_send, items.the_send, sendable) depth 20

kind_field_send : IsSend kind.the_field.row
kind_field_send = search (
  given_field_send,
  path_send,
  text.the_send,
  name.the_send,
  items.the_send,
  sendable,
) depth 20

pub kind_send : IsSend kind.the_row
kind_send = search (kind_field_send, sendable) depth 20

pub rule_send : IsSend rule.the_row
rule_send = search (kind_field_send, text.the_send, header_op.the_send, items.the_send, sendable) depth 20

-- what a resolver gives, as a part of another type
given_field_sync : (V : RattleType) → IsSync V → IsSync (field_value.the_field V).row
given_field_sync V p = search (
  knot.sync-FieldValue,
  value_field_sync,
  name.the_sync,
  boxed.the_sync,
  items.the_sync,
  sendable,
) depth 20

path_sync : IsSync path.the_row
path_sync = search (name.the_sync, items.the_sync, sendable) depth 20

kind_field_sync : IsSync kind.the_field.row
kind_field_sync = search (
  given_field_sync,
  path_sync,
  text.the_sync,
  name.the_sync,
  items.the_sync,
  sendable,
) depth 20

pub kind_sync : IsSync kind.the_row
kind_sync = search (kind_field_sync, sendable) depth 20

pub rule_sync : IsSync rule.the_row
rule_sync = search (kind_field_sync, text.the_sync, header_op.the_sync, items.the_sync, sendable) depth 20

table_field_send : IsSend table.the_field.row
table_field_send = search (
  rule_send,
  rule_sync,
  entry.the_send,
  common.the_send,
  items.the_send,
  items.the_sync,
  std.crosses,
  sendable,
) depth 20

pub table_send : IsSend table.the_row
table_send = search (table_field_send, sendable) depth 20

pub maker_send : IsSend maker.the_row
maker_send = search (table_field_send, sendable) depth 20

table_field_sync : IsSync table.the_field.row
table_field_sync = search (
  rule_send,
  rule_sync,
  entry.the_sync,
  common.the_sync,
  items.the_send,
  items.the_sync,
  std.crosses,
  sendable,
) depth 20

pub table_sync : IsSync table.the_row
table_sync = search (table_field_sync, sendable) depth 20

pub maker_sync : IsSync maker.the_row
maker_sync = search (table_field_sync, sendable) depth 20

-- the members of a bench, each as a part of another type
answered_field_send : IsSend answered.the_field.row
answered_field_send = search (
  answered_knot.send-Answered,
  value_field_send,
  name.the_send,
  boxed.the_send,
  items.the_send,
  sendable,
) depth 20

event_send : IsSend event.the_row
event_send = search (answered_field_send, text.the_send, sendable) depth 20

session_field_send : IsSend session.the_field.row
session_field_send = search (text.the_send, items.the_send, sendable) depth 20

builder_field_send : IsSend builder.the_field.row
builder_field_send = search (types_field_send, settings_field_send, sendable) depth 20

requests_field_send : IsSend requests.the_field.row
requests_field_send = search (request_send, request_field_send, items.the_send, sendable) depth 20

pub bench_send : IsSend bench.the_row
bench_send = recorded_send bench.the_field.row _ _ bench.the_type.to_one (struct_send (shape bench.the_type) (
  builder_field_send,
  (
    search (rule_send, rule_sync, common.the_send, items.the_send, items.the_sync, sendable) depth 20,
    (
      search (event_send, items.the_send, sendable) depth 20,
      (
        search (items.the_send, sendable) depth 20,
        (
          search (given_field_send, sendable) depth 20,
          (
            search (items.the_send, sendable) depth 20,
            (
              search (sendable) depth 20,
              (
                requests_field_send,
                (
                  search (session_field_send, sendable) depth 20,
                  (
                    search (sendable) depth 20,
                    tt,
                  ),
                ),
              ),
            ),
          ),
        ),
      ),
    ),
  ),
))

-- the members of a bench, each as a part of another type
answered_field_sync : IsSync answered.the_field.row
answered_field_sync = search (
  answered_knot.sync-Answered,
  value_field_sync,
  name.the_sync,
  boxed.the_sync,
  items.the_sync,
  sendable,
) depth 20

event_sync : IsSync event.the_row
event_sync = search (answered_field_sync, text.the_sync, sendable) depth 20

session_field_sync : IsSync session.the_field.row
session_field_sync = search (text.the_sync, items.the_sync, sendable) depth 20

builder_field_sync : IsSync builder.the_field.row
builder_field_sync = search (types_field_sync, settings_field_sync, sendable) depth 20

requests_field_sync : IsSync requests.the_field.row
requests_field_sync = search (request_sync, request_field_sync, items.the_sync, sendable) depth 20

pub bench_sync : IsSync bench.the_row
bench_sync = recorded_sync bench.the_field.row _ _ bench.the_type.to_one (struct_sync (shape bench.the_type) (
  builder_field_sync,
  (
    search (rule_send, rule_sync, common.the_sync, items.the_send, items.the_sync, sendable) depth 20,
    (
      search (event_sync, items.the_sync, sendable) depth 20,
      (
        search (items.the_sync, sendable) depth 20,
        (
          search (given_field_sync, sendable) depth 20,
          (
            search (items.the_sync, sendable) depth 20,
            (
              search (sendable) depth 20,
              (
                requests_field_sync,
                (
                  search (session_field_sync, sendable) depth 20,
                  (
                    search (sendable) depth 20,
                    tt,
                  ),
                ),
              ),
            ),
          ),
        ),
      ),
    ),
  ),
))
