-- Values and types of the schema hold themselves, so that no lemma on them is made with the type: each may go to another thread, and
-- threads may read it at once. Searches above them that meet one twice end at their limits without these lemmas.
use denote.Param.Send.{IsSend, IsSync, sendable}
use Rattle.gql_base.proofs.boxed.Boxed.TheSendSync as boxed
use Rattle.gql_base.proofs.common.Common.TheSendSync as common
use Rattle.gql_base.proofs.items.Items.TheSendSync as items
use Rattle.gql_base.proofs.name.Name.TheSendSync as name
use Rattle.gql_base.proofs.number.Number.TheSendSync as number
use Rattle.gql_base.proofs.pairs.Pairs.TheSendSync as pairs
use Rattle.gql_base.proofs.text.Text.TheSendSync as text
use Rattle.gql_base.proofs.type_ref.TypeRef.TheLaws.TheKnot as type_knot
use Rattle.gql_base.proofs.value.Value.TheLaws.TheKnot as knot
use Rattle.gql_base.specs.contracts.type_ref.TypeRef as type_ref
use Rattle.gql_base.specs.contracts.value.Value as value

-- of what stands in a value
ruleset parts = (name.the_send, name.the_sync, number.the_send, number.the_sync, text.the_send, text.the_sync, common.the_send, common.the_sync, items.the_send, items.the_sync, pairs.the_send, pairs.the_sync)

pub value_send : IsSend value.the_row
value_send = search (knot.both_send-Value, parts, sendable) depth 20

pub value_sync : IsSync value.the_row
value_sync = search (knot.both_sync-Value, parts, sendable) depth 20

pub type_ref_send : IsSend type_ref.the_row
type_ref_send = search (type_knot.send-TypeRef, name.the_send, boxed.the_send, sendable) depth 20

pub type_ref_sync : IsSync type_ref.the_row
type_ref_sync = search (type_knot.sync-TypeRef, name.the_sync, boxed.the_sync, sendable) depth 20

-- the same where one of them is a field of another type
pub value_field_send : IsSend value.the_field.row
value_field_send = search (knot.both_send-Value, parts, sendable) depth 20

pub value_field_sync : IsSync value.the_field.row
value_field_sync = search (knot.both_sync-Value, parts, sendable) depth 20

pub type_ref_field_send : IsSend type_ref.the_field.row
type_ref_field_send = search (type_knot.send-TypeRef, name.the_send, boxed.the_send, sendable) depth 20

pub type_ref_field_sync : IsSync type_ref.the_field.row
type_ref_field_sync = search (type_knot.sync-TypeRef, name.the_sync, boxed.the_sync, sendable) depth 20
