-- Each kind of type may go to another thread, and threads may read it at once. The lemmas go from the arguments of a field to the
-- table of types: a search that meets values and type references again in each of them ends at its limits without these.
use denote.Param.Send.{IsSend, IsSync, sendable}
use Rattle.gql_base.proofs.SendLemmas.{value_send, value_sync, type_ref_send, type_ref_sync, value_field_send, value_field_sync}
use Rattle.gql_base.proofs.SendLemmas.{type_ref_field_send, type_ref_field_sync}
use Rattle.gql_base.proofs.items.Items.TheSendSync as items
use Rattle.gql_base.proofs.name.Name.TheSendSync as name
use Rattle.gql_base.proofs.names.Names.TheSendSync as names
use Rattle.gql_base.proofs.pairs.Pairs.TheSendSync as pairs
use Rattle.gql_base.proofs.text.Text.TheSendSync as text
use Rattle.gql_schema.proofs.interfaces.Interfaces.TheSendSync as interfaces
use Rattle.gql_schema.proofs.enum_.Enum.TheSendSync as enumeration
use Rattle.gql_schema.proofs.scalar.Scalar.TheSendSync as scalar
use Rattle.gql_schema.proofs.union.Union.TheSendSync as union
use Rattle.gql_schema.proofs.by_name.ByName.TheSendSync as by_name
use Rattle.gql_schema.proofs.name_set.NameSet.TheSendSync as name_set
use Rattle.gql_schema.specs.contracts.input_value.InputValue as input_value
use Rattle.gql_schema.specs.contracts.field.Field as field
use Rattle.gql_schema.specs.contracts.interface_field.InterfaceField as interface_field
use Rattle.gql_schema.specs.contracts.subscription_field.SubscriptionField as subscription_field
use Rattle.gql_schema.specs.contracts.input_object.InputObject as input_object
use Rattle.gql_schema.specs.contracts.interface.Interface as interface
use Rattle.gql_schema.specs.contracts.subscription.Subscription as subscription
use Rattle.gql_schema.specs.contracts.object.Object as object
use Rattle.gql_schema.specs.contracts.schema_type.SchemaType as schema_type
use Rattle.gql_schema.specs.contracts.types.Types as types

pub input_value_send : IsSend input_value.the_row
input_value_send = search (
  type_ref_send,
  type_ref_field_send,
  value_send,
  value_field_send,
  name.the_send,
  names.the_send,
  text.the_send,
  items.the_send,
  pairs.the_send,
  by_name.the_send,
  name_set.the_send,
  sendable,
) depth 20

pub input_value_sync : IsSync input_value.the_row
input_value_sync = search (
  type_ref_sync,
  type_ref_field_sync,
  value_sync,
  value_field_sync,
  name.the_sync,
  names.the_sync,
  text.the_sync,
  items.the_sync,
  pairs.the_sync,
  by_name.the_sync,
  name_set.the_sync,
  sendable,
) depth 20

pub field_send : IsSend field.the_row
field_send = search (
  type_ref_send,
  type_ref_field_send,
  input_value_send,
  name.the_send,
  names.the_send,
  text.the_send,
  items.the_send,
  pairs.the_send,
  by_name.the_send,
  name_set.the_send,
  sendable,
) depth 20

pub field_sync : IsSync field.the_row
field_sync = search (
  type_ref_sync,
  type_ref_field_sync,
  input_value_sync,
  name.the_sync,
  names.the_sync,
  text.the_sync,
  items.the_sync,
  pairs.the_sync,
  by_name.the_sync,
  name_set.the_sync,
  sendable,
) depth 20

pub interface_field_send : IsSend interface_field.the_row
interface_field_send = search (
  type_ref_send,
  type_ref_field_send,
  input_value_send,
  name.the_send,
  names.the_send,
  text.the_send,
  items.the_send,
  pairs.the_send,
  by_name.the_send,
  name_set.the_send,
  sendable,
) depth 20

pub interface_field_sync : IsSync interface_field.the_row
interface_field_sync = search (
  type_ref_sync,
  type_ref_field_sync,
  input_value_sync,
  name.the_sync,
  names.the_sync,
  text.the_sync,
  items.the_sync,
  pairs.the_sync,
  by_name.the_sync,
  name_set.the_sync,
  sendable,
) depth 20

pub subscription_field_send : IsSend subscription_field.the_row
subscription_field_send = search (
  type_ref_send,
  type_ref_field_send,
  input_value_send,
  name.the_send,
  names.the_send,
  text.the_send,
  items.the_send,
  pairs.the_send,
  by_name.the_send,
  name_set.the_send,
  sendable,
) depth 20

pub subscription_field_sync : IsSync subscription_field.the_row
subscription_field_sync = search (
  type_ref_sync,
  type_ref_field_sync,
  input_value_sync,
  name.the_sync,
  names.the_sync,
  text.the_sync,
  items.the_sync,
  pairs.the_sync,
  by_name.the_sync,
  name_set.the_sync,
  sendable,
) depth 20

pub input_object_send : IsSend input_object.the_row
input_object_send = search (
  input_value_send,
  name.the_send,
  names.the_send,
  text.the_send,
  items.the_send,
  pairs.the_send,
  by_name.the_send,
  name_set.the_send,
  sendable,
) depth 20

pub input_object_sync : IsSync input_object.the_row
input_object_sync = search (
  input_value_sync,
  name.the_sync,
  names.the_sync,
  text.the_sync,
  items.the_sync,
  pairs.the_sync,
  by_name.the_sync,
  name_set.the_sync,
  sendable,
) depth 20

pub interface_send : IsSend interface.the_row
interface_send = search (
  interface_field_send,
  name.the_send,
  names.the_send,
  text.the_send,
  items.the_send,
  pairs.the_send,
  by_name.the_send,
  name_set.the_send,
  sendable,
) depth 20

pub interface_sync : IsSync interface.the_row
interface_sync = search (
  interface_field_sync,
  name.the_sync,
  names.the_sync,
  text.the_sync,
  items.the_sync,
  pairs.the_sync,
  by_name.the_sync,
  name_set.the_sync,
  sendable,
) depth 20

pub subscription_send : IsSend subscription.the_row
subscription_send = search (
  subscription_field_send,
  name.the_send,
  names.the_send,
  text.the_send,
  items.the_send,
  pairs.the_send,
  by_name.the_send,
  name_set.the_send,
  sendable,
) depth 20

pub subscription_sync : IsSync subscription.the_row
subscription_sync = search (
  subscription_field_sync,
  name.the_sync,
  names.the_sync,
  text.the_sync,
  items.the_sync,
  pairs.the_sync,
  by_name.the_sync,
  name_set.the_sync,
  sendable,
) depth 20

pub object_send : IsSend object.the_row
object_send = search (
  field_send,
  name.the_send,
  names.the_send,
  text.the_send,
  items.the_send,
  pairs.the_send,
  by_name.the_send,
  name_set.the_send,
  interfaces.the_send,
  sendable,
) depth 20

pub object_sync : IsSync object.the_row
object_sync = search (
  field_sync,
  name.the_sync,
  names.the_sync,
  text.the_sync,
  items.the_sync,
  pairs.the_sync,
  by_name.the_sync,
  name_set.the_sync,
  interfaces.the_sync,
  sendable,
) depth 20

-- the same where one of them is what a type of the table is
pub object_inside_send : IsSend object.the_field.row
object_inside_send = search (
  field_send,
  name.the_send,
  names.the_send,
  text.the_send,
  items.the_send,
  pairs.the_send,
  by_name.the_send,
  name_set.the_send,
  interfaces.the_send,
  sendable,
) depth 20

pub object_inside_sync : IsSync object.the_field.row
object_inside_sync = search (
  field_sync,
  name.the_sync,
  names.the_sync,
  text.the_sync,
  items.the_sync,
  pairs.the_sync,
  by_name.the_sync,
  name_set.the_sync,
  interfaces.the_sync,
  sendable,
) depth 20

pub interface_inside_send : IsSend interface.the_field.row
interface_inside_send = search (
  interface_field_send,
  name.the_send,
  names.the_send,
  text.the_send,
  items.the_send,
  pairs.the_send,
  by_name.the_send,
  name_set.the_send,
  sendable,
) depth 20

pub interface_inside_sync : IsSync interface.the_field.row
interface_inside_sync = search (
  interface_field_sync,
  name.the_sync,
  names.the_sync,
  text.the_sync,
  items.the_sync,
  pairs.the_sync,
  by_name.the_sync,
  name_set.the_sync,
  sendable,
) depth 20

pub input_object_inside_send : IsSend input_object.the_field.row
input_object_inside_send = search (
  input_value_send,
  name.the_send,
  names.the_send,
  text.the_send,
  items.the_send,
  pairs.the_send,
  by_name.the_send,
  name_set.the_send,
  sendable,
) depth 20

pub input_object_inside_sync : IsSync input_object.the_field.row
input_object_inside_sync = search (
  input_value_sync,
  name.the_sync,
  names.the_sync,
  text.the_sync,
  items.the_sync,
  pairs.the_sync,
  by_name.the_sync,
  name_set.the_sync,
  sendable,
) depth 20

pub subscription_inside_send : IsSend subscription.the_field.row
subscription_inside_send = search (
  subscription_field_send,
  name.the_send,
  names.the_send,
  text.the_send,
  items.the_send,
  pairs.the_send,
  by_name.the_send,
  name_set.the_send,
  sendable,
) depth 20

pub subscription_inside_sync : IsSync subscription.the_field.row
subscription_inside_sync = search (
  subscription_field_sync,
  name.the_sync,
  names.the_sync,
  text.the_sync,
  items.the_sync,
  pairs.the_sync,
  by_name.the_sync,
  name_set.the_sync,
  sendable,
) depth 20

pub schema_type_send : IsSend schema_type.the_row
schema_type_send = search (
  object_send,
  interface_send,
  input_object_send,
  subscription_send,
  name.the_send,
  names.the_send,
  text.the_send,
  items.the_send,
  pairs.the_send,
  by_name.the_send,
  name_set.the_send,
  enumeration.the_send,
  scalar.the_send,
  union.the_send,
  object_inside_send,
  interface_inside_send,
  input_object_inside_send,
  subscription_inside_send,
  enumeration.the_field_send,
  scalar.the_field_send,
  union.the_field_send,
  sendable,
) depth 20

pub schema_type_sync : IsSync schema_type.the_row
schema_type_sync = search (
  object_sync,
  interface_sync,
  input_object_sync,
  subscription_sync,
  name.the_sync,
  names.the_sync,
  text.the_sync,
  items.the_sync,
  pairs.the_sync,
  by_name.the_sync,
  name_set.the_sync,
  enumeration.the_sync,
  scalar.the_sync,
  union.the_sync,
  object_inside_sync,
  interface_inside_sync,
  input_object_inside_sync,
  subscription_inside_sync,
  enumeration.the_field_sync,
  scalar.the_field_sync,
  union.the_field_sync,
  sendable,
) depth 20

pub types_send : IsSend types.the_row
types_send = search (
  schema_type_send,
  name.the_send,
  names.the_send,
  text.the_send,
  items.the_send,
  pairs.the_send,
  by_name.the_send,
  name_set.the_send,
  sendable,
) depth 20

pub types_sync : IsSync types.the_row
types_sync = search (
  schema_type_sync,
  name.the_sync,
  names.the_sync,
  text.the_sync,
  items.the_sync,
  pairs.the_sync,
  by_name.the_sync,
  name_set.the_sync,
  sendable,
) depth 20
