-- A field as it is declared may go to another thread, and threads may read it at once: it is read by references.
use denote.Ref.{NamedLft}
use denote.Param.Send.{IsSend, IsSync, sendable}
use Rattle.gql_base.proofs.SendLemmas.{type_ref_sync}
use Rattle.gql_schema.proofs.SendLemmas.{input_value_sync}
use Rattle.gql_schema.proofs.by_name.ByName.TheSendSync as by_name
use Rattle.gql_schema.specs.contracts.declared_field.DeclaredField as declared

pub declared_send : (a : NamedLft) → IsSend (declared.the_row a)
declared_send a = search (type_ref_sync, input_value_sync, by_name.the_sync, sendable) depth 20

pub declared_sync : (a : NamedLft) → IsSync (declared.the_row a)
declared_sync a = search (type_ref_sync, input_value_sync, by_name.the_sync, sendable) depth 20
