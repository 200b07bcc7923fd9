-- What a request is admitted by, what it runs, and the types that conflicts are looked for by may go to other threads, and threads
-- may read them at once.
use denote.Ref.{NamedLft}
use denote.Param.Send.{IsSend, IsSync, sendable}
use Rattle.gql_base.proofs.pairs.Pairs.TheSendSync as pairs
use Rattle.gql_base.proofs.text.Text.TheSendSync as text
use Rattle.gql_doc.proofs.SendLemmas.{operation_send, operation_sync, fragment_send, fragment_sync}
use Rattle.gql_doc.proofs.document.Positioned.TheSendSync as positioned
use Rattle.gql_schema.proofs.SendLemmas.{types_sync}
use Rattle.gql_fields.specs.contracts.site.Site as site
use Rattle.gql_admit.specs.contracts.chosen.Chosen as chosen
use Rattle.gql_conflicts.specs.contracts.rooted_types.RootedTypes as rooted

pub chosen_send : IsSend chosen.the_row
chosen_send = search (operation_send, fragment_send, text.the_send, pairs.the_send, positioned.the_send, positioned.the_field_send, sendable) depth 20

pub chosen_sync : IsSync chosen.the_row
chosen_sync = search (operation_sync, fragment_sync, text.the_sync, pairs.the_sync, positioned.the_sync, positioned.the_field_sync, sendable) depth 20

pub site_send : (a : NamedLft) → IsSend (site.the_row a)
site_send a = search (types_sync, sendable) depth 20

pub site_sync : (a : NamedLft) → IsSync (site.the_row a)
site_sync a = search (types_sync, sendable) depth 20

pub rooted_send : (a : NamedLft) → IsSend (rooted.the_row a)
rooted_send a = search (types_sync, sendable) depth 20

pub rooted_sync : (a : NamedLft) → IsSync (rooted.the_row a)
rooted_sync a = search (types_sync, sendable) depth 20
