-- Entries, works, books and services may go to other threads, and threads may use a service at once: a lemma for each type, from
-- below. A type whose bound has associated types has none of its own making.
use denote.Param.Send.{IsSend, IsSync, sendable}
use denote.RattleType.{RattleType}
use denote.Ref.{NamedLft}
use denote.Struct.Field.{shr_ref_field}
use denote.Struct.Tuple.{TupleAt}
use Rattle.std.proofs.Common.{ℕ, List, [], ◌∷◌}
use Rattle.std.proofs.Crossing as std
use Rattle.std.proofs.sync.ledger.Book.TheSendSync as tally_is
use Rattle.std.specs.contracts.alloc.Global as global
use Rattle.std.specs.contracts.result.Result as result
use Rattle.std.specs.declared.sync.ledger.Ledger.{Ghosts as Ledgers}
use Rattle.gql_base.specs.contracts.no_memory.NoMemory as no_memory
use Rattle.gql_exec.proofs.SendLemmas.{schema_send, schema_sync}
use Rattle.gql_exec.specs.contracts.dynamic_request.DynamicRequest as dynamic_request
use Rattle.gql_exec.specs.contracts.schema.Schema as schema
use Rattle.gql_request.proofs.SendLemmas.{request_field_send, request_field_sync, response_field_send, response_send}
use Rattle.gql_request.specs.contracts.response.Response as response
use Rattle.gql_resolve.proofs.SendLemmas.{field_value_field_send, field_value_field_sync}
use Rattle.gql_resolve.specs.declared.resolver_set.ResolverSet.{Ghosts as Resolving}
use Rattle.gql_settings.proofs.SendLemmas.{settings_field_sync, types_field_sync}
use Rattle.gql_serve.specs.contracts.book.Book as book
use Rattle.gql_serve.specs.contracts.entry.Entry as entry
use Rattle.gql_serve.specs.contracts.entry.Outcome as outcome
use Rattle.gql_serve.specs.contracts.locked.Locked as locked
use Rattle.gql_serve.specs.contracts.served.Served as served
use Rattle.gql_serve.specs.contracts.threads.Work as work
use Rattle.gql_serve.specs.declared.roll.Roll.{Ghosts as Rolls}

-- a request with the value of its root, as a part of another type
pub dynamic_request_field_send : (V : RattleType) → IsSend V → IsSend (dynamic_request.the_field V).row
dynamic_request_field_send V v = search (request_field_send, field_value_field_send, sendable) depth 20

pub dynamic_request_field_sync : (V : RattleType) → IsSync V → IsSync (dynamic_request.the_field V).row
dynamic_request_field_sync V v = search (request_field_sync, field_value_field_sync, sendable) depth 20

-- a schema, as a part of another type
pub schema_field_sync : IsSync schema.the_field.row
schema_field_sync = search (types_field_sync, settings_field_sync, sendable) depth 20

-- what a closure that executes requests borrows: memory, and a schema
pub borrowed_sync : (ν : List ℕ) (memory shared : NamedLft)
    → IsSync (TupleAt ν ((shr_ref_field memory global.the_row tt).row ∷ (shr_ref_field shared schema.the_row tt).row ∷ []))
borrowed_sync ν memory shared = search (schema_sync, std.crosses, sendable) depth 20

outcome_field_send : IsSend outcome.the_field.row
outcome_field_send = search (response_field_send, sendable) depth 20

pub entry_send : (V : RattleType) → IsSend V → IsSend (entry.the_row V)
entry_send V v = search (dynamic_request_field_send, outcome_field_send, sendable) depth 20

-- what is answered to a work
pub answer_send : IsSend (result.the_row response.the_row no_memory.the_row)
answer_send = search (response_send, sendable) depth 20

pub work_send : (R P V W F : RattleType) → IsSend R → IsSend P → IsSend V → IsSend W → IsSend F → IsSend (work.the_row R P V W F)
work_send R P V W F r p v w f = search (dynamic_request_field_send, sendable) depth 20

module _ (R V W F : RattleType) (set : Resolving R.Denot V.Denot W.Denot F.Denot) where
  pub book_send : IsSend R → IsSend V → IsSend W → IsSend F → IsSend (book.the_row R V W F set)
  book_send r v w f = search (entry_send, schema_send, std.crosses, sendable) depth 20

  pub book_field_send : IsSend R → IsSend V → IsSend W → IsSend F → IsSend (book.the_field R V W F set).row
  book_field_send r v w f = search (entry_send, schema_send, std.crosses, sendable) depth 20

module _ (R L V W F : RattleType) (set : Resolving R.Denot V.Denot W.Denot F.Denot) (roll : Rolls L.Denot R.Denot)
    (ledger : Ledgers L.Denot) where
  pub locked_send : IsSend R → IsSend V → IsSend W → IsSend F → IsSend (locked.the_row R L V W F set roll ledger)
  locked_send r v w f = search (book_field_send, tally_is.the_send, sendable) depth 20

  locked_field_send : IsSend R → IsSend V → IsSend W → IsSend F → IsSend (locked.the_field R L V W F set roll ledger).row
  locked_field_send r v w f = search (book_field_send, tally_is.the_send, sendable) depth 20

  pub served_send : IsSend R → IsSend V → IsSend W → IsSend F → IsSend (served.the_row R L V W F set roll ledger)
  served_send r v w f = search (locked_field_send, std.crosses, sendable) depth 20

  pub served_sync : IsSend R → IsSend V → IsSend W → IsSend F → IsSync (served.the_row R L V W F set roll ledger)
  served_sync r v w f = search (locked_field_send, std.crosses, sendable) depth 20

  pub served_field_sync : IsSend R → IsSend V → IsSend W → IsSend F → IsSync (served.the_field R L V W F set roll ledger).row
  served_field_sync r v w f = search (locked_field_send, std.crosses, sendable) depth 20
