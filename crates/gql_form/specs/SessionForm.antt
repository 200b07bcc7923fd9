-- A WebSocket session with the script of what its client sends.
use Rattle.std.specs.Prelude.{[], ◌∷◌, codes, Ok}
use Rattle.serde_json.specs.Data.{Data}
use Rattle.gql_base.specs.ReadJson.{Reading}
use Rattle.gql_protocols.specs.Protocols.{protocol_named}
use Rattle.gql_protocols.specs.declared.protocols.Protocols.{Protocols}
use Rattle.gql_form.specs.declared.session_form.EntryForm.{EntryForm}
use Rattle.gql_form.specs.declared.session_form.SessionForm.{SessionForm}
use Rattle.gql_form.specs.Plain.{needed, text_of, count_of, ◌>>=◌}
use Rattle.gql_form.specs.Read.{member, optional, each, only}

abbrev pub protocol_of : Data → Reading Protocols
protocol_of json = do
  text ← text_of json
  needed (protocol_named text)

-- when the session is polled, and what its client has sent by then
abbrev pub entry_of : Data → Reading EntryForm
entry_of json = do
  at ← member (codes "at") count_of json
  text ← optional (codes "text") text_of json
  _ ← only (codes "at" ∷ codes "text" ∷ []) json
  Ok (record { at = at; text = text })

abbrev pub session_of : Data → Reading SessionForm
session_of json = do
  protocol ← member (codes "protocol") protocol_of json
  keepalive ← optional (codes "keepalive") count_of json
  script ← member (codes "script") (each entry_of) json
  _ ← only (codes "protocol" ∷ codes "keepalive" ∷ codes "script" ∷ []) json
  Ok (record { protocol = protocol; keepalive = keepalive; script = script })
