-- What the bytes of a bench give to a command: what is to be written, and the record of the polls
-- that were made for it.
use Rattle.std.specs.Prelude.{◌≡◌, ℕ, true, false, List, [], ◌∷◌, ◌++◌, codes, Option}
use Rattle.std.specs.Prelude.{Some, None, MatchOption, if◌then◌else◌}
use Rattle.std.specs.List.{flat_map}
use Rattle.std.specs.Str.{is_utf8}
use Rattle.serde_json.specs.Data.{Data}
use Rattle.serde_json.specs.Read.{read}
use Rattle.gql_base.specs.declared.server_error.ServerError.{ServerError}
use Rattle.gql_bench.specs.Built.{is_built}
use Rattle.gql_bench.specs.Found.{HasTables, IsBadAt}
use Rattle.gql_bench.specs.RecordText.{record_lines}
use Rattle.gql_bench.specs.declared.bench.Bench.{Bench}
use Rattle.gql_cli.specs.Answer.{IsRefusedTable, IsResponseToBench}
use Rattle.gql_cli.specs.Outcome.{line}
use Rattle.gql_cli.specs.declared.outcome.Outcome.{Outcome}
use Rattle.gql_cli.specs.declared.outcome.Outcome.TheVariants.{Answered, BadSchema}
use Rattle.gql_cli.specs.declared.outcome.Outcome.TheVariants.{BadShape, HasErrors}
use Rattle.gql_cli.specs.declared.outcome.Outcome.TheVariants.{Loaded, NotBuilt, NotJson}
use Rattle.gql_form.specs.declared.command.Command.{Command}
use Rattle.gql_form.specs.declared.command.Command.TheVariants.{Record}
use Rattle.gql_request.specs.BatchResponse.{batch_json, responses_of}
use Rattle.gql_request.specs.declared.batch_response.BatchResponse.{BatchResponse}
use Rattle.gql_request.specs.declared.response.Response.{Response}
use Rattle.gql_resolve.specs.declared.record_entry.RecordEntry.{RecordEntry}

-- the JSON value of the bytes: where they are UTF-8, what serde_json reads
unfoldable pub json_of : List ℕ → Option Data
json_of bytes = if is_utf8 bytes then read bytes else None

-- the line of a response: its JSON, and the end of the line
abbrev pub response_line : BatchResponse → List ℕ
response_line response = line (batch_json response)

-- the lines that a command writes of a record, before the response: `record` alone writes some
abbrev pub lines_for : Command → List RecordEntry → List ℕ
lines_for Record entries = record_lines entries
lines_for _ entries = []

-- what a command writes of a response and its record
abbrev pub response_text : Command → List RecordEntry → BatchResponse → List ℕ
response_text command entries response = lines_for command entries ++ response_line response

-- the errors of all responses
abbrev pub errors_in : List Response → List ServerError
errors_in responses = flat_map (λ (response : Response). response.errors) responses

-- what a response of this text is to a run, by its errors
abbrev pub outcome_for : List ServerError → List ℕ → Outcome
outcome_for [] text = Answered text
outcome_for (error ∷ errors) text = HasErrors text

-- a built bench gives a response to a command, which is this to a run, with this record
pub record IsAnswer (command : Command) (bench : Bench) (outcome : Outcome)
    (entries : List RecordEntry) : Type 0 where
  pub built : is_built bench ≡ true
  pub response : BatchResponse
  pub answered : IsResponseToBench bench (Some entries) response
  pub is : outcome
      ≡ outcome_for (errors_in (responses_of response)) (response_text command entries response)

-- the bench isn't built
abbrev pub IsUnbuilt : Bench → Type 0
IsUnbuilt bench = is_built bench ≡ false

-- the line that tells a bad place
abbrev pub shape_line : List ℕ → List ℕ
shape_line place = codes "bench: bad shape at " ++ line place

-- the line that tells why a schema is refused
abbrev pub schema_line : List ℕ → List ℕ
schema_line text = codes "schema: " ++ line text

-- the table of a built bench's types is refused, and this line says why
pub record IsUnsound (bench : Bench) (text : List ℕ) : Type 0 where
  pub built : is_built bench ≡ true
  pub why : List ℕ
  pub refused : IsRefusedTable bench why
  pub is : text ≡ schema_line why

-- what a bench gives to a command
abbrev pub BenchGives : Command → Bench → Outcome → List RecordEntry → Type 0
BenchGives command bench NotBuilt entries = IsUnbuilt bench
BenchGives command bench (BadSchema text) entries = IsUnsound bench text
BenchGives command bench (Answered text) entries = IsAnswer command bench (Answered text) entries
BenchGives command bench (HasErrors text) entries = IsAnswer command bench (HasErrors text) entries
BenchGives command bench outcome entries = ⊥

-- the JSON value is no bench, and this line tells its first bad place
abbrev pub IsBadShape : Command → Data → List ℕ → Type 0
IsBadShape command json text =
    (place : List ℕ) × IsBadAt command json place × (text ≡ shape_line place)

-- what a JSON value gives to a command
abbrev pub JsonGives : Command → Data → Outcome → List RecordEntry → Type 0
JsonGives command json (BadShape text) entries = IsBadShape command json text
JsonGives command json outcome entries =
    (bench : Bench) × HasTables command json bench
    × BenchGives command bench outcome entries

-- what the bytes of a bench give to a command
abbrev pub Gives : Command → List ℕ → Outcome → List RecordEntry → Type 0
Gives command bytes NotJson entries = json_of bytes ≡ None
Gives command bytes outcome entries =
    (json : Data) × (json_of bytes ≡ Some json) × JsonGives command json outcome entries

-- where there is a response
abbrev pub IfResponse : Outcome → Type 0 → Type 0
IfResponse (Answered text) P = P
IfResponse (HasErrors text) P = P
IfResponse (Loaded text) P = P
IfResponse outcome P = Unit {0}

-- this is given with some record, and where it is a response, that record was told
abbrev pub WithRecord : (Outcome → List RecordEntry → Type 0) → (List RecordEntry → Type 0)
    → Outcome → Type 0
WithRecord GivesBoth Told outcome =
    (entries : List RecordEntry) × GivesBoth outcome entries × IfResponse outcome (Told entries)

-- a set is held, and it told these entries and nothing else
abbrev pub HoldsTold : {S : Type 0} → Option S → (S → Option (List RecordEntry)) → List RecordEntry
    → Type 0
HoldsTold held told entries = MatchOption held ⊥ (λ set. told set ≡ Some entries)
