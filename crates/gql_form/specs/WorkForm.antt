-- What a command does with a bench: it has one member that is the command's own.
use Rattle.std.specs.Prelude.{ℕ, List, [], codes, Result, Ok, Err}
use Rattle.serde_json.specs.Data.{Data}
use Rattle.gql_base.specs.ReadJson.{Reading, read_in}
use Rattle.gql_base.specs.declared.read_json.EnumForm.TheVariants.{Plain}
use Rattle.gql_form.specs.declared.command.Command.{Command}
use Rattle.gql_form.specs.declared.command.Command.TheVariants as command
use Rattle.gql_form.specs.declared.work_form.WorkForm.{WorkForm}
use Rattle.gql_form.specs.declared.work_form.WorkForm.TheVariants as work
use Rattle.gql_form.specs.Plain.{◌>>=◌}
use Rattle.gql_form.specs.Read.{member}
use Rattle.gql_form.specs.SessionForm.{session_of}
use Rattle.gql_request.specs.BatchRequest.{batch_of}
use Rattle.gql_request.specs.Request.{request_of}
use Rattle.gql_request.specs.declared.batch_request.BatchRequest.{BatchRequest}
use Rattle.gql_request.specs.declared.request.Request.{Request}

-- the name of the command's own member
abbrev pub own_word : Command → List ℕ
own_word command.Execute = codes "request"
own_word command.Record = codes "request"
own_word command.Batch = codes "requests"
own_word command.Threads = codes "requests"
own_word command.Stream = codes "request"
own_word command.Ws = codes "ws"

-- what is refused, whatever the reason is, is bad as a whole
abbrev pub unless_refused : {A : Type 0} → Result A (List ℕ) → Reading A
unless_refused (Ok read) = Ok read
unless_refused (Err reason) = Err []

-- a request, which is read as a value first
abbrev pub request_in : Data → Reading Request
request_in json = do
  value ← read_in Plain json
  unless_refused (request_of value)

-- a batch of requests, alike
abbrev pub batch_in : Data → Reading BatchRequest
batch_in json = do
  value ← read_in Plain json
  unless_refused (batch_of value)

abbrev pub one_request_in : Data → Reading WorkForm
one_request_in json = do
  request ← member (codes "request") request_in json
  Ok (work.One request)

abbrev pub requests_in : Data → Reading WorkForm
requests_in json = do
  requests ← member (codes "requests") batch_in json
  Ok (work.Batch requests)

abbrev pub session_in : Data → Reading WorkForm
session_in json = do
  session ← member (codes "ws") session_of json
  Ok (work.Session session)

abbrev pub work_in : Command → Data → Reading WorkForm
work_in command.Execute json = one_request_in json
work_in command.Record json = one_request_in json
work_in command.Batch json = requests_in json
work_in command.Threads json = requests_in json
work_in command.Stream json = one_request_in json
work_in command.Ws json = session_in json
