-- A bench with all its members, as it is made of what was read.
use Rattle.std.specs.Prelude.{◌≡◌, [], Option, Some, None}
use Rattle.gql_settings.specs.Builder.{settings_of, table_of}
use Rattle.gql_form.specs.declared.bench_form.BenchForm.{BenchForm}
use Rattle.gql_form.specs.declared.session_form.SessionForm.{SessionForm}
use Rattle.gql_form.specs.declared.work_form.WorkForm.{WorkForm}
use Rattle.gql_form.specs.declared.work_form.WorkForm.TheVariants as work
use Rattle.gql_request.specs.declared.batch_request.BatchRequest.{BatchRequest}
use Rattle.gql_request.specs.declared.batch_request.BatchRequest.TheVariants as batch
use Rattle.gql_bench.specs.Built.{is_built, is_built_form, is_logged}
use Rattle.gql_bench.specs.Given.{given_of}
use Rattle.gql_bench.specs.Rule.{schema_rules, sources_of}
use Rattle.gql_bench.specs.SchemaTable.{declared_table}
use Rattle.gql_bench.specs.Settings.{settings_in}
use Rattle.gql_bench.specs.declared.bench.Bench.{Bench}

-- the requests of a bench: a session has none
abbrev pub requests_in : WorkForm → BatchRequest
requests_in (work.One request) = batch.Single request
requests_in (work.Batch requests) = requests
requests_in (work.Session session) = batch.Batch []

-- the session of a bench, where it has one
abbrev pub session_in : WorkForm → Option SessionForm
session_in (work.Session session) = Some session
session_in _ = None

-- the bench that was read as this form, member by member
pub record IsBenchOf (form : BenchForm) (bench : Bench) : Type 0 where
  pub table : table_of bench.builder ≡ declared_table form.setup.schema
  pub settings : settings_of bench.builder ≡ settings_in form.setup.schema
  pub rules : bench.rules ≡ schema_rules form.setup.schema
  pub sources : bench.sources ≡ sources_of form.setup.schema.types
  pub cells : bench.cells ≡ form.setup.cells
  pub root : bench.root ≡ given_of form.setup.root
  pub turns : bench.turns ≡ form.setup.turns
  pub log : bench.log ≡ is_logged form.setup.hooks
  pub requests : bench.requests ≡ requests_in form.work
  pub ws : bench.ws ≡ session_in form.work
  pub built : is_built bench ≡ is_built_form form
