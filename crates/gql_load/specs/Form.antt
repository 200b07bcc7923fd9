-- The whole bench of `load`.
use Rattle.std.specs.Prelude.{ℕ, [], codes}
use Rattle.gql_base.specs.declared.value.Value.TheVariants as value
use Rattle.gql_form.specs.declared.answered.Answered as answered
use Rattle.gql_form.specs.declared.bench_form.BenchForm.{BenchForm}
use Rattle.gql_form.specs.declared.setup_form.HooksForm.TheVariants as hooks
use Rattle.gql_form.specs.declared.setup_form.SetupForm.{SetupForm}
use Rattle.gql_form.specs.declared.work_form.WorkForm.{WorkForm}
use Rattle.gql_form.specs.declared.work_form.WorkForm.TheVariants as work
use Rattle.gql_request.specs.Request.{request_for}
use Rattle.gql_load.specs.Schema.{load_schema}
use Rattle.gql_load.specs.Turns.{load_turns}

-- its request, in which two fields have one key
abbrev pub load_work : WorkForm
load_work = work.One (request_for (codes "{ rows { id tag } rows { id twice: id } }"))

-- its schema and its turns: there are neither cells nor hooks
abbrev pub load_setup : ℕ → SetupForm
load_setup rows =
    record {
      schema = load_schema rows;
      cells = [];
      root = answered.Value value.Null;
      turns = load_turns;
      hooks = hooks.None;
    }

-- the bench with so many rows
abbrev pub load_form : ℕ → BenchForm
load_form rows = record { setup = load_setup rows; work = load_work }
