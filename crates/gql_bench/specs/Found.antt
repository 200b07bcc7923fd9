-- What is found in JSON for a command: a bench, or its first bad place.
use Rattle.std.specs.Prelude.{◌≡◌, ℕ, List, Ok, Err}
use Rattle.serde_json.specs.Data.{Data}
use Rattle.gql_form.specs.BenchForm.{form_in}
use Rattle.gql_form.specs.declared.bench_form.BenchForm.{BenchForm}
use Rattle.gql_form.specs.declared.command.Command.{Command}
use Rattle.gql_bench.specs.Bench.{IsBenchOf}
use Rattle.gql_bench.specs.declared.bench.Bench.{Bench}

-- the JSON value is read as this bench
abbrev pub IsReadAs : Command → Data → BenchForm → Type 0
IsReadAs command json form = form_in command json ≡ Ok form

-- the JSON value is no bench, and this is its first bad place
abbrev pub IsBadAt : Command → Data → List ℕ → Type 0
IsBadAt command json place = form_in command json ≡ Err place

-- the JSON value is a bench with these tables
abbrev pub HasTables : Command → Data → Bench → Type 0
HasTables command json bench =
    (form : BenchForm) × IsReadAs command json form × IsBenchOf form bench
