use Rattle.std.proofs.Common.{sym, ◌∙◌}
use Rattle.serde_json.specs.View.{view}
use Rattle.gql_bench.proofs.CellLemmas.{cells_below}
use Rattle.gql_bench.proofs.found.bench_of.Goals as goal

pub bench_over-requires : goal.bench_over-requires
bench_over-requires c =
    cells_below c.args.command (view c.args.json.now) _ c.in-Ok.form c.in_ok-form.ensures c.in-Ok.is

pub returns-in_ok-bench_over-in-Ok : goal.returns-in_ok-bench_over-in-Ok
returns-in_ok-bench_over-in-Ok c = (
  c.in-Ok.form,
  sym c.in_ok-form.ensures ∙ c.in-Ok.is,
  c.in_ok-bench_over-in-Ok.ensures,
)
