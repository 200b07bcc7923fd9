use Rattle.std.proofs.Common.{[], ap, ◌∙◌}
use Rattle.serde_json.specs.View.{view}
use Rattle.gql_cli.proofs.GivesLemmas.{bench_gives}
use Rattle.gql_cli.specs.Gives.{shape_line}
use Rattle.gql_cli.proofs.bytes.json_outcome.Goals as goal

pub returns-in-Ok : goal.returns-in-Ok
returns-in-Ok g c =
    bench_gives c.args.command c.in-Ok.bench (view c.args.json) _ (rw c.in-Ok.is at c.in_ok-bench.ensures) c.bench_outcome.result c.bench_outcome.ensures

pub returns-in_ok-line-in-Err : goal.returns-in_ok-line-in-Err
returns-in_ok-line-in-Err g c = (
  [],
  (
    c.in-Err.place,
    rw c.in-Err.is at c.in_ok-bench.ensures,
    c.in_ok-line-in-Err.ensures ∙ ap shape_line c.as_str.ensures,
  ),
  tt,
)
