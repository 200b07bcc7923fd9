use Rattle.std.proofs.Common.{◌≡◌}
use Rattle.gql_load.specs.Rows.{load_rows}
use Rattle.gql_load.proofs.rows.load_rows.Given as goal

abbrev pub invariant-loop-place : goal.invariant-loop-place
invariant-loop-place l = l.rows ≡ load_rows l.place
