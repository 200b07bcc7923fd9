use Rattle.std.proofs.Common.{◌≡◌, Some, length, slice_get}
use Rattle.gql_bench.proofs.CellLemmas.{one_below}
use Rattle.gql_bench.proofs.table.leave_effect.Goals as goal

-- the rule that is found names no cell but one of these
pub bump_cell-requires : goal.bump_cell-requires
bump_cell-requires c =
    let at : slice_get c.args.rules.now c.args.call.now.resolver ≡ Some c.in-Some.rule.now = (let found = c.in-Some.ensures in cc) in
    one_below (length c.args.cells.now) c.args.rules.now c.args.call.now.resolver c.in-Some.rule.now c.requires at
