use Rattle.std.proofs.Common.{◌≡◌, ℤ, List, length, Some, slice_get, sym, subst}
use Rattle.std.specs.Prelude.{IsTrue}
use Rattle.gql_bench.specs.Cells.{rule_below}
use Rattle.gql_bench.proofs.CellLemmas.{one_below}
use Rattle.gql_bench.proofs.table.Table.value_at_once.Goals as goal

-- the rule that is found names no cell but one of the table's
pub value_of-requires : goal.value_of-requires
value_of-requires c =
    let at : slice_get c.args.self.now.rules c.args.call.now.resolver ≡ Some c.in-Some.rule.now = (let found = c.in-Some.ensures in let same = c.deref.ensures in cc) in
    let all : c.as_slice.result.now ≡ c.args.self.now.cells = (let is = c.as_slice.ensures in cc) in
    subst (λ (cells : List ℤ). IsTrue (rule_below (length cells) c.in-Some.rule.now)) (sym all)
    (one_below (length c.args.self.now.cells) c.args.self.now.rules c.args.call.now.resolver c.in-Some.rule.now c.args.self.now.placed at)
