use Rattle.std.proofs.Common.{◌≡◌, ◌++◌}
use Rattle.std.specs.Vec.Iter.{into_iter_items}
use Rattle.gql_bench.specs.Rule.{rules_of, sources_of}
use Rattle.gql_bench.proofs.rule_table.RuleTable.of_types.Given as goal

abbrev pub invariant-loop-form : goal.invariant-loop-form
invariant-loop-form l =
    (rules_of l.fn.types ≡ l.table.rules ++ rules_of (into_iter_items l.form-iterator))
    × (sources_of l.fn.types ≡ l.table.sources ++ sources_of (into_iter_items l.form-iterator))
