use Rattle.std.proofs.Common.{◌≡◌, ◌++◌, map}
use Rattle.std.specs.Vec.Iter.{into_iter_items}
use Rattle.gql_base.specs.Pairs.{values_of}
use Rattle.gql_bench.specs.Rule.{field_rule}
use Rattle.gql_bench.proofs.rule_table.add_rules.Given as goal

abbrev pub invariant-loop-field : goal.invariant-loop-field
invariant-loop-field l =
    l.initial.rules ++ map field_rule (values_of l.fn.fields) ≡ l.rules ++ map field_rule (into_iter_items l.field-iterator)
