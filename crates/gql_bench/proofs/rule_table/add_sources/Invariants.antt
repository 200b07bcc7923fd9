use Rattle.std.proofs.Common.{◌≡◌, ◌++◌, map}
use Rattle.std.specs.Vec.Iter.{into_iter_items}
use Rattle.gql_base.specs.Pairs.{values_of}
use Rattle.gql_bench.specs.Rule.{field_events}
use Rattle.gql_bench.proofs.rule_table.add_sources.Given as goal

abbrev pub invariant-loop-field : goal.invariant-loop-field
invariant-loop-field l =
    l.initial.sources ++ map field_events (values_of l.fn.fields) ≡ l.sources ++ map field_events (into_iter_items l.field-iterator)
