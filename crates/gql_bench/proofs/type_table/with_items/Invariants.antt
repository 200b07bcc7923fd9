use Rattle.std.proofs.Common.{◌≡◌, drop}
use Rattle.gql_schema.specs.NameSet.{with_names}
use Rattle.gql_bench.proofs.type_table.with_items.Given as goal

abbrev pub invariant-loop-name : goal.invariant-loop-name
invariant-loop-name l =
    record l.fn.enum_type { items = with_names l.fn.enum_type.items l.names }
    ≡ record l.enum_type { items = with_names l.enum_type.items (drop l.name-index l.names) }
