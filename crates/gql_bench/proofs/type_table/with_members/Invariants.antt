use Rattle.std.proofs.Common.{◌≡◌, drop}
use Rattle.gql_schema.specs.NameSet.{with_names}
use Rattle.gql_bench.proofs.type_table.with_members.Given as goal

abbrev pub invariant-loop-name : goal.invariant-loop-name
invariant-loop-name l =
    record l.fn.union_type { members = with_names l.fn.union_type.members l.names }
    ≡ record l.union_type { members = with_names l.union_type.members (drop l.name-index l.names) }
