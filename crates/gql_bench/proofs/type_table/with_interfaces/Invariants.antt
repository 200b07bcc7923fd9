use Rattle.std.proofs.Common.{◌≡◌, drop}
use Rattle.gql_schema.specs.NameSet.{with_names}
use Rattle.gql_bench.proofs.type_table.with_interfaces.Given as goal

abbrev pub invariant-loop-name : goal.invariant-loop-name
invariant-loop-name l =
    record l.fn.object { interfaces = with_names l.fn.object.interfaces l.names }
    ≡ record l.object { interfaces = with_names l.object.interfaces (drop l.name-index l.names) }
