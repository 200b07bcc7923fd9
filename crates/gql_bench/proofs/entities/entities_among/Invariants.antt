use Rattle.std.proofs.Common.{◌≡◌, [], drop}
use Rattle.gql_bench.specs.Entities.{entities_behind}
use Rattle.gql_bench.proofs.entities.entities_among.Given as goal

abbrev pub invariant-loop-value : goal.invariant-loop-value
invariant-loop-value l = entities_behind [] l.values ≡ entities_behind l.entities (drop l.value-index l.values)
