use Rattle.std.proofs.Common.{◌≡◌, drop, pos}
use Rattle.gql_bench.specs.Sum.{sum_behind}
use Rattle.gql_bench.proofs.SumLemmas.{IsSmall}
use Rattle.gql_bench.proofs.sum.total_of.Given as goal

abbrev pub invariant-loop-path : goal.invariant-loop-path
invariant-loop-path l =
    (sum_behind l.arguments (pos 0) l.paths ≡ sum_behind l.arguments l.total (drop l.path-index l.paths))
    × IsSmall l.total l.path-index
