use Rattle.std.proofs.Common.{rules, sym, ◌∙◌, to_z, arith}
use Rattle.std.proofs.lemmas.Int.{ints}
use Rattle.std.specs.Int.{w128}
use Rattle.gql_bench.proofs.SumLemmas.{total_more}
use Rattle.gql_bench.proofs.sum.total_of.Goals as goal

pub loop-path-preserved : goal.loop-path-preserved
loop-path-preserved c =
    total_more c.args.arguments.now c.args.paths.now c.loop-path.path-index c.path-item.result (to_z w128 c.loop-path.total-bits) c.in_ok-number.number _
    c.loop-path-test.true c.path-item.is (sym c.argument_at.ensures ∙ c.in_ok-number.was) (omega (arith, ints)) (search rules) c.loop-path.invariant.1
    c.loop-path.invariant.0
