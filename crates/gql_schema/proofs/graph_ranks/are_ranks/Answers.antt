use Rattle.std.proofs.Common.{◌≡◌, length, subst, arith}
use Rattle.gql_schema.proofs.GraphRankLemmas.{IsTested, all_tested}
use Rattle.gql_schema.proofs.graph_ranks.are_ranks.Goals as goal

pub returns : goal.returns
returns c = λ so.
    let graph = c.args.graph.now in
    let ranks = c.args.ranks.now in
    let all : c.loop-place.place ≡ length graph = omega arith in
    all_tested graph ranks (subst (IsTested graph ranks) all c.loop-place.invariant)
