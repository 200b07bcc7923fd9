use Rattle.gql_schema.proofs.GraphRankLemmas.{IsTested}
use Rattle.gql_schema.proofs.graph_ranks.are_ranks.Given as goal

abbrev pub invariant-loop-place : goal.invariant-loop-place
invariant-loop-place l = IsTested l.graph l.ranks l.place
