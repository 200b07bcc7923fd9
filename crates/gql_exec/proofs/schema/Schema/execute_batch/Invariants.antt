use Rattle.gql_tasks.specs.Progress.{seen}
use Rattle.gql_exec.proofs.BatchLemmas.{IsSoFar}
use Rattle.gql_exec.proofs.schema.Schema.execute_batch.Given as goal

abbrev pub invariant-loop-request : goal.invariant-loop-request
invariant-loop-request g l =
    IsSoFar g.R.ResolverSet g.P.Turns l.self l.requests l.request-index l.responses (seen l.initial.resolvers l.initial.turns) (seen l.resolvers l.turns)
