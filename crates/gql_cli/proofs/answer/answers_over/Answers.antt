use Rattle.std.proofs.Common.{[], ◌∷◌, refl, subst, sym}
use Rattle.gql_bench.specs.contracts.list_turns.ListTurnsTurns.TheImpl.{ghosts}
use Rattle.gql_tasks.specs.Progress.{seen}
use Rattle.gql_exec.specs.Batch.{ExecutesAll}
use Rattle.gql_request.specs.BatchRequest.{requests_of}
use Rattle.gql_cli.specs.Request.{rooted_with}
use Rattle.gql_cli.proofs.answer.answers_over.Goals as goal

pub returns-in_ok-response-in-Single-clause-executed : goal.returns-in_ok-response-in-Single-clause-executed
returns-in_ok-response-in-Single-clause-executed g c =
    let start = seen c.args.set.now c.args.turns.now in
    let new = seen c.response_over.new.set c.response_over.new.turns in
    let response = c.in_ok-response-in-Single.response in
    subst (λ requests. ExecutesAll g.S.ResolverSet ghosts c.args.schema.now (rooted_with c.args.root (requests_of requests)) (response ∷ []) start new) (sym c.in-Single.is)
    (subst (λ request. ExecutesAll g.S.ResolverSet ghosts c.args.schema.now (request ∷ []) (response ∷ []) start new) c.root_value-request.ensures
    (new, c.in_ok-response-in-Single.ensures, refl))
