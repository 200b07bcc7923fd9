use Rattle.std.proofs.Common.{ap}
use Rattle.gql_request.proofs.BatchLemmas.{one_changed}
use Rattle.gql_request.proofs.batch_request.BatchRequest.variables.Goals as goal

pub loop-place-preserved : goal.loop-place-preserved
loop-place-preserved c =
    one_changed (λ request. record request { variables = c.args.variables.now }) _ _ _ _ _ c.loop-place.invariant c.at_mut.ensures.value
    (ap (λ variables. record c.at_mut.result.now { variables = variables }) c.in_ok-self.ensures)
