use Rattle.std.proofs.Common.{refl}
use Rattle.gql_request.proofs.BatchLemmas.{one_changed}
use Rattle.gql_request.proofs.batch_request.BatchRequest.in_mode.Goals as goal

pub loop-place-preserved : goal.loop-place-preserved
loop-place-preserved c =
    one_changed (λ request. record request { introspection_mode = c.args.mode }) _ _ _ _ _ c.loop-place.invariant c.at_mut.ensures.value refl
