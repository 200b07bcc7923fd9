use Rattle.gql_request.proofs.BatchLemmas.{IsChanged}
use Rattle.gql_request.proofs.batch_request.BatchRequest.in_mode.Given as goal

abbrev pub invariant-loop-place : goal.invariant-loop-place
invariant-loop-place l =
    IsChanged (λ request. record request { introspection_mode = l.mode }) l.place l.initial.self l.self
