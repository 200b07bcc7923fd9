use Rattle.gql_request.specs.Data.{put_key}
use Rattle.gql_request.proofs.BatchLemmas.{IsChanged}
use Rattle.gql_request.proofs.batch_request.BatchRequest.data.Given as goal

abbrev pub invariant-loop-place : goal.invariant-loop-place
invariant-loop-place l =
    IsChanged (λ request. record request { query_data = put_key request.query_data l.key.0 l.value }) l.place l.initial.self l.self
