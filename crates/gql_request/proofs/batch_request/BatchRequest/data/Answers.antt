use Rattle.std.proofs.Common.{ap, ◌∙◌}
use Rattle.gql_request.specs.Data.{put_key}
use Rattle.gql_request.proofs.BatchLemmas.{one_changed}
use Rattle.gql_request.proofs.batch_request.BatchRequest.data.Goals as goal

pub loop-place-preserved : goal.loop-place-preserved
loop-place-preserved c =
    let held = c.at_mut.result.now.query_data in
    one_changed (λ request. record request { query_data = put_key request.query_data c.args.key.0 c.args.value.now }) _ _ _ _ _
    c.loop-place.invariant c.at_mut.ensures.value
    (ap (λ layer. record c.at_mut.result.now { query_data = layer }) (c.in_ok-insert.ensures.ok ∙ ap (put_key held c.args.key.0) c.in_ok-copy.ensures))
