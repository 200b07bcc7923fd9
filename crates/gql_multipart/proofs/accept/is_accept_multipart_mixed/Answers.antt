use Rattle.std.proofs.Common.{◌∙◌, ap}
use Rattle.gql_multipart.proofs.BestLemmas.{decided_by}
use Rattle.gql_multipart.specs.Accept.{prefers_multipart}
use Rattle.gql_multipart.proofs.accept.is_accept_multipart_mixed.Goals as goal

pub returns-clause-decided : goal.returns-clause-decided
returns-clause-decided c =
    decided_by c.args.accept.now c.prefers_multipart.result
    (c.prefers_multipart.ensures ∙ ap prefers_multipart c.as_bytes.ensures.value)
