use Rattle.std.specs.Prelude.{[], drop}
use Rattle.gql_request.proofs.HeaderLemmas.{IsTaken}
use Rattle.gql_request.proofs.header_folding.fold_responses.Given as goal

abbrev pub invariant-loop-response : goal.invariant-loop-response
invariant-loop-response l = IsTaken [] l.responses l.map (drop l.response-index l.responses)
