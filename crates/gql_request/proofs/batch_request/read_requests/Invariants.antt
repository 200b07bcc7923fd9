use Rattle.std.proofs.Common.{◌≡◌, [], drop}
use Rattle.gql_request.specs.BatchRequest.{requests_in}
use Rattle.gql_request.proofs.batch_request.read_requests.Given as goal

abbrev pub invariant-loop-value : goal.invariant-loop-value
invariant-loop-value l = requests_in [] l.values ≡ requests_in l.requests (drop l.value-index l.values)
