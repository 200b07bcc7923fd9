-- The requests of a bench, and how responses stand to them.
use Rattle.std.specs.Prelude.{ℤ, List, map}
use Rattle.gql_bench.specs.declared.bench.Bench.{Bench}
use Rattle.gql_exec.specs.DynamicRequest.{rooted}
use Rattle.gql_exec.specs.declared.dynamic_request.DynamicRequest.{DynamicRequest}
use Rattle.gql_request.specs.BatchRequest.{requests_of}
use Rattle.gql_request.specs.declared.batch_request.BatchRequest.{BatchRequest}
use Rattle.gql_request.specs.declared.batch_request.BatchRequest.TheVariants as batch
use Rattle.gql_request.specs.declared.batch_response.BatchResponse.{BatchResponse}
use Rattle.gql_request.specs.declared.batch_response.BatchResponse.TheVariants as answered
use Rattle.gql_request.specs.declared.request.Request.{Request}
use Rattle.gql_resolve.specs.declared.field_value.FieldValue.{FieldValue}

-- requests in their order, each with this value for its root
abbrev pub rooted_with : FieldValue ℤ → List Request → List (DynamicRequest ℤ)
rooted_with root requests = map (λ (request : Request). rooted request root) requests

-- the requests of a bench, with its value for their roots
abbrev pub requests_for : Bench → List (DynamicRequest ℤ)
requests_for bench = rooted_with bench.root (requests_of bench.requests)

-- a single request has a single response, and a list of requests a list of them
abbrev pub AreAlike : BatchRequest → BatchResponse → Type 0
AreAlike (batch.Single request) (answered.Single response) = Unit {0}
AreAlike (batch.Single request) (answered.Batch responses) = ⊥
AreAlike (batch.Batch requests) (answered.Single response) = ⊥
AreAlike (batch.Batch requests) (answered.Batch responses) = Unit {0}
