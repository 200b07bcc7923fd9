-- The responses to a batch of requests, and their JSON text.
use Rattle.std.specs.Prelude.{ℕ, List, [], ◌∷◌}
use Rattle.gql_base.specs.ErrorJson.{list_json}
use Rattle.gql_request.specs.Response.{response_json}
use Rattle.gql_request.specs.declared.batch_response.BatchResponse.{BatchResponse}
use Rattle.gql_request.specs.declared.batch_response.BatchResponse.TheVariants.{Single, Batch}
use Rattle.gql_request.specs.declared.response.Response.{Response}

-- the responses in their order; a single one is the list of itself
abbrev pub responses_of : BatchResponse → List Response
responses_of (Single response) = response ∷ []
responses_of (Batch responses) = responses

-- a single response stands by itself, those of a batch as a list
abbrev pub batch_json : BatchResponse → List ℕ
batch_json (Single response) = response_json response
batch_json (Batch responses) = list_json response_json responses
