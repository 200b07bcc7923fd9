-- Batches of requests, and how they stand in a value.
use Rattle.std.specs.Prelude.{ℕ, List, [], ◌∷◌, ◌++◌, map, slice_set, Ok, Err}
use Rattle.gql_base.specs.declared.value.Value.{Value, out-Value}
use Rattle.gql_base.specs.declared.value.Value.TheOpen.{Value-F}
use Rattle.gql_request.specs.Reading.{Reading, ◌>>=◌, reason_text}
use Rattle.gql_request.specs.Request.{request_here, request_of}
use Rattle.gql_request.specs.declared.batch_request.BatchRequest.{BatchRequest}
use Rattle.gql_request.specs.declared.batch_request.BatchRequest.TheVariants.{Single, Batch}
use Rattle.gql_request.specs.declared.reading.Reason.TheVariants as reason
use Rattle.gql_request.specs.declared.request.Request.{Request}

-- the requests in their order; a single one is the list of itself
abbrev pub requests_of : BatchRequest → List Request
requests_of (Single request) = request ∷ []
requests_of (Batch requests) = requests

-- the same batch with each of its requests changed
abbrev pub each_request : (Request → Request) → BatchRequest → BatchRequest
each_request change (Single request) = Single (change request)
each_request change (Batch requests) = Batch (map change requests)

-- the same batch with this request at a place
abbrev pub with_request : BatchRequest → ℕ → Request → BatchRequest
with_request (Single _) place request = Single request
with_request (Batch requests) place request = Batch (slice_set requests place request)

-- the requests of values, after those that were read before
abbrev pub requests_in : List Request → List Value → Reading (List Request)
requests_in earlier [] = Ok earlier
requests_in earlier (value ∷ values) = do
  request ← request_of value
  requests_in (earlier ++ request ∷ []) values

-- the requests of a list, which isn't empty
abbrev pub some_requests_in : List Value → Reading (List Request)
some_requests_in [] = Err (reason_text reason.NoRequest)
some_requests_in (value ∷ values) = requests_in [] (value ∷ values)

abbrev pub batch_here : Value-F Value → Reading BatchRequest
batch_here (Value-F.List values) = do
  requests ← some_requests_in values
  Ok (Batch requests)
batch_here other = do
  request ← request_here other
  Ok (Single request)

-- the batch that a value holds: a list of requests, or one request
abbrev pub batch_of : Value → Reading BatchRequest
batch_of value = batch_here (out-Value value)
