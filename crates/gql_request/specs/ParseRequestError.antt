-- Why a value is no request.
use Rattle.std.specs.Prelude.{◌≡◌, ℕ, List, ◌++◌, Result, Ok, Err, codes}
use Rattle.gql_request.specs.Reading.{Reading}
use Rattle.gql_request.specs.declared.parse_request_error.ParseRequestError.{ParseRequestError}
use Rattle.gql_request.specs.declared.parse_request_error.ParseRequestError.TheVariants.{InvalidRequest}
use Rattle.gql_request.specs.declared.parse_request_error.ParseRequestError.TheVariants.{UnsupportedBatch}

-- the error in words
abbrev pub error_text : ParseRequestError → List ℕ
error_text (InvalidRequest reason) = codes "Invalid request: " ++ reason.now
error_text UnsupportedBatch = codes "Batch requests are not supported"

-- that this is what there is to read: the value, or the reason against it
abbrev pub Tells : {A : Type 0} → Result A ParseRequestError → Reading A → Type 0
Tells (Ok value) read = read ≡ Ok value
Tells (Err (InvalidRequest reason)) read = read ≡ Err reason.now
Tells (Err UnsupportedBatch) read = ⊥
