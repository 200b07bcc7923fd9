-- What an answer does to the headers of a response.
use Rattle.std.specs.Prelude.{ℕ, Bool, List}
use Rattle.std.specs.Str.{bytes_eq}
use Rattle.gql_request.specs.declared.header_op.HeaderOp.{HeaderOp}
use Rattle.gql_request.specs.declared.header_op.HeaderOp.TheVariants.{Insert, Append}

-- whether an operation sets the header of a name or adds a value to it
abbrev pub touches : List ℕ → HeaderOp → Bool
touches name (Insert header value) = bytes_eq header name
touches name (Append header value) = bytes_eq header name
