-- The JSON text of a response (GraphQL, October 2021, section 7.1), without blanks.
use Rattle.std.specs.Prelude.{ℕ, List, [], ◌∷◌, ◌++◌, Some, codes}
use Rattle.gql_base.specs.ErrorJson.{error_json, extensions_member, list_json}
use Rattle.gql_base.specs.Json.{json}
use Rattle.gql_base.specs.declared.server_error.ServerError.{ServerError}
use Rattle.gql_request.specs.declared.response.Response.{Response}

-- the errors after the data, if there are any
abbrev pub errors_member : List ServerError → List ℕ
errors_member [] = []
errors_member (error ∷ others) = codes ",\"errors\":" ++ list_json error_json (error ∷ others)

-- the data, and then the extensions and the errors, each if there are any
abbrev pub response_json : Response → List ℕ
response_json response =
    codes "{\"data\":"
    ++ (json response.result ++ (extensions_member (Some response.extensions)
    ++ (errors_member response.errors ++ codes "}")))
