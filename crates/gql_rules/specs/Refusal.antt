-- The error of a refusal (GraphQL, October 2021, section 7.1.2): it has no path and no extensions.
use Rattle.std.specs.Prelude.{ℕ, List, [], Option, None}
use Rattle.std.specs.Option.{option_to_list}
use Rattle.gql_base.specs.declared.pos.Pos.{Pos}
use Rattle.gql_base.specs.declared.server_error.ServerError.{ServerError}

-- an error with this message, and with one place or none
abbrev pub refusal : List ℕ → Option Pos → ServerError
refusal message place =
    record { message = message; locations = option_to_list place; path = []; extensions = None }
