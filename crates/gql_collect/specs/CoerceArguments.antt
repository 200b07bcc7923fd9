-- The values of arguments, as the machine makes them (GraphQL, October 2021, section 6.4.1).
use Rattle.std.specs.Prelude.{ℕ, List, map}
use Rattle.gql_schema.specs.InputValue.{default_of}
use Rattle.gql_schema.specs.declared.input_value.InputValue.{InputValue}
use Rattle.gql_select.specs.Constants.{Declared}

-- declared arguments by their names and defaults
abbrev pub declared_of : List (List ℕ × InputValue) → List Declared
declared_of arguments = map (λ argument. (argument.0, default_of argument.1)) arguments
