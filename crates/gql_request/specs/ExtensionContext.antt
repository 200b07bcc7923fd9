-- The layers of data that hooks see.
use Rattle.std.specs.Prelude.{ℕ, List, [], ◌∷◌, ◌++◌, Option}
use Rattle.std.specs.Option.{option_copied, option_to_list}
use Rattle.gql_base.specs.declared.value.Value.{Value}
use Rattle.gql_request.specs.Data.{found}
use Rattle.gql_request.specs.declared.extension_context.ExtensionContext.{ExtensionContext}

-- the layers in the order of search: the request's, the session's, the schema's
abbrev pub layers_of : ExtensionContext → List (List (ℕ × Value))
layers_of context =
    option_to_list (option_copied context.query_data)
    ++ context.session_data.now ∷ context.schema_data.now ∷ []

-- the value of a key in the first of these layers that has it
abbrev pub held_by : ExtensionContext → ℕ → Option Value
held_by context key = found key (layers_of context)
