-- The layers of data that a resolver sees.
use Rattle.std.specs.Prelude.{ℕ, List, [], ◌∷◌, ◌++◌}
use Rattle.std.specs.Option.{option_copied, option_to_list}
use Rattle.gql_base.specs.declared.value.Value.{Value}
use Rattle.gql_resolve.specs.declared.layers.Layers.{Layers}

-- the layers in the order of search: what hooks added for the execution, then the request's, the
-- session's, the schema's
abbrev pub layers_of : Layers → List (List (ℕ × Value))
layers_of layers =
    option_to_list (option_copied layers.execute) ++ layers.query.now ∷ layers.session.now
    ∷ layers.schema.now ∷ []
