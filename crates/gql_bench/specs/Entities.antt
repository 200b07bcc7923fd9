-- What the entity rule answers: each representation under the name of its type. Federation has
-- `_entities(representations: [_Any!]!): [_Entity]!` (Apollo Federation, subgraph specification).
use Rattle.std.specs.Prelude.{ℕ, ℤ, List, [], ◌∷◌, ◌++◌, codes, Option, Some, None, Ok, Err}
use Rattle.std.specs.Prelude.{option_and_then, option_map}
use Rattle.gql_base.specs.Kinds.{list_of, members_of_value, string_of}
use Rattle.gql_base.specs.Pairs.{under}
use Rattle.gql_base.specs.declared.value.Value.{Value}
use Rattle.gql_resolve.specs.declared.field_value.FieldValue.{FieldValue}
use Rattle.gql_resolve.specs.declared.field_value.FieldValue.TheVariants as given
use Rattle.gql_bench.specs.Outcome.{Outcome, plain_error}

-- the text under `__typename` of an object
abbrev pub typename_in : Value → Option (List ℕ)
typename_in value = option_and_then string_of (under (codes "__typename") (members_of_value value))

-- a representation with the name of its type, for the fields under
abbrev pub entity_named : Value → List ℕ → FieldValue ℤ
entity_named value name = given.WithType (given.Value value) name

-- a representation under its `__typename`, where it is an object with such a text
abbrev pub entity_in : Value → Option (FieldValue ℤ)
entity_in value = option_map (entity_named value) (typename_in value)

-- representations after earlier ones, where each has its type
abbrev pub entities_behind : List (FieldValue ℤ) → List Value → Option (List (FieldValue ℤ))
entities_behind earlier [] = Some earlier
entities_behind earlier (value ∷ values) =
    option_and_then (λ entity. entities_behind (earlier ++ entity ∷ []) values) (entity_in value)

-- the items of a list, and where there is no list the value alone
abbrev pub items_or_alone : Value → Option (List Value) → List Value
items_or_alone value None = value ∷ []
items_or_alone value (Some items) = items

-- the representations that an argument gives: one outside a list counts as a list of one
abbrev pub representations_in : Value → List Value
representations_in value = items_or_alone value (list_of value)

-- the entities of an argument, where each representation has its type; without the argument there
-- are none
abbrev pub entities_given : Option Value → Option (List (FieldValue ℤ))
entities_given None = None
entities_given (Some value) = entities_behind [] (representations_in value)

-- what entities give: their list, or the error of a representation without its type
abbrev pub entities_told : Option (List (FieldValue ℤ)) → Outcome
entities_told None = Err (plain_error (codes "internal: key \"__typename\" not found"))
entities_told (Some entities) = Ok (Some (given.List entities))

-- what the entity rule gives for these arguments
abbrev pub entities_outcome : List (List ℕ × Value) → Outcome
entities_outcome arguments =
    entities_told (entities_given (under (codes "representations") arguments))
