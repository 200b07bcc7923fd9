-- The entities of federation: the objects with a key, and the two types that a table has for them.
use Rattle.std.specs.Prelude.{◌≡◌, ℕ, Bool, true, false, List, [], ◌∷◌, codes, filter, refl}
use Rattle.std.specs.List.{list_any}
use Rattle.gql_base.specs.Pairs.{names_of, put}
use Rattle.gql_schema.specs.Object.{keys_of}
use Rattle.gql_schema.specs.Scalar.{new_scalar}
use Rattle.gql_schema.specs.TableReading.{TypeTable}
use Rattle.gql_schema.specs.Union.{new_union}
use Rattle.gql_schema.specs.declared.scalar_rule.ScalarRule.TheVariants as rules
use Rattle.gql_schema.specs.declared.schema_type.SchemaType.{SchemaType}
use Rattle.gql_schema.specs.declared.schema_type.SchemaType.TheVariants as types

abbrev pub is_some_key : List (List ℕ) → Bool
is_some_key [] = false
is_some_key (key ∷ keys) = true

-- whether a type is an object with a key
abbrev pub is_entity : SchemaType → Bool
is_entity (types.Object object) = is_some_key (keys_of object)
is_entity _ = false

abbrev pub is_entity_pair : List ℕ × SchemaType → Bool
is_entity_pair (name, ty) = is_entity ty

-- the objects with a key, in the order of their registration
abbrev pub entities : TypeTable → List (List ℕ)
entities table = names_of (filter is_entity_pair table)

-- whether there is one
abbrev pub has_entities : TypeTable → Bool
has_entities table = list_any is_entity_pair table

-- the table with the scalar of representations, which takes every value
abbrev pub with_any : TypeTable → TypeTable
with_any table = put table (codes "_Any") (types.Scalar (new_scalar (codes "_Any") rules.Any))

-- the table with the union of entities, of these members
abbrev pub with_entity_union : TypeTable → List (List ℕ) → TypeTable
with_entity_union table members =
    put table (codes "_Entity") (types.Union (new_union (codes "_Entity") members))

-- the table whose two names are taken, so that no object stands under them
abbrev pub reserved : TypeTable → TypeTable
reserved table = with_entity_union (with_any table) []

-- the table with both types; a type registered under such a name is replaced
abbrev pub with_entities : TypeTable → TypeTable
with_entities table = with_entity_union (reserved table) (entities (reserved table))

-- two types of an example, of which one is an entity
abbrev example : TypeTable
example = (
  codes "O",
  types.Object
      (record { name = codes "O"; fields = []; interfaces = []; keys = codes "id" ∷ [] }),
)
    ∷ (
      codes "P",
      types.Object (record { name = codes "P"; fields = []; interfaces = []; keys = [] }),
    ) ∷ []

pub entities_of_an_example : entities example ≡ codes "O" ∷ []
entities_of_an_example = refl

pub names_with_entities : names_of (with_entities example) ≡ codes "O" ∷ codes "P" ∷ codes "_Any"
    ∷ codes "_Entity" ∷ []
names_with_entities = refl
