-- Which fields a type has where a document is checked, and of which type they are (GraphQL, October
-- 2021, sections 3.6, 4.1 and 5.3.1).
use Rattle.std.specs.Prelude.{ℕ, Bool, true, false, ◌&&◌, not, List, codes, Option, Some, None}
use Rattle.std.specs.Prelude.{option_map, if◌then◌else◌}
use Rattle.std.specs.Str.{bytes_eq}
use Rattle.gql_base.specs.declared.type_ref.TypeRef.{TypeRef}
use Rattle.gql_base.specs.declared.type_ref.TypeRef.TheVariants as ref
use Rattle.gql_schema.specs.TableReading.{Declared, declared_in}
use Rattle.gql_schema.specs.Types.{type_name}
use Rattle.gql_schema.specs.declared.schema_type.SchemaType.{SchemaType}
use Rattle.gql_schema.specs.declared.schema_type.SchemaType.TheVariants as types
use Rattle.gql_fields.specs.Terms.{Terms}
use Rattle.gql_fields.specs.declared.built_in_arguments.BuiltIn.{BuiltIn}

-- whether it is the type of a subscription's root
abbrev pub is_subscription : SchemaType → Bool
is_subscription (types.Subscription subscription) = true
is_subscription _ = false

-- whether fields of the type have sets
abbrev pub is_composite : SchemaType → Bool
is_composite (types.Object object) = true
is_composite (types.Interface interface) = true
is_composite (types.Union union) = true
is_composite _ = false

-- whether fields of the type have no sets
abbrev pub is_leaf : SchemaType → Bool
is_leaf (types.Scalar scalar) = true
is_leaf (types.Enum enum) = true
is_leaf _ = false

-- the type of `__typename`
abbrev pub typename_type : TypeRef
typename_type = ref.NonNull (ref.Named (codes "String"))

-- the type of `_entities`
abbrev pub entities_type : TypeRef
entities_type = ref.NonNull (ref.List (ref.Named (codes "_Entity")))

-- `__typename` is known everywhere but at a subscription's root
abbrev pub has_typename : SchemaType → List ℕ → Bool
has_typename ty name = bytes_eq name (codes "__typename") && not (is_subscription ty)

-- `_entities` is known on the type of the query root, where entities are on
abbrev pub has_entities : Terms → SchemaType → List ℕ → Bool
has_entities terms ty name =
    terms.entities && (bytes_eq name (codes "_entities") && bytes_eq (type_name ty) terms.query)

-- the type of a field as it is declared
abbrev pub type_declared : Declared → TypeRef
type_declared declared = declared.ty

-- the type of the field of this name, where the type has it
abbrev pub field_type : Terms → SchemaType → List ℕ → Option TypeRef
field_type terms ty name =
    if has_typename ty name then Some typename_type else
    (if has_entities terms ty name
    then Some entities_type else option_map type_declared (declared_in name ty))

-- the fields that no type declares, with their arguments
abbrev pub typename_field : BuiltIn → Declared
typename_field built = record { ty = typename_type; number = None; arguments = built.typename }

abbrev pub entities_field : BuiltIn → Declared
entities_field built = record { ty = entities_type; number = None; arguments = built.entities }

-- the field of this name, where the type has it
abbrev pub known_field : BuiltIn → Terms → SchemaType → List ℕ → Option Declared
known_field built terms ty name =
    if has_typename ty name then Some (typename_field built) else
    (if has_entities terms ty name then Some (entities_field built) else declared_in name ty)
