-- What a table of types tells: fields, the objects that a type can be, and conditions on types
-- (GraphQL, October 2021, sections 3.6 to 3.8 and 5.5.2.3). A table is a list of types under their
-- names.
use Rattle.std.specs.Prelude.{◌≡◌, ℕ, Bool, true, false, ◌&&◌, ◌||◌, List, [], ◌∷◌, codes, refl}
use Rattle.std.specs.Prelude.{Option, Some, None, option_map, option_and_then, filter}
use Rattle.std.specs.Prelude.{if◌then◌else◌}
use Rattle.std.specs.Str.{bytes_eq}
use Rattle.gql_base.specs.Pairs.{under, names_of}
use Rattle.gql_base.specs.declared.type_ref.TypeRef.{TypeRef}
use Rattle.gql_schema.specs.Field.{field_type, resolver_of, arguments_of}
use Rattle.gql_schema.specs.Interface.{interface_name, promised_fields}
use Rattle.gql_schema.specs.InterfaceField.{promised_type, promised_arguments}
use Rattle.gql_schema.specs.NameSet.{is_among}
use Rattle.gql_schema.specs.Object.{fields_of, interfaces_of}
use Rattle.gql_schema.specs.Subscription.{event_fields}
use Rattle.gql_schema.specs.SubscriptionField.{event_type, source_of, event_arguments}
use Rattle.gql_schema.specs.Union.{members_of}
use Rattle.gql_schema.specs.declared.field.Field.{Field}
use Rattle.gql_schema.specs.declared.input_value.InputValue.{InputValue}
use Rattle.gql_schema.specs.declared.interface_field.InterfaceField.{InterfaceField}
use Rattle.gql_schema.specs.declared.schema_type.SchemaType.{SchemaType}
use Rattle.gql_schema.specs.declared.schema_type.SchemaType.TheVariants as types
use Rattle.gql_schema.specs.declared.subscription_field.SubscriptionField.{SubscriptionField}

abbrev pub TypeTable : Type 0
TypeTable = List (List ℕ × SchemaType)

-- a field as it is declared: its type, the number of its resolver or source, which a field of an
-- interface lacks, and its arguments
pub record Declared : Type 0 where
  pub ty : TypeRef
  pub number : Option ℕ
  pub arguments : List (List ℕ × InputValue)

abbrev pub of_object : Field → Declared
of_object field =
    record {
      ty = field_type field;
      number = Some (resolver_of field);
      arguments = arguments_of field;
    }

abbrev pub of_interface : InterfaceField → Declared
of_interface field =
    record { ty = promised_type field; number = None; arguments = promised_arguments field }

abbrev pub of_subscription : SubscriptionField → Declared
of_subscription field =
    record {
      ty = event_type field;
      number = Some (source_of field);
      arguments = event_arguments field;
    }

abbrev pub declared_in : List ℕ → SchemaType → Option Declared
declared_in name (types.Object object) = option_map of_object (under name (fields_of object))
declared_in name (types.Interface interface) =
    option_map of_interface (under name (promised_fields interface))
declared_in name (types.Subscription subscription) =
    option_map of_subscription (under name (event_fields subscription))
declared_in name _ = None

-- the field of this name of the object, interface or subscription T
abbrev pub field : TypeTable → List ℕ → List ℕ → Option Declared
field table type name = option_and_then (declared_in name) (under type table)

abbrev pub object_implements : List ℕ → SchemaType → Bool
object_implements name (types.Object object) = is_among name (interfaces_of object)
object_implements name _ = false

abbrev pub is_object : SchemaType → Bool
is_object (types.Object object) = true
is_object _ = false

abbrev pub is_known_object : Option SchemaType → Bool
is_known_object None = false
is_known_object (Some ty) = is_object ty

-- whether a type that isn't the object itself has the object O: an interface that O implements, or
-- a union that holds O
abbrev pub has_object : List ℕ → SchemaType → SchemaType → Bool
has_object name object (types.Interface interface) =
    object_implements (interface_name interface) object
has_object name object (types.Union union) = is_object object && is_among name (members_of union)
has_object name object _ = false

abbrev pub both_known : {A : Type 0} → (A → A → Bool) → Option A → Option A → Bool
both_known test (Some x) (Some y) = test x y
both_known test _ _ = false

-- whether the type T has the object O
abbrev pub has_type : TypeTable → List ℕ → List ℕ → Bool
has_type table type object =
    bytes_eq type object || both_known (has_object object) (under object table) (under type table)

-- whether a condition on types lets the object O through; no condition lets each through
abbrev pub covers : TypeTable → Option (List ℕ) → List ℕ → Bool
covers table None object = true
covers table (Some condition) object = has_type table condition object

-- whether a type under its name is an object that the type T can be
abbrev pub is_possible_object : TypeTable → List ℕ → List ℕ × SchemaType → Bool
is_possible_object table type (name, ty) = is_object ty && has_type table type name

-- the objects that a type can be, in the order of their registration
abbrev pub possible : TypeTable → List ℕ → List (List ℕ)
possible table type = names_of (filter (is_possible_object table type) table)

-- whether the object O is one that the type T can be
abbrev pub is_possible : TypeTable → List ℕ → List ℕ → Bool
is_possible table type object = is_among object (possible table type)

-- a name where it is chosen
abbrev pub chosen : Bool → List ℕ → List (List ℕ)
chosen is_chosen name = if is_chosen then name ∷ [] else []

-- two types of an example: an object O that implements an interface I
abbrev example : TypeTable
example = (
  codes "O",
  types.Object
      (record { name = codes "O"; fields = []; interfaces = codes "I" ∷ []; keys = [] }),
)
    ∷ (codes "I", types.Interface (record { name = codes "I"; fields = [] })) ∷ []

pub an_interface_covers : covers example (Some (codes "I")) (codes "O") ≡ true
an_interface_covers = refl

pub an_object_covers_no_interface : covers example (Some (codes "O")) (codes "I") ≡ false
an_object_covers_no_interface = refl

pub possible_of_an_interface : possible example (codes "I") ≡ codes "O" ∷ []
possible_of_an_interface = refl
