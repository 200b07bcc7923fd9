-- Sound tables, and the first refusal of another. The places of a table are taken in the order of
-- the registration of their types.
use Rattle.std.specs.Prelude.{◌≡◌, ℕ, ◌<◌, Bool, true, List, [], Option, Some, None, codes, length}
use Rattle.std.specs.Prelude.{slice_get}
use Rattle.std.specs.Bool.{Decides}
use Rattle.std.specs.List.{filter_map}
use Rattle.gql_base.specs.Pairs.{under, put, values_of}
use Rattle.gql_base.specs.declared.type_ref.TypeRef.{TypeRef, out-TypeRef}
use Rattle.gql_base.specs.declared.type_ref.TypeRef.TheOpen.{TypeRef-F}
use Rattle.gql_schema.specs.Faults.{fault_of}
use Rattle.gql_schema.specs.InputObject.{input_object_name, input_fields}
use Rattle.gql_schema.specs.InputValue.{input_type}
use Rattle.gql_schema.specs.NameSet.{is_among}
use Rattle.gql_schema.specs.Scalar.{new_scalar}
use Rattle.gql_schema.specs.TableReading.{TypeTable}
use Rattle.gql_schema.specs.declared.input_object.InputObject.{InputObject}
use Rattle.gql_schema.specs.declared.input_value.InputValue.{InputValue}
use Rattle.gql_schema.specs.declared.scalar_rule.ScalarRule.{ScalarRule}
use Rattle.gql_schema.specs.declared.scalar_rule.ScalarRule.TheVariants as rules
use Rattle.gql_schema.specs.declared.schema_error.SchemaError.{SchemaError}
use Rattle.gql_schema.specs.declared.schema_type.SchemaType.{SchemaType}
use Rattle.gql_schema.specs.declared.schema_type.SchemaType.TheVariants as types

abbrev pub name_here : TypeRef-F TypeRef → Option (List ℕ)
name_here (TypeRef-F.Named name) = Some name
name_here _ = None

abbrev pub needed_here : TypeRef-F TypeRef → Option (List ℕ)
needed_here (TypeRef-F.NonNull inner) = name_here (out-TypeRef inner)
needed_here _ = None

-- the name of a type that is non-null and named
abbrev pub needed_of : TypeRef → Option (List ℕ)
needed_of ty = needed_here (out-TypeRef ty)

abbrev pub needed_name : List ℕ × InputValue → Option (List ℕ)
needed_name (name, input) = needed_of (input_type input)

abbrev pub needed_names : InputObject → List (List ℕ)
needed_names input = filter_map needed_name (input_fields input)

abbrev pub needed_in : Option SchemaType → List (List ℕ)
needed_in (Some (types.InputObject input)) = needed_names input
needed_in _ = []

-- the names of the types that the fields of this input object can't do without
abbrev pub needed_by : TypeTable → List ℕ → List (List ℕ)
needed_by table name = needed_in (under name table)

-- a value of the first input object needs one of the second, in one step or more
pub data Reaches (table : TypeTable) (start : List ℕ) : List ℕ → Type 0 where
  at_once : (to : List ℕ) → is_among to (needed_by table start) ≡ true → Reaches table start to
  further : (via to : List ℕ) → Reaches table start via → is_among to (needed_by table via) ≡ true
      → Reaches table start to

-- a value of the input object needs one of itself
abbrev pub NeedsItself : TypeTable → List ℕ → Type 0
NeedsItself table name = Reaches table name name

-- an input object that contains itself: no value of it is finite
abbrev pub ContainsItself : TypeTable → SchemaType → Type 0
ContainsItself table (types.InputObject input) = NeedsItself table (input_object_name input)
ContainsItself table _ = ⊥

-- the first fault of a type, or none
pub record IsFaultOf (table : TypeTable) (ty : SchemaType) (found : Option SchemaError) : Type 0
  where
    pub contains : Bool
    pub decides : Decides contains (ContainsItself table ty)
    pub is : found ≡ fault_of table contains ty

-- none of the first types has a fault
abbrev pub AreFaultFree : TypeTable → ℕ → Type 0
AreFaultFree table count =
    (place : ℕ) → place < count → (ty : SchemaType) → slice_get (values_of table) place ≡ Some ty
    → IsFaultOf table ty None

-- no place of a table is at fault
abbrev pub IsSound : TypeTable → Type 0
IsSound table = AreFaultFree table (length table)

-- the fault of the first type that has one
pub record IsFirstRefusal (table : TypeTable) (error : SchemaError) : Type 0 where
  pub place : ℕ
  pub ty : SchemaType
  pub at : slice_get (values_of table) place ≡ Some ty
  pub before : AreFaultFree table place
  pub here : IsFaultOf table ty (Some error)

-- the fault of a whole table, or none
abbrev pub IsFaultOfAll : TypeTable → Option SchemaError → Type 0
IsFaultOfAll table None = IsSound table
IsFaultOfAll table (Some error) = IsFirstRefusal table error

abbrev pub with_scalar : TypeTable → List ℕ → ScalarRule → TypeTable
with_scalar table name rule = put table name (types.Scalar (new_scalar name rule))

-- the table with the scalars that every schema has; a type registered under such a name is replaced
abbrev pub with_built_in : TypeTable → TypeTable
with_built_in table =
    with_scalar
    (with_scalar
    (with_scalar (with_scalar table (codes "Int") rules.Int) (codes "String") rules.Text)
    (codes "Boolean") rules.Bool)
    (codes "ID") rules.Id
