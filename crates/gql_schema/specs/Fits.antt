-- Which values fit a type of inputs (GraphQL, October 2021, sections 3.5, 3.9 to 3.12 and 5.6.1).
use Rattle.std.specs.Prelude.{ℕ, Bool, true, false, ◌&&◌, ◌||◌, not, List, [], ◌∷◌, map, Option}
use Rattle.std.specs.Prelude.{Some, None, is_some, codes, if◌then◌else◌}
use Rattle.std.specs.List.{list_all}
use Rattle.std.specs.Str.{bytes_eq}
use Rattle.gql_base.specs.Pairs.{under}
use Rattle.gql_base.specs.TypeRef.{innermost, is_nullable}
use Rattle.gql_base.specs.declared.type_ref.TypeRef.{TypeRef, out-TypeRef}
use Rattle.gql_base.specs.declared.type_ref.TypeRef.TheOpen.{TypeRef-F}
use Rattle.gql_base.specs.declared.type_ref.TypeRef.TheFolds.{fold-TypeRef}
use Rattle.gql_base.specs.declared.value.Value.{Value}
use Rattle.gql_base.specs.declared.value.Value.TheOpen.{Value-F}
use Rattle.gql_base.specs.declared.value.Value.TheFolds.{fold-Value}
use Rattle.gql_schema.specs.Enum.{items_of}
use Rattle.gql_schema.specs.InputObject.{input_fields, is_oneof}
use Rattle.gql_schema.specs.InputValue.{input_type, default_of}
use Rattle.gql_schema.specs.NameSet.{is_among}
use Rattle.gql_schema.specs.Scalar.{rule_of}
use Rattle.gql_schema.specs.ScalarRule.{bare, takes_bare}
use Rattle.gql_schema.specs.TableReading.{TypeTable}
use Rattle.gql_schema.specs.declared.input_object.InputObject.{InputObject}
use Rattle.gql_schema.specs.declared.input_value.InputValue.{InputValue}
use Rattle.gql_schema.specs.declared.schema_type.SchemaType.{SchemaType}
use Rattle.gql_schema.specs.declared.schema_type.SchemaType.TheVariants as types

-- the names that no type may have
abbrev pub is_unsupported : List ℕ → Bool
is_unsupported name = bytes_eq name (codes "Float") || bytes_eq name (codes "Upload")

-- whether a type is non-null, and whether somewhere in it a non-null stands in a non-null
pub record Layers : Type 0 where
  pub non_null : Bool
  pub doubled : Bool

abbrev pub layers_step : TypeRef-F Layers → Layers
layers_step (TypeRef-F.Named name) = record { non_null = false; doubled = false }
layers_step (TypeRef-F.NonNull inner) =
    record { non_null = true; doubled = inner.non_null || inner.doubled }
layers_step (TypeRef-F.List inner) = record { non_null = false; doubled = inner.doubled }

abbrev pub layers : TypeRef → Layers
layers = fold-TypeRef Layers layers_step

abbrev pub is_doubled : TypeRef → Bool
is_doubled ty = (layers ty).doubled

-- the kinds of types that stand at inputs
abbrev pub is_input_kind : SchemaType → Bool
is_input_kind (types.Scalar scalar) = true
is_input_kind (types.Enum enum) = true
is_input_kind (types.InputObject input) = true
is_input_kind _ = false

abbrev pub is_known_input : Option SchemaType → Bool
is_known_input None = false
is_known_input (Some ty) = is_input_kind ty

-- whether a type may stand at an input
abbrev pub is_input_type : TypeTable → TypeRef → Bool
is_input_type table ty =
    not (is_unsupported (innermost ty)) && is_known_input (under (innermost ty) table)
    && not (is_doubled ty)

-- what a non-null is of
abbrev pub nullable_here : TypeRef → TypeRef-F TypeRef → TypeRef
nullable_here ty (TypeRef-F.NonNull inner) = inner
nullable_here ty _ = ty

abbrev pub nullable_of : TypeRef → TypeRef
nullable_of ty = nullable_here ty (out-TypeRef ty)

abbrev pub items_here : TypeRef-F TypeRef → Option TypeRef
items_here (TypeRef-F.List inner) = Some inner
items_here _ = None

-- the type of the items of a list
abbrev pub item_type : TypeRef → Option TypeRef
item_type ty = items_here (out-TypeRef (nullable_of ty))

abbrev pub is_item : List (List ℕ) → Value-F (Unit {0}) → Bool
is_item items (Value-F.String text) = is_among text items
is_item items (Value-F.Enum name) = is_among name items
is_item items _ = false

-- whether a value other than null fits a type that takes values whole: a scalar by its rule, an
-- enum its items
abbrev pub fits_whole : Option SchemaType → Value-F (Unit {0}) → Bool
fits_whole (Some (types.Scalar scalar)) value = takes_bare (rule_of scalar) value
fits_whole (Some (types.Enum enum)) value = is_item (items_of enum) value
fits_whole _ value = false

-- what is known of a value: whether it is null, and which types it fits
pub record Fitting : Type 0 where
  pub null : Bool
  pub at : TypeRef → Bool

-- a member that an input object declares, with a value that fits
abbrev pub fits_declared : TypeTable → Fitting → Option InputValue → Bool
fits_declared table fitting None = false
fits_declared table fitting (Some input) =
    is_input_type table (input_type input) && fitting.at (input_type input)

-- a field of an input object that can be left out, or is among the members
abbrev pub is_given : {X : Type 0} → List (List ℕ × X) → List ℕ × InputValue → Bool
is_given members (name, input) =
    is_nullable (input_type input) || is_some (default_of input) || is_some (under name members)

abbrev pub is_non_null : Fitting → Option InputValue → Bool
is_non_null fitting None = false
is_non_null fitting (Some input) = not fitting.null && fitting.at (input_type input)

-- exactly one member, which isn't null
abbrev pub is_one : InputObject → List (List ℕ × Fitting) → Bool
is_one input ((name, fitting) ∷ []) = is_non_null fitting (under name (input_fields input))
is_one input _ = false

abbrev pub are_declared : TypeTable → InputObject → List (List ℕ × Fitting) → Bool
are_declared table input members =
    list_all (λ m. fits_declared table m.1 (under m.0 (input_fields input))) members

abbrev pub are_given : {X : Type 0} → InputObject → List (List ℕ × X) → Bool
are_given input members = list_all (is_given members) (input_fields input)

-- as many members as there can be
abbrev pub has_number : InputObject → List (List ℕ × Fitting) → Bool
has_number input members = if is_oneof input then is_one input members else true

-- members that are all declared and fit, with all that can't be left out; of a oneof input object
-- one alone
abbrev pub fits_input : TypeTable → InputObject → List (List ℕ × Fitting) → Bool
fits_input table input members =
    are_declared table input members && are_given input members && has_number input members

abbrev pub fits_object : TypeTable → Option SchemaType → List (List ℕ × Fitting) → Bool
fits_object table (Some (types.InputObject input)) members = fits_input table input members
fits_object table ty members = fits_whole ty (Value-F.Object [])

-- a list fits where its items do, and at a type that takes it whole
abbrev pub fits_list : TypeTable → TypeRef → Option TypeRef → List Fitting → Bool
fits_list table ty (Some item) items = list_all (λ fitting. fitting.at item) items
fits_list table ty None items = fits_whole (under (innermost ty) table) (Value-F.List [])

abbrev pub is_null_here : {X : Type 0} → Value-F X → Bool
is_null_here Value-F.Null = true
is_null_here value = false

-- one level of a value at a type: null fits the nullable types, and any other value a list of what
-- it fits itself
abbrev pub fits_here : TypeTable → Value-F Fitting → TypeRef → Bool
fits_here table Value-F.Null ty = is_nullable ty
fits_here table (Value-F.List items) ty = fits_list table ty (item_type ty) items
fits_here table (Value-F.Object members) ty = fits_object table (under (innermost ty) table) members
fits_here table value ty = fits_whole (under (innermost ty) table) (bare value)

abbrev pub fits_step : TypeTable → Value-F Fitting → Fitting
fits_step table value = record { null = is_null_here value; at = fits_here table value }

abbrev pub fitting : TypeTable → Value → Fitting
fitting table = fold-Value Fitting (fits_step table)

-- whether a value fits a type
abbrev pub fits : TypeTable → Value → TypeRef → Bool
fits table value ty = (fitting table value).at ty

-- the members of an object, each with what it fits
abbrev pub fitting_member : TypeTable → List ℕ × Value → List ℕ × Fitting
fitting_member table (name, value) = (name, fitting table value)

abbrev pub fittings : TypeTable → List (List ℕ × Value) → List (List ℕ × Fitting)
fittings table members = map (fitting_member table) members

-- whether a value fits a field of an input object, if there is the field, and whether it is no null
-- either
abbrev pub fits_field : TypeTable → Value → Option InputValue → Bool
fits_field table value field = fits_declared table (fitting table value) field

abbrev pub fills_field : TypeTable → Value → Option InputValue → Bool
fills_field table value field = is_non_null (fitting table value) field

-- whether an input object declares these members with values that fit, and whether an object of
-- them fits it
abbrev pub declares : TypeTable → InputObject → List (List ℕ × Value) → Bool
declares table input members = are_declared table input (fittings table members)

abbrev pub fits_members : TypeTable → InputObject → List (List ℕ × Value) → Bool
fits_members table input members = fits_input table input (fittings table members)

-- whether each of these values fits
abbrev pub all_fit : TypeTable → List Value → TypeRef → Bool
all_fit table values ty = list_all (λ f. f.at ty) (map (fitting table) values)
