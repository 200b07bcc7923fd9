-- Which values of a document fit a type of inputs: a variable fits each, and any other value by the
-- rules for values (GraphQL, October 2021, section 5.6.1).
use Rattle.std.specs.Prelude.{ℕ, Bool, true, false, ◌&&◌, List, [], ◌∷◌, map, Option, Some}
use Rattle.std.specs.Prelude.{if◌then◌else◌}
use Rattle.std.specs.List.{list_all}
use Rattle.gql_base.specs.Pairs.{under}
use Rattle.gql_base.specs.TypeRef.{type_text}
use Rattle.gql_base.specs.declared.type_ref.TypeRef.{TypeRef, out-TypeRef}
use Rattle.gql_base.specs.declared.type_ref.TypeRef.TheOpen.{TypeRef-F}
use Rattle.gql_base.specs.declared.value.Value.TheOpen.{Value-F}
use Rattle.gql_doc.specs.declared.document.DocValue.{DocValue, out-DocValue}
use Rattle.gql_doc.specs.declared.document.DocValue.TheOpen.{DocValue-F}
use Rattle.gql_doc.specs.declared.document.DocValue.TheFolds.{fold-DocValue}
use Rattle.gql_schema.specs.Fits.{Fitting, are_declared, fits_declared, fits_input, fits_step}
use Rattle.gql_schema.specs.Fits.{is_non_null, nullable_of}
use Rattle.gql_schema.specs.InputObject.{is_oneof}
use Rattle.gql_schema.specs.TableReading.{TypeTable}
use Rattle.gql_schema.specs.declared.input_object.InputObject.{InputObject}
use Rattle.gql_schema.specs.declared.input_value.InputValue.{InputValue}
use Rattle.gql_schema.specs.declared.schema_type.SchemaType.{SchemaType}
use Rattle.gql_schema.specs.declared.schema_type.SchemaType.TheVariants as types
use Rattle.gql_fields.specs.BreachTexts.{expected_text, one_field_text}

-- a variable may be of any type
abbrev pub any_type : Fitting
any_type = record { null = false; at = λ ty. true }

-- one level of a value of a document
abbrev pub literal_step : TypeTable → DocValue-F Fitting → Fitting
literal_step table (DocValue-F.Variable name) = any_type
literal_step table DocValue-F.Null = fits_step table Value-F.Null
literal_step table (DocValue-F.Boolean truth) = fits_step table (Value-F.Boolean truth)
literal_step table (DocValue-F.Number number) = fits_step table (Value-F.Number number)
literal_step table (DocValue-F.String text) = fits_step table (Value-F.String text)
literal_step table (DocValue-F.Enum name) = fits_step table (Value-F.Enum name)
literal_step table (DocValue-F.List items) = fits_step table (Value-F.List items)
literal_step table (DocValue-F.Object members) = fits_step table (Value-F.Object members)

-- which types a value of a document fits
abbrev pub literal_fitting : TypeTable → DocValue → Fitting
literal_fitting table = fold-DocValue Fitting (literal_step table)

abbrev pub literal_fits : TypeTable → DocValue → TypeRef → Bool
literal_fits table value ty = (literal_fitting table value).at ty

-- a value without what stands inside it; a variable, which no test asks for, as null
abbrev pub bare_here : {X : Type 0} → DocValue-F X → Value-F (Unit {0})
bare_here (DocValue-F.Variable name) = Value-F.Null
bare_here DocValue-F.Null = Value-F.Null
bare_here (DocValue-F.Boolean truth) = Value-F.Boolean truth
bare_here (DocValue-F.Number number) = Value-F.Number number
bare_here (DocValue-F.String text) = Value-F.String text
bare_here (DocValue-F.Enum name) = Value-F.Enum name
bare_here (DocValue-F.List items) = Value-F.List []
bare_here (DocValue-F.Object members) = Value-F.Object []

abbrev pub bare_literal : DocValue → Value-F (Unit {0})
bare_literal value = bare_here (out-DocValue value)

-- the members of an object, each with what it fits
abbrev pub fitting_member : TypeTable → List ℕ × DocValue → List ℕ × Fitting
fitting_member table (name, value) = (name, literal_fitting table value)

abbrev pub fittings : TypeTable → List (List ℕ × DocValue) → List (List ℕ × Fitting)
fittings table members = map (fitting_member table) members

-- whether a value fits a field of an input object, if there is the field, and whether it is no null
-- either
abbrev pub fits_field : TypeTable → DocValue → Option InputValue → Bool
fits_field table value field = fits_declared table (literal_fitting table value) field

abbrev pub fills_field : TypeTable → DocValue → Option InputValue → Bool
fills_field table value field = is_non_null (literal_fitting table value) field

-- whether an input object declares these members with values that fit, and whether an object of
-- them fits it
abbrev pub declares : TypeTable → InputObject → List (List ℕ × DocValue) → Bool
declares table input members = are_declared table input (fittings table members)

abbrev pub fits_members : TypeTable → InputObject → List (List ℕ × DocValue) → Bool
fits_members table input members = fits_input table input (fittings table members)

-- whether each of these values fits
abbrev pub all_fit : TypeTable → List DocValue → TypeRef → Bool
all_fit table values ty = list_all (λ f. f.at ty) (map (literal_fitting table) values)

-- whether a type is a oneof input object, non-null or not
abbrev pub is_oneof_type : Option SchemaType → Bool
is_oneof_type (Some (types.InputObject input)) = is_oneof input
is_oneof_type _ = false

abbrev pub is_oneof_here : TypeTable → TypeRef-F TypeRef → Bool
is_oneof_here table (TypeRef-F.Named name) = is_oneof_type (under name table)
is_oneof_here table _ = false

abbrev pub wants_one : TypeTable → TypeRef → Bool
wants_one table ty = is_oneof_here table (out-TypeRef (nullable_of ty))

-- whether there is exactly one
abbrev pub is_single : {A : Type 0} → List A → Bool
is_single (x ∷ []) = true
is_single _ = false

-- whether a value is an object without exactly one member
abbrev pub other_number_here : DocValue-F DocValue → Bool
other_number_here (DocValue-F.Object members) = if is_single members then false else true
other_number_here _ = false

abbrev pub has_other_number : DocValue → Bool
has_other_number value = other_number_here (out-DocValue value)

-- why a value doesn't fit a type
abbrev pub reason_text : TypeTable → TypeRef → DocValue → List ℕ
reason_text table ty value =
    if wants_one table ty && has_other_number value
    then one_field_text else expected_text (type_text ty)
