-- Which variables stand in the arguments of a document, and whether they fit where they stand
-- (GraphQL, October 2021, sections 5.8.3 and 5.8.5).
use Rattle.std.specs.Prelude.{ℕ, Bool, true, false, ◌&&◌, ◌||◌, not, List, [], ◌∷◌, Option}
use Rattle.std.specs.Prelude.{Some, None, map}
use Rattle.std.specs.Prelude.{is_some, if◌then◌else◌}
use Rattle.std.specs.List.{flat_map}
use Rattle.std.specs.Option.{option_map}
use Rattle.std.specs.Str.{bytes_eq}
use Rattle.gql_base.specs.Pairs.{under}
use Rattle.gql_base.specs.TypeRef.{innermost, is_nullable}
use Rattle.gql_base.specs.declared.type_ref.TypeRef.{TypeRef, out-TypeRef}
use Rattle.gql_base.specs.declared.type_ref.TypeRef.TheOpen.{TypeRef-F}
use Rattle.gql_base.specs.declared.type_ref.TypeRef.TheFolds.{fold-TypeRef}
use Rattle.gql_base.specs.declared.value.Value.{Value, out-Value}
use Rattle.gql_base.specs.declared.value.Value.TheOpen.{Value-F}
use Rattle.gql_doc.specs.declared.document.Argument.{Argument}
use Rattle.gql_doc.specs.declared.document.DocValue.{DocValue}
use Rattle.gql_doc.specs.declared.document.DocValue.TheOpen.{DocValue-F}
use Rattle.gql_doc.specs.declared.document.DocValue.TheFolds.{fold-DocValue}
use Rattle.gql_doc.specs.declared.document.Positioned.{Positioned}
use Rattle.gql_doc.specs.declared.document.VariableDefinition.{VariableDefinition}
use Rattle.gql_request.specs.Defined.{first_definition}
use Rattle.gql_schema.specs.Fits.{is_input_type, item_type, nullable_of}
use Rattle.gql_schema.specs.InputObject.{input_fields}
use Rattle.gql_schema.specs.InputValue.{default_of, input_type}
use Rattle.gql_schema.specs.TableReading.{Declared, TypeTable}
use Rattle.gql_schema.specs.declared.input_value.InputValue.{InputValue}
use Rattle.gql_schema.specs.declared.schema_type.SchemaType.{SchemaType}
use Rattle.gql_schema.specs.declared.schema_type.SchemaType.TheVariants as types
use Rattle.gql_fields.specs.Arguments.{argument_name}
use Rattle.gql_fields.specs.Breach.{breach, unless}
use Rattle.gql_fields.specs.Breaches.{is_condition}
use Rattle.gql_fields.specs.FieldTypes.{known_field}
use Rattle.gql_fields.specs.Places.{Place, OnDirective, OnField}
use Rattle.gql_fields.specs.Terms.{Terms}
use Rattle.gql_fields.specs.declared.breach.Breach.{Breach}
use Rattle.gql_fields.specs.declared.breach.BreachKind.TheVariants as kinds
use Rattle.gql_fields.specs.declared.built_in_arguments.BuiltIn.{BuiltIn}
use Rattle.gql_rules.specs.BreachTexts.{misplaced_text, undefined_text}

-- a place for a value: its type, and whether it has a default
pub record ValuePlace : Type 0 where
  pub ty : TypeRef
  pub has_default : Bool

-- the place of what is declared, and that of an item of a list
abbrev pub declared_place : InputValue → ValuePlace
declared_place input = record { ty = input_type input; has_default = is_some (default_of input) }

abbrev pub item_place : TypeRef → ValuePlace
item_place ty = record { ty = ty; has_default = false }

-- the place of the items of a list literal; at a type that is no list they have none
abbrev pub items_place : Option ValuePlace → Option ValuePlace
items_place None = None
items_place (Some place) = option_map item_place (item_type place.ty)

-- the place of a member of an object literal; one that nothing declares has none
abbrev pub member_of : List ℕ → Option SchemaType → Option InputValue
member_of name (Some (types.InputObject input)) = under name (input_fields input)
member_of name _ = None

abbrev pub member_place : TypeTable → List ℕ → Option ValuePlace → Option ValuePlace
member_place table name None = None
member_place table name (Some place) =
    option_map declared_place (member_of name (under (innermost place.ty) table))

-- whether what a variable of the first type stands for fits a place of the second
abbrev pub compatible_list : (TypeRef → Bool) → TypeRef-F TypeRef → Bool
compatible_list inner (TypeRef-F.List items) = inner items
compatible_list inner _ = false

abbrev pub compatible_name : List ℕ → TypeRef-F TypeRef → Bool
compatible_name name (TypeRef-F.Named other) = bytes_eq name other
compatible_name name _ = false

abbrev pub compatible_step : TypeRef-F (TypeRef → Bool) → TypeRef → Bool
compatible_step (TypeRef-F.NonNull inner) ty = inner (nullable_of ty)
compatible_step (TypeRef-F.List inner) ty = compatible_list inner (out-TypeRef ty)
compatible_step (TypeRef-F.Named name) ty = compatible_name name (out-TypeRef ty)

abbrev pub compatible : TypeRef → TypeRef → Bool
compatible = fold-TypeRef (TypeRef → Bool) compatible_step

-- a default other than null
abbrev pub is_value : Value-F Value → Bool
is_value Value-F.Null = false
is_value _ = true

abbrev pub has_value_default : Option (Positioned Value) → Bool
has_value_default None = false
has_value_default (Some default) = is_value (out-Value default.node)

-- whether a nullable variable may stand at a non-null place, since something stands in for null
abbrev pub eases : VariableDefinition → ValuePlace → Bool
eases definition place =
    is_nullable definition.var_type.node
    && (not (is_nullable place.ty)
    && (has_value_default definition.default || place.has_default))

-- whether a variable fits a place; each fits where there is no type
abbrev pub fits_place : TypeTable → VariableDefinition → Option ValuePlace → Bool
fits_place table definition None = true
fits_place table definition (Some place) =
    is_input_type table definition.var_type.node
    && (compatible definition.var_type.node place.ty
    || (eases definition place && compatible definition.var_type.node (nullable_of place.ty)))

abbrev pub undefined_variable : Argument → List ℕ → Breach
undefined_variable argument name =
    breach argument.name.pos kinds.Variable name (undefined_text name)

abbrev pub misplaced_variable : Argument → List ℕ → Breach
misplaced_variable argument name =
    breach argument.name.pos kinds.Variable name (misplaced_text name (argument_name argument))

-- what is told of a value by the place at which it stands
abbrev pub TellsIn : Type 0
TellsIn = Option ValuePlace → List Breach

module _ (table : TypeTable) where
  -- a variable is defined, and fits
  abbrev pub told_of_variable : Argument → List ℕ → Option (Positioned VariableDefinition)
      → TellsIn
  told_of_variable argument name None place = undefined_variable argument name ∷ []
  told_of_variable argument name (Some definition) place =
      unless (fits_place table definition.node place) (misplaced_variable argument name)

  module _ (definitions : List (Positioned VariableDefinition)) where
    -- one level of a value in an argument
    abbrev pub value_step : Argument → DocValue-F TellsIn → TellsIn
    value_step argument (DocValue-F.Variable name) place =
        told_of_variable argument name (first_definition name definitions) place
    value_step argument (DocValue-F.List items) place =
        flat_map (λ tells. tells (items_place place)) items
    value_step argument (DocValue-F.Object members) place =
        flat_map (λ member. member.1 (member_place table member.0 place)) members
    value_step argument _ place = []

    abbrev pub told_in_value : Argument → DocValue → TellsIn
    told_in_value argument = fold-DocValue TellsIn (value_step argument)

    -- of the items of a list, and of the members of an object
    abbrev pub told_in_items : Argument → List DocValue → TellsIn
    told_in_items argument items place =
        flat_map (λ tells. tells place) (map (told_in_value argument) items)

    abbrev pub told_in_member : Argument → List ℕ × DocValue → List ℕ × TellsIn
    told_in_member argument (name, value) = (name, told_in_value argument value)

    abbrev pub told_in_members : Argument → List (List ℕ × DocValue) → TellsIn
    told_in_members argument members place =
        flat_map (λ member. member.1 (member_place table member.0 place))
        (map (told_in_member argument) members)

    -- what is told of the variables in an argument
    abbrev pub told_in_argument : List (List ℕ × InputValue) → Argument → List Breach
    told_in_argument declared argument =
        told_in_value argument argument.value.node
        (option_map declared_place (under (argument_name argument) declared))

    abbrev pub told_in_arguments : List (List ℕ × InputValue) → List Argument → List Breach
    told_in_arguments declared arguments = flat_map (told_in_argument declared) arguments

    -- of those of a known field
    abbrev pub told_in_field : List Argument → Option Declared → List Breach
    told_in_field arguments None = []
    told_in_field arguments (Some declared) = told_in_arguments declared.arguments arguments

module _ (built : BuiltIn) (terms : Terms) (definitions : List (Positioned VariableDefinition)) where
  -- what is told of the variables at a place, by the definitions of an operation
  abbrev pub uses_told_at : Place → List Breach
  uses_told_at (OnField field) =
      told_in_field terms.table definitions field.arguments
      (known_field built terms field.parent field.name)
  uses_told_at (OnDirective selects directive) =
      if selects && is_condition directive.node
      then told_in_arguments terms.table definitions built.condition directive.node.arguments
      else []
  uses_told_at _ = []

  abbrev pub uses_told : List Place → List Breach
  uses_told places = flat_map uses_told_at places
