-- The faults of a table of types, each by a rule (SchemaRule). A fault is at a place, or there is
-- none. At one place the rule on unsupported names comes first, and the others in the order of
-- their numbers.
use Rattle.std.specs.Prelude.{ℕ, Bool, true, false, ◌&&◌, ◌||◌, not, List, Option, Some}
use Rattle.std.specs.Prelude.{None, Result, IfOk, is_some, ◌≡◌, if◌then◌else◌}
use Rattle.std.specs.List.{list_all}
use Rattle.std.specs.Option.{option_or}
use Rattle.gql_base.specs.Pairs.{under}
use Rattle.gql_base.specs.Same.{is_same}
use Rattle.gql_base.specs.TypeRef.{innermost, is_nullable, type_text}
use Rattle.gql_base.specs.contracts.type_ref.TypeRef.{the_row}
use Rattle.gql_base.specs.declared.type_ref.TypeRef.{TypeRef}
use Rattle.gql_base.specs.declared.value.Value.{Value}
use Rattle.gql_lists.specs.First.{first_found}
use Rattle.gql_schema.specs.Covariance.{is_covariant}
use Rattle.gql_schema.specs.Field.{field_type, arguments_of}
use Rattle.gql_schema.specs.Fits.{fits, is_doubled, is_known_input, is_unsupported}
use Rattle.gql_schema.specs.InputObject.{input_object_name, input_fields, is_oneof}
use Rattle.gql_schema.specs.InputValue.{input_name, input_type, default_of}
use Rattle.gql_schema.specs.Interface.{interface_name, promised_fields}
use Rattle.gql_schema.specs.InterfaceField.{promised_name, promised_type, promised_arguments}
use Rattle.gql_schema.specs.Object.{object_name, fields_of, interfaces_of}
use Rattle.gql_schema.specs.SchemaRule.{number_of}
use Rattle.gql_schema.specs.Subscription.{subscription_name, event_fields}
use Rattle.gql_schema.specs.TableReading.{Declared, TypeTable, is_known_object, of_interface}
use Rattle.gql_schema.specs.TableReading.{of_object, of_subscription}
use Rattle.gql_schema.specs.Texts.{dotted, not_found_text, misplaced_text, doubled_text}
use Rattle.gql_schema.specs.Texts.{not_nullable_text, has_default_text, unsatisfied_text}
use Rattle.gql_schema.specs.Texts.{no_object_text, self_containing_text, unsupported_text}
use Rattle.gql_schema.specs.Texts.{unfit_text}
use Rattle.gql_schema.specs.Types.{type_name}
use Rattle.gql_schema.specs.Union.{union_name, members_of}
use Rattle.gql_schema.specs.declared.field.Field.{Field}
use Rattle.gql_schema.specs.declared.input_object.InputObject.{InputObject}
use Rattle.gql_schema.specs.declared.input_value.InputValue.{InputValue}
use Rattle.gql_schema.specs.declared.interface.Interface.{Interface}
use Rattle.gql_schema.specs.declared.interface_field.InterfaceField.{InterfaceField}
use Rattle.gql_schema.specs.declared.object.Object.{Object}
use Rattle.gql_schema.specs.declared.schema_error.SchemaError.{SchemaError}
use Rattle.gql_schema.specs.declared.schema_rule.SchemaRule.{SchemaRule}
use Rattle.gql_schema.specs.declared.schema_rule.SchemaRule.TheVariants as broken
use Rattle.gql_schema.specs.declared.schema_type.SchemaType.{SchemaType}
use Rattle.gql_schema.specs.declared.schema_type.SchemaType.TheVariants as types
use Rattle.gql_schema.specs.declared.subscription.Subscription.{Subscription}
use Rattle.gql_schema.specs.declared.union.Union.{Union}

-- what a check answers where there is memory enough: this fault, or none
abbrev pub Tells : {E : Type 0} → Result (Option SchemaError) E → Option SchemaError → Type 0
Tells answer fault = IfOk answer (λ found. found ≡ fault)

abbrev pub fault_if : Bool → SchemaRule → List ℕ → Option SchemaError
fault_if is_broken rule text =
    if is_broken then Some (record { rule = number_of rule; text = text }) else None

-- the rules on a name: a type of this name can't be, or isn't there
abbrev pub unsupported_fault : List ℕ → Option SchemaError
unsupported_fault name = fault_if (is_unsupported name) broken.Unsupported (unsupported_text name)

abbrev pub not_found_fault : TypeTable → List ℕ → Option SchemaError
not_found_fault table name =
    fault_if (not (is_some (under name table))) broken.NotFound (not_found_text name)

abbrev pub name_fault : TypeTable → List ℕ → Option SchemaError
name_fault table name = option_or (unsupported_fault name) (not_found_fault table name)

-- the kinds that can't stand at an output
abbrev pub is_no_output : Option SchemaType → Bool
is_no_output (Some (types.InputObject input)) = true
is_no_output (Some (types.Subscription subscription)) = true
is_no_output _ = false

abbrev pub misplaced_fault : Bool → List ℕ → Option SchemaError
misplaced_fault misplaced name = fault_if misplaced broken.Misplaced (misplaced_text name)

abbrev pub doubled_fault : TypeRef → Option SchemaError
doubled_fault ty = fault_if (is_doubled ty) broken.DoublyNonNull (doubled_text (type_text ty))

-- the rules on a type of a known name, which may stand where its kind can't
abbrev pub kind_fault : Bool → TypeRef → Option SchemaError
kind_fault misplaced ty = option_or (misplaced_fault misplaced (innermost ty)) (doubled_fault ty)

-- the rules on a type at a place, where some kinds can't stand
abbrev pub type_fault : TypeTable → (Option SchemaType → Bool) → TypeRef → Option SchemaError
type_fault table misplaced ty =
    option_or (name_fault table (innermost ty))
    (kind_fault (misplaced (under (innermost ty) table)) ty)

abbrev pub output_fault : TypeTable → TypeRef → Option SchemaError
output_fault table ty = type_fault table is_no_output ty

abbrev pub is_no_input : Option SchemaType → Bool
is_no_input ty = not (is_known_input ty)

abbrev pub input_fault : TypeTable → TypeRef → Option SchemaError
input_fault table ty = type_fault table is_no_input ty

-- a default that doesn't fit
abbrev pub unfit_default : TypeTable → List ℕ → TypeRef → Option Value → Option SchemaError
unfit_default table path ty None = None
unfit_default table path ty (Some value) =
    fault_if (not (fits table value ty)) broken.Unfit (unfit_text path)

abbrev pub default_fault : TypeTable → List ℕ → InputValue → Option SchemaError
default_fault table owner input =
    unfit_default table (dotted owner (input_name input)) (input_type input) (default_of input)

-- an argument of what has this name
abbrev pub argument_fault : TypeTable → List ℕ → InputValue → Option SchemaError
argument_fault table owner input =
    option_or (input_fault table (input_type input)) (default_fault table owner input)

abbrev pub arguments_fault : TypeTable → List ℕ → List (List ℕ × InputValue) → Option SchemaError
arguments_fault table owner arguments = first_found (λ p. argument_fault table owner p.1) arguments

-- a field of the type of this name: its type, then its arguments
abbrev pub field_fault : TypeTable → List ℕ → List ℕ → Declared → Option SchemaError
field_fault table owner name field =
    option_or (output_fault table field.ty)
    (arguments_fault table (dotted owner name) field.arguments)

-- the fields of the type of this name, of which each declares one
abbrev pub named_field_fault : {T : Type 0} → (T → Declared) → TypeTable → List ℕ → List ℕ × T
    → Option SchemaError
named_field_fault declares table owner (name, field) =
    field_fault table owner name (declares field)

abbrev pub fields_fault : {T : Type 0} → (T → Declared) → TypeTable → List ℕ → List (List ℕ × T)
    → Option SchemaError
fields_fault declares table owner fields =
    first_found (named_field_fault declares table owner) fields

-- whether two types are the same
abbrev pub is_same_type : TypeRef → TypeRef → Bool
is_same_type = is_same the_row.coded

abbrev pub has_same_type : InputValue → Option InputValue → Bool
has_same_type promised None = false
has_same_type promised (Some argument) = is_same_type (input_type argument) (input_type promised)

-- whether an argument can be left out
abbrev pub is_optional : InputValue → Bool
is_optional input = is_nullable (input_type input) || is_some (default_of input)

abbrev pub has_arguments : List (List ℕ × InputValue) → List (List ℕ × InputValue) → Bool
has_arguments promised arguments = list_all (λ p. has_same_type p.1 (under p.0 arguments)) promised

abbrev pub is_spare : List (List ℕ × InputValue) → List ℕ × InputValue → Bool
is_spare promised (name, argument) = is_some (under name promised) || is_optional argument

abbrev pub has_only_spare : List (List ℕ × InputValue) → List (List ℕ × InputValue) → Bool
has_only_spare promised arguments = list_all (is_spare promised) arguments

-- whether a field keeps what an interface promises of it: a covariant type, each argument with its
-- type, and no further one that can't be left out
abbrev pub keeps : TypeTable → InterfaceField → Option Field → Bool
keeps table promised None = false
keeps table promised (Some field) =
    is_covariant table (field_type field) (promised_type promised)
    && has_arguments (promised_arguments promised) (arguments_of field)
    && has_only_spare (promised_arguments promised) (arguments_of field)

abbrev pub promise_fault : TypeTable → Object → Interface → InterfaceField → Option SchemaError
promise_fault table object interface promised =
    fault_if (not (keeps table promised (under (promised_name promised) (fields_of object))))
    broken.Unsatisfied
    (unsatisfied_text (object_name object) (interface_name interface) (promised_name promised))

abbrev pub interface_promises_fault : TypeTable → Object → Interface → Option SchemaError
interface_promises_fault table object interface =
    first_found (λ p. promise_fault table object interface p.1) (promised_fields interface)

abbrev pub promises_fault : TypeTable → Object → List ℕ → Option SchemaType → Option SchemaError
promises_fault table object name (Some (types.Interface interface)) =
    interface_promises_fault table object interface
promises_fault table object name _ = misplaced_fault true name

-- an interface that an object implements
abbrev pub implemented_fault : TypeTable → Object → List ℕ → Option SchemaError
implemented_fault table object name =
    option_or (name_fault table name) (promises_fault table object name (under name table))

-- a member of a union
abbrev pub member_fault : TypeTable → Union → List ℕ → Option SchemaError
member_fault table union name =
    option_or (name_fault table name)
    (fault_if (not (is_known_object (under name table))) broken.NoObject
    (no_object_text (union_name union) name))

-- a field of a oneof input object
abbrev pub oneof_fault : InputObject → InputValue → Option SchemaError
oneof_fault input field =
    option_or
    (fault_if (is_oneof input && not (is_nullable (input_type field))) broken.NotOptional
    (not_nullable_text (dotted (input_object_name input) (input_name field))))
    (fault_if (is_oneof input && is_some (default_of field)) broken.NotOptional
    (has_default_text (dotted (input_object_name input) (input_name field))))

-- what follows the faults of a field's type
abbrev pub input_rest_fault : TypeTable → InputObject → InputValue → Option SchemaError
input_rest_fault table input field =
    option_or (oneof_fault input field) (default_fault table (input_object_name input) field)

-- a field of an input object
abbrev pub input_field_fault : TypeTable → InputObject → InputValue → Option SchemaError
input_field_fault table input field =
    option_or (input_fault table (input_type field)) (input_rest_fault table input field)

-- the parts of the kinds of types, each in its order
abbrev pub object_fields_fault : TypeTable → Object → Option SchemaError
object_fields_fault table object =
    fields_fault of_object table (object_name object) (fields_of object)

abbrev pub interfaces_fault : TypeTable → Object → Option SchemaError
interfaces_fault table object = first_found (implemented_fault table object) (interfaces_of object)

-- an object: its fields, then the interfaces that it implements
abbrev pub object_fault : TypeTable → Object → Option SchemaError
object_fault table object =
    option_or (object_fields_fault table object) (interfaces_fault table object)

abbrev pub promised_fields_fault : TypeTable → Interface → Option SchemaError
promised_fields_fault table interface =
    fields_fault of_interface table (interface_name interface) (promised_fields interface)

abbrev pub event_fields_fault : TypeTable → Subscription → Option SchemaError
event_fields_fault table subscription =
    fields_fault of_subscription table (subscription_name subscription) (event_fields subscription)

abbrev pub members_fault : TypeTable → Union → Option SchemaError
members_fault table union = first_found (member_fault table union) (members_of union)

abbrev pub input_fields_fault : TypeTable → InputObject → Option SchemaError
input_fields_fault table input =
    first_found (λ p. input_field_fault table input p.1) (input_fields input)

abbrev pub self_containing_fault : Bool → List ℕ → Option SchemaError
self_containing_fault contains name =
    fault_if contains broken.ContainsItself (self_containing_text name)

-- an input object, of which it is known whether it contains itself
abbrev pub input_object_fault : TypeTable → Bool → InputObject → Option SchemaError
input_object_fault table contains input =
    option_or (self_containing_fault contains (input_object_name input))
    (input_fields_fault table input)

-- the first fault of a type's parts; whether an input object contains itself is given
abbrev pub parts_fault : TypeTable → Bool → SchemaType → Option SchemaError
parts_fault table contains (types.Object object) = object_fault table object
parts_fault table contains (types.Interface interface) = promised_fields_fault table interface
parts_fault table contains (types.Union union) = members_fault table union
parts_fault table contains (types.InputObject input) = input_object_fault table contains input
parts_fault table contains (types.Subscription subscription) = event_fields_fault table subscription
parts_fault table contains (types.Scalar scalar) = None
parts_fault table contains (types.Enum enum) = None

-- the first fault of a type: its own name's, then those of its parts
abbrev pub fault_of : TypeTable → Bool → SchemaType → Option SchemaError
fault_of table contains ty =
    option_or (unsupported_fault (type_name ty)) (parts_fault table contains ty)
