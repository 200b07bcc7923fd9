-- What an answer comes to by the type of its field (GraphQL, October 2021, sections 6.4.3 and 3.5
-- to 3.8). Nothing is asked or rolled out here: the value of an object stands in the shape with the
-- name of its type.
use Rattle.std.specs.Prelude.{ℕ, ℤ, ◌++◌, ◌&&◌, not, Bool, true, false, List, map, Option, Some}
use Rattle.std.specs.Prelude.{None, Result}
use Rattle.std.specs.Prelude.{Ok, Err, option_and_then, option_map, if◌then◌else◌, codes}
use Rattle.std.specs.Fmt.{signed_decimal}
use Rattle.std.specs.Option.{option_or}
use Rattle.std.specs.Str.{bytes_eq}
use Rattle.gql_base.specs.Kinds.{enum_name_of, is_null, list_of}
use Rattle.gql_base.specs.Pairs.{under}
use Rattle.gql_base.specs.TypeRef.{is_nullable}
use Rattle.gql_base.specs.declared.error.Error.{Error}
use Rattle.gql_base.specs.declared.type_ref.TypeRef.{TypeRef}
use Rattle.gql_base.specs.declared.type_ref.TypeRef.TheOpen.{TypeRef-F}
use Rattle.gql_base.specs.declared.type_ref.TypeRef.TheFolds.{fold-TypeRef}
use Rattle.gql_base.specs.declared.value.Value.{Value, out-Value}
use Rattle.gql_base.specs.declared.value.Value.TheOpen.{Value-F}
use Rattle.gql_base.specs.declared.value.Value.TheVariants as value
use Rattle.gql_place.specs.Filled.{Outcome}
use Rattle.gql_place.specs.declared.shape.Shape.{Shape, out-Shape}
use Rattle.gql_place.specs.declared.shape.Shape.TheOpen.{Shape-F}
use Rattle.gql_place.specs.declared.shape.Shape.TheVariants as shape
use Rattle.gql_resolve.specs.FieldValue.{items_in, value_in}
use Rattle.gql_resolve.specs.declared.answer.Answer.{Answer}
use Rattle.gql_resolve.specs.declared.field_value.FieldValue.{FieldValue, out-FieldValue}
use Rattle.gql_resolve.specs.declared.field_value.FieldValue.TheOpen.{FieldValue-F}
use Rattle.gql_resolve.specs.declared.field_value.FieldValue.TheVariants as kind
use Rattle.gql_schema.specs.Enum.{items_of}
use Rattle.gql_schema.specs.NameSet.{is_among}
use Rattle.gql_schema.specs.Scalar.{rule_of}
use Rattle.gql_schema.specs.ScalarRule.{takes}
use Rattle.gql_schema.specs.TableReading.{TypeTable, has_type, is_known_object}
use Rattle.gql_schema.specs.declared.scalar_rule.ScalarRule.{ScalarRule}
use Rattle.gql_schema.specs.declared.schema_type.SchemaType.{SchemaType}
use Rattle.gql_schema.specs.declared.schema_type.SchemaType.TheVariants as types

-- nothing where a value is due
abbrev pub no_value : List ℕ
no_value = codes "internal: non-null types require a return value"

-- what is no list where a list is due
abbrev pub no_array : List ℕ
no_array = codes "internal: expects an array"

-- a value that the rule of the scalar of this name doesn't take
abbrev pub no_scalar : List ℕ → List ℕ
no_scalar name =
    codes "internal: invalid value for scalar \""
    ++ (name ++ codes "\", expected \"FieldValue::Value\"")

-- a value that is no item of the enum of this name
abbrev pub no_item : List ℕ → List ℕ
no_item name = codes "internal: invalid item for enum \"" ++ (name ++ codes "\"")

-- what is said of an abstract type where a value names no object type, and where it names one that
-- the abstract type hasn't
pub record AbstractTexts : Type 0 where
  pub unnamed : List ℕ
  pub foreign : List ℕ → List ℕ

-- an interface that the object doesn't implement
abbrev pub interface_texts : List ℕ → AbstractTexts
interface_texts name = record {
  unnamed =
      codes "internal: invalid value for interface \""
      ++ (name ++ codes "\", expected \"FieldValue::WithType\"");
  foreign = λ object. codes "internal: object \"" ++
      (object ++ (codes "\" does not implement interface \"" ++ (name ++ codes "\"")));
}

-- a union that the object isn't a member of
abbrev pub union_texts : List ℕ → AbstractTexts
union_texts name = record {
  unnamed =
      codes "internal: invalid value for union \""
      ++ (name ++ codes "\", expected \"FieldValue::WithType\"");
  foreign = λ object. codes "internal: union \"" ++
      (name ++ (codes "\" does not contain object \"" ++ (object ++ codes "\"")));
}

-- a number of the type `ID` is shown as its decimal text (section 3.5.5)
abbrev pub shown_number : List ℕ → ℤ → Value
shown_number name number = if bytes_eq name (codes "ID") then value.String
    (signed_decimal number) else value.Number number

-- one level of it: what isn't a number stays as it is
abbrev pub shown_here : List ℕ → Value → Value-F Value → Value
shown_here name whole (Value-F.Number number) = shown_number name number
shown_here name whole _ = whole

-- the value that a leaf of the scalar of this name shows
abbrev pub shown : List ℕ → Value → Value
shown name whole = shown_here name whole (out-Value whole)

-- whether an object of the table is one of those that a type can be
abbrev pub is_possible : TypeTable → List ℕ → List ℕ → Bool
is_possible table type object = is_known_object (under object table) && has_type table type object

-- whether a value, if there is one, is null
abbrev pub is_null_in : Option Value → Bool
is_null_in None = false
is_null_in (Some whole) = is_null whole

-- a shape over objects by their names, each with the value that its fields are asked of
abbrev pub Completed : Type 0 → Type 0
Completed V = Shape (List ℕ) (FieldValue V)

-- CompleteValue at one type: whether null may not stand there, and what a value, if any, comes to
pub record Completing (V : Type 0) : Type 0 where
  pub non_null : Bool
  pub completes : Option (FieldValue V) → Completed V

module _ {V : Type 0} where
  -- a fault of the executor's own
  abbrev pub fault : List ℕ → Completed V
  fault message = shape.Fault (record { message = message; extensions = None })

  -- the object type that a value names, and the value without that name
  abbrev pub named_here : FieldValue-F V (FieldValue V) → Option (List ℕ × FieldValue V)
  named_here (FieldValue-F.WithType inner ty) = Some (ty, inner)
  named_here _ = None

  -- the same of a whole value
  abbrev pub named_in : FieldValue V → Option (List ℕ × FieldValue V)
  named_in given = named_here (out-FieldValue V given)

  -- the items of a list, or of a value that is a list
  abbrev pub all_items_in : FieldValue V → Option (List (FieldValue V))
  all_items_in given = option_or (items_in given) (option_map (map kind.Value)
      (option_and_then list_of (value_in given)))

  -- null stands at each nullable type but an object, whose fields are asked of null too
  abbrev pub unless_null : FieldValue V → Completed V → Completed V
  unless_null given completed = if is_null_in (value_in given) then shape.Absent else completed

  -- a scalar has the values that its rule takes (section 3.5)
  abbrev pub at_scalar : List ℕ → ScalarRule → Option Value → Completed V
  at_scalar name rule None = fault (no_scalar name)
  at_scalar name rule (Some whole) =
      if takes rule whole then shape.Leaf (shown name whole) else fault (no_scalar name)

  -- an enum has its items, by their names or as strings (section 3.9)
  abbrev pub at_enum : List ℕ → List (List ℕ) → Option (List ℕ) → Completed V
  at_enum name items None = fault (no_item name)
  at_enum name items (Some item) =
      if is_among item items then shape.Leaf (value.Enum item) else fault (no_item name)

  -- an interface or a union has the objects that it can be, where the value names one (sections 3.7
  -- and 3.8)
  abbrev pub at_abstract : TypeTable → List ℕ → AbstractTexts → Option (List ℕ × FieldValue V)
      → Completed V
  at_abstract table name texts None = fault texts.unnamed
  at_abstract table name texts (Some (object, inner)) =
      if is_possible table name object
      then shape.Object object inner else fault (texts.foreign object)

  -- a value at a type of the table; no field of a sound table has another type than these
  abbrev pub at_type : TypeTable → List ℕ → Option SchemaType → FieldValue V → Completed V
  at_type table name (Some (types.Scalar scalar)) given = unless_null given
      (at_scalar name (rule_of scalar) (value_in given))
  at_type table name (Some (types.Enum enum)) given = unless_null given
      (at_enum name (items_of enum) (option_and_then enum_name_of (value_in given)))
  at_type table name (Some (types.Object object)) given = shape.Object name given
  at_type table name (Some (types.Interface interface)) given = unless_null given
      (at_abstract table name (interface_texts name) (named_in given))
  at_type table name (Some (types.Union union)) given = unless_null given
      (at_abstract table name (union_texts name) (named_in given))
  at_type table name _ given = shape.Absent

  -- what is absent where a value is due is a fault
  abbrev pub required_here : Completed V → Shape-F (List ℕ) (FieldValue V) (Completed V)
      → Completed V
  required_here whole Shape-F.Absent = fault no_value
  required_here whole _ = whole

  -- a non-null type: what its type comes to, where that is anything
  abbrev pub required : Completed V → Completed V
  required whole = required_here whole (out-Shape (List ℕ) (FieldValue V) whole)

  -- a list: each of its items, completed at the type of items
  abbrev pub at_items : Completing V → Option (List (FieldValue V)) → Completed V
  at_items inner None = fault no_array
  at_items inner (Some items) =
      shape.List inner.non_null (map (λ item. inner.completes (Some item)) items)

  -- no value is absent
  abbrev pub if_given : (FieldValue V → Completed V) → Option (FieldValue V) → Completed V
  if_given completes None = shape.Absent
  if_given completes (Some given) = completes given

  -- one level of a type
  abbrev pub completing_step : TypeTable → TypeRef-F (Completing V) → Completing V
  completing_step table (TypeRef-F.Named name) = record {
    non_null = false;
    completes = if_given (at_type table name (under name table));
  }
  completing_step table (TypeRef-F.NonNull inner) = record {
    non_null = true;
    completes = λ given. required (inner.completes given);
  }
  completing_step table (TypeRef-F.List inner) = record {
    non_null = false;
    completes = if_given (λ given. unless_null given (at_items inner (all_items_in given)));
  }

  -- CompleteValue at a type
  abbrev pub completing : TypeTable → TypeRef → Completing V
  completing table = fold-TypeRef (Completing V) (completing_step table)

  -- what a value, if any, comes to
  abbrev pub completed : TypeTable → TypeRef → Option (FieldValue V) → Completed V
  completed table ty = (completing table ty).completes

  -- an error of a resolver is a fault
  abbrev pub shape_of : TypeTable → TypeRef → Result (Option (FieldValue V)) Error → Completed V
  shape_of table ty (Err error) = shape.Fault error
  shape_of table ty (Ok given) = completed table ty given

  -- an answer to a field of a type, with the errors and header operations beside it
  abbrev pub outcome_at : TypeTable → TypeRef → Answer V → Outcome (List ℕ) (FieldValue V)
  outcome_at table ty answer =
      record {
        non_null = not (is_nullable ty);
        added = answer.added;
        headers = answer.headers;
        shape = shape_of table ty answer.result;
      }
