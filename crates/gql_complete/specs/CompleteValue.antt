-- What values come to at a type, part by part (GraphQL, October 2021, section 6.4.3).
use Rattle.std.specs.Prelude.{◌≡◌, ℕ, true, false, List, Option, Some, None, Result, Ok, Err, if◌then◌else◌}
use Rattle.gql_base.specs.Kinds.{enum_name_of, is_null}
use Rattle.gql_base.specs.declared.error.Error.{Error}
use Rattle.gql_base.specs.declared.value.Value.{Value}
use Rattle.gql_base.specs.declared.value.Value.TheVariants as value_kind
use Rattle.gql_meaning.specs.Completion.{at_enum, at_items, at_scalar, Completed, Completing, shown}
use Rattle.gql_place.specs.declared.shape.Shape.TheVariants as shape
use Rattle.gql_resolve.specs.FieldValue.{value_in}
use Rattle.gql_resolve.specs.declared.field_value.FieldValue.{FieldValue}
use Rattle.gql_schema.specs.ScalarRule.{takes}
use Rattle.gql_schema.specs.declared.scalar_rule.ScalarRule.{ScalarRule}

-- a value as it stands, or null
abbrev pub value_or_null : Option Value → Value
value_or_null None = value_kind.Null
value_or_null (Some value) = value

-- a value is a leaf of the scalar of this name and rule as it stands
pub record IsShown (name : List ℕ) (rule : ScalarRule) (value : Value) : Type 0 where
  pub some : is_null value ≡ false
  pub taken : takes rule value ≡ true
  pub same : shown name value ≡ value

module _ {V : Type 0} where
  -- a list of these items, each completed
  abbrev pub listed : Completing V → List (FieldValue V) → Completed V
  listed inner items = at_items inner (Some items)

  -- null is absent
  abbrev pub absent_if_null : Value → Completed V → Completed V
  absent_if_null value comes = if is_null value then shape.Absent else comes

  -- a value at the scalar of this name and rule
  abbrev pub leaf_at : List ℕ → ScalarRule → Value → Completed V
  leaf_at name rule value = absent_if_null value (at_scalar name rule (Some value))

  -- a value at the enum of this name and items
  abbrev pub item_at : List ℕ → List (List ℕ) → Value → Completed V
  item_at name items value = absent_if_null value (at_enum name items (enum_name_of value))

  -- the value that is given, if one is
  abbrev pub data_given : Option (FieldValue V) → Value
  data_given None = value_kind.Null
  data_given (Some given) = value_or_null (value_in given)

  -- the same of what a resolver's result gives
  abbrev pub data_in : Result (Option (FieldValue V)) Error → Value
  data_in (Err error) = value_kind.Null
  data_in (Ok given) = data_given given
