-- The data that a completed answer is, where it has no object and no fault (GraphQL, October 2021,
-- section 6.4.3).
use Rattle.std.specs.Prelude.{◌≡◌, ℕ, List, Option, Some, None, option_map}
use Rattle.gql_base.specs.declared.value.Value.{Value}
use Rattle.gql_base.specs.declared.value.Value.TheVariants as value
use Rattle.gql_meaning.specs.Completion.{Completed, completed}
use Rattle.gql_place.specs.Raised.{all_items}
use Rattle.gql_place.specs.declared.shape.Shape.TheFolds.{fold-Shape}
use Rattle.gql_place.specs.declared.shape.Shape.TheOpen.{Shape-F}
use Rattle.gql_resolve.specs.declared.field_value.FieldValue.{FieldValue}
use Rattle.gql_resolve.specs.declared.field_value.FieldValue.TheVariants as kind
use Rattle.gql_schema.specs.TableReading.{TypeTable}
use Rattle.gql_base.specs.declared.type_ref.TypeRef.{TypeRef}

module _ {V : Type 0} where
  -- one level of it
  abbrev pub data_step : Shape-F (List ℕ) (FieldValue V) (Option Value) → Option Value
  data_step Shape-F.Absent = Some value.Null
  data_step (Shape-F.Leaf leaf) = Some leaf
  data_step (Shape-F.Fault error) = None
  data_step (Shape-F.Object object parent) = None
  data_step (Shape-F.List non_null items) = option_map value.List (all_items items)

  -- the data of a completed answer, if it is data
  abbrev pub data_of : Completed V → Option Value
  data_of = fold-Shape (List ℕ) (FieldValue V) (Option Value) data_step

  -- a completed answer is this data
  abbrev pub IsData : Completed V → Value → Type 0
  IsData whole value = data_of whole ≡ Some value

-- the data that a value comes to at a type, if it comes to data
abbrev pub data_at : (V : Type 0) → TypeTable → TypeRef → Value → Option Value
data_at V table ty value = data_of (completed {V = V} table ty (Some (kind.Value value)))
