-- What comes of the answer to a field (GraphQL, October 2021, section 6.4.3).
use Rattle.std.specs.Prelude.{ℕ, Bool, true, false, List, [], Option, Some, None}
use Rattle.std.specs.Prelude.{if◌then◌else◌}
use Rattle.gql_base.specs.declared.value.Value.{Value}
use Rattle.gql_base.specs.declared.value.Value.TheVariants as value
use Rattle.gql_doc.specs.declared.document.Field.{Field}
use Rattle.gql_doc.specs.declared.document.Positioned.{Positioned}
use Rattle.gql_collect.specs.Execution.{Asking, asking, Execution, is_typename}
use Rattle.gql_collect.specs.TableSetting.{declared_arguments}
use Rattle.gql_meaning.specs.Completion.{outcome_at}
use Rattle.gql_place.specs.Filled.{Outcome}
use Rattle.gql_place.specs.Laws.{outcome_of as outcome_named}
use Rattle.gql_place.specs.declared.shape.Shape.TheVariants as shape
use Rattle.gql_resolve.specs.Call.{Call}
use Rattle.gql_resolve.specs.declared.answer.Answer.{Answer}
use Rattle.gql_resolve.specs.declared.field_value.FieldValue.{FieldValue}

module _ {V : Type 0} where
  -- the name of an object, which is never null
  abbrev pub typename_outcome : List ℕ → Outcome (List ℕ) (FieldValue V)
  typename_outcome object =
      record { non_null = true; added = []; headers = []; shape = shape.Leaf (value.String object) }

  -- where nothing is asked nothing stands, which is null (a field that isn't declared is asked
  -- nothing, and in introspection-only mode alone it is an occurrence)
  abbrev pub absent_outcome : Outcome (List ℕ) (FieldValue V)
  absent_outcome = record { non_null = false; added = []; headers = []; shape = shape.Absent }

module _ {V : Type 0} (is_root : Bool) (execution : Execution) (answer : Call V → Answer V) where
  -- what an answer comes to at its type, where one is asked
  abbrev pub answered_outcome : Option (Asking V) → Outcome (List ℕ) (FieldValue V)
  answered_outcome None = absent_outcome
  answered_outcome (Some asked) = outcome_at execution.schema.table asked.ty (answer asked.call)

  -- what the field of a name comes to
  abbrev pub named_outcome : List ℕ → FieldValue V → List ℕ → List (List ℕ × Value)
      → Outcome (List ℕ) (FieldValue V)
  named_outcome object parent name arguments =
      if is_typename name
      then typename_outcome object
      else answered_outcome (asking is_root execution object parent name arguments)

  -- what an occurrence comes to, at the constants of its arguments
  abbrev pub field_outcome : List ℕ → FieldValue V → Positioned Field
      → Outcome (List ℕ) (FieldValue V)
  field_outcome =
      outcome_named named_outcome execution.known (declared_arguments execution.schema)
