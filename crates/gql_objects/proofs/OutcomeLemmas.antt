-- What a field comes to is what comes of what it asks.
use Rattle.std.proofs.Common.{◌≡◌, ℕ, ◌||◌, Bool, true, false, cond, List, Option, Some, None, refl, ap, ◌∙◌}
use Rattle.std.specs.Prelude.{option_and_then}
use Rattle.gql_base.specs.declared.value.Value.{Value}
use Rattle.gql_doc.specs.declared.document.Field.{Field}
use Rattle.gql_doc.specs.declared.document.Positioned.{Positioned}
use Rattle.gql_meaning.specs.Outcomes.{answered_outcome, field_outcome, typename_outcome}
use Rattle.gql_collect.specs.Execution.{Asking, asking_at, Execution, is_typename}
use Rattle.gql_collect.specs.TableSetting.{arguments_in, field_in}
use Rattle.gql_resolve.specs.Call.{Call}
use Rattle.gql_resolve.specs.declared.answer.Answer.{Answer}
use Rattle.gql_resolve.specs.declared.field_value.FieldValue.{FieldValue}
use Rattle.gql_schema.specs.TableReading.{Declared}
use Rattle.gql_select.specs.Alike.{arguments_of, name_of}
use Rattle.gql_select.specs.Constants.{constants}
use Rattle.gql_collect.specs.Asks.{asking_by, asks_at, asks_by, asks_of}
use Rattle.gql_objects.specs.Outcomes.{outcome_by}
use Rattle.gql_collect.specs.declared.asks.Asks.{Asks}
use Rattle.gql_collect.specs.declared.asks.Asks.TheVariants as asks
use Rattle.gql_collect.proofs.AsksLemmas.{at_declared}

module _ {V : Type 0} (is_root : Bool) (execution : Execution) (parent : FieldValue V) (answer : Call V → Answer V) (object : List ℕ) where
  of_declared : (found : Option Declared) (arguments : List (List ℕ × Value))
      → answered_outcome is_root execution answer (asking_by is_root execution.layers parent (asks_at arguments found))
      ≡ outcome_by is_root execution answer object parent (asks_at arguments found)
  of_declared None arguments = refl
  of_declared (Some declared) arguments = of_number declared declared.number arguments
    where
      of_number : (declared : Declared) (number : Option ℕ) (arguments : List (List ℕ × Value))
          → answered_outcome is_root execution answer (asking_by is_root execution.layers parent (asks_by arguments declared number))
          ≡ outcome_by is_root execution answer object parent (asks_by arguments declared number)
      of_number declared None arguments = refl
      of_number declared (Some resolver) arguments = refl

  of_tests : (only is_name : Bool) (asking : Option (Asking V)) (a : Asks)
      → answered_outcome is_root execution answer asking ≡ outcome_by is_root execution answer object parent a
      → cond is_name (typename_outcome object) (answered_outcome is_root execution answer (cond (only || is_name) None asking))
      ≡ outcome_by is_root execution answer object parent (cond is_name asks.Typename (cond only asks.Nothing a))
  of_tests true true asking a is = refl
  of_tests true false asking a is = refl
  of_tests false true asking a is = refl
  of_tests false false asking a is = is

  -- a field comes to what comes of what it asks
  pub outcome_is : (field : Positioned Field)
      → field_outcome is_root execution answer object parent field ≡ outcome_by is_root execution answer object parent
      (asks_of execution object field)
  outcome_is field =
      let found = field_in execution.schema object (name_of field) in
      let arguments = constants execution.known (arguments_in found) (arguments_of field) in
      of_tests execution.only_introspection (is_typename (name_of field))
      (option_and_then (asking_at is_root execution parent arguments) found) (asks_at arguments found)
      (ap (answered_outcome is_root execution answer) (at_declared is_root execution parent found arguments) ∙ of_declared found arguments)
