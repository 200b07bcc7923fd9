-- What a field asks by its name and arguments is the call that the meaning of execution says.
use Rattle.std.proofs.Common.{◌≡◌, ℕ, ◌||◌, Bool, true, false, cond, List, Option, Some, None, refl, ap, sym, ◌∙◌}
use Rattle.std.specs.Prelude.{Err, IfOk, Ok, option_and_then, Result}
use Rattle.gql_base.specs.declared.value.Value.{Value}
use Rattle.gql_doc.specs.declared.document.Field.{Field}
use Rattle.gql_doc.specs.declared.document.Positioned.{Positioned}
use Rattle.gql_collect.specs.Execution.{Asking, asking_at, Execution, field_asking, is_typename}
use Rattle.gql_collect.specs.TableSetting.{arguments_in, field_in}
use Rattle.gql_resolve.specs.declared.field_value.FieldValue.{FieldValue}
use Rattle.gql_schema.specs.TableReading.{Declared}
use Rattle.gql_select.specs.Alike.{arguments_of, name_of}
use Rattle.gql_select.specs.Constants.{constants}
use Rattle.gql_collect.specs.Asks.{asking_by, asks_allowed, asks_at, asks_by, asks_of, asks_of_declared}
use Rattle.gql_collect.specs.declared.asks.Asks.{Asks}
use Rattle.gql_collect.specs.declared.asks.Asks.TheVariants as asks

module _ {V : Type 0} (is_root : Bool) (execution : Execution) (parent : FieldValue V) where
  at_number : (declared : Declared) (number : Option ℕ) (arguments : List (List ℕ × Value))
      → asking_at is_root execution parent arguments (record declared { number = number })
      ≡ asking_by is_root execution.layers parent (asks_by arguments declared number)
  at_number declared None arguments = refl
  at_number declared (Some resolver) arguments = refl

  pub at_declared : (found : Option Declared) (arguments : List (List ℕ × Value))
      → option_and_then (asking_at is_root execution parent arguments) found
      ≡ asking_by is_root execution.layers parent (asks_at arguments found)
  at_declared None arguments = refl
  at_declared (Some declared) arguments = at_number declared declared.number arguments

  at_tests : (only is_name : Bool) (asking : Option (Asking V)) (a : Asks) → asking ≡ asking_by is_root execution.layers parent a
      → cond (only || is_name) None asking ≡ asking_by is_root execution.layers parent (cond is_name asks.Typename (cond only asks.Nothing a))
  at_tests true true asking a is = refl
  at_tests true false asking a is = refl
  at_tests false true asking a is = refl
  at_tests false false asking a is = is

  -- a field asks the call that is made of what it asks on any value of its object
  pub asking_is : (object : List ℕ) (field : Positioned Field)
      → field_asking is_root execution object parent field ≡ asking_by is_root execution.layers parent (asks_of execution object field)
  asking_is object field =
      let found = field_in execution.schema object (name_of field) in
      let arguments = constants execution.known (arguments_in found) (arguments_of field) in
      at_tests execution.only_introspection (is_typename (name_of field))
      (option_and_then (asking_at is_root execution parent arguments) found) (asks_at arguments found) (at_declared found arguments)

-- a field that isn't that of the object's own name
pub other_asks : {E : Type 0} (r : Result Asks E) (execution : Execution) (object : List ℕ) (field : Positioned Field) → is_typename (name_of field) ≡ false
    → IfOk r (λ a. a ≡ asks_allowed execution object (name_of field) (arguments_of field)) → IfOk r (λ a. a ≡ asks_of execution object field)
other_asks (Ok a) execution object field other is =
    is ∙ sym (ap (λ b. cond b asks.Typename (asks_allowed execution object (name_of field) (arguments_of field))) other)
other_asks (Err e) execution object field other is = tt

-- a field outside introspection-only mode
pub allowed_asks : {E : Type 0} (r : Result Asks E) (execution : Execution) (object : List ℕ) (field : Positioned Field) → execution.only_introspection ≡ false
    → IfOk r (λ a. a ≡ asks_of_declared execution.known (field_in execution.schema object (name_of field)) (arguments_of field))
    → IfOk r (λ a. a ≡ asks_allowed execution object (name_of field) (arguments_of field))
allowed_asks (Ok a) execution object field outside is =
    is ∙ sym (ap (λ b. cond b asks.Nothing (asks_of_declared execution.known (field_in execution.schema object (name_of field)) (arguments_of field))) outside)
allowed_asks (Err e) execution object field outside is = tt
