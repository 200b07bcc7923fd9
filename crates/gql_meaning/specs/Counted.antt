-- How many answers merged execution asks. It is the same recursion as that of the places, with
-- numbers in their stead.
use Rattle.std.specs.Prelude.{ℕ, ◌+◌, Bool, true, false, List, [], ◌∷◌, map, Option, Some, None}
use Rattle.std.specs.List.{flat_map}
use Rattle.gql_base.specs.Pairs.{values_of}
use Rattle.gql_doc.specs.declared.document.Field.{Field}
use Rattle.gql_doc.specs.declared.document.Positioned.{Positioned}
use Rattle.gql_doc.specs.declared.document.Selection.{Selection}
use Rattle.gql_collect.specs.Execution.{Asking, Execution, field_asking}
use Rattle.gql_meaning.specs.Outcomes.{field_outcome}
use Rattle.gql_meaning.specs.Responses.{kept_in, kept_reading, levels_beneath, world_after, Written}
use Rattle.gql_meaning.specs.Served.{Served}
use Rattle.gql_place.specs.declared.shape.Shape.{Shape}
use Rattle.gql_place.specs.declared.shape.Shape.TheOpen.{Shape-F}
use Rattle.gql_place.specs.declared.shape.Shape.TheFolds.{fold-Shape}
use Rattle.gql_resolve.specs.Call.{Call}
use Rattle.gql_resolve.specs.declared.answer.Answer.{Answer}
use Rattle.gql_resolve.specs.declared.field_value.FieldValue.{FieldValue}
use Rattle.gql_select.specs.Grouped.{Beneath, grouped, Mutating, Placing, serial_grouped}

-- the sum of numbers
abbrev pub total : List ℕ → ℕ
total [] = 0
total (n ∷ ns) = n + total ns

module _ {O P : Type 0} where
  -- one level of a shape
  abbrev pub parents_step : Shape-F O P (List (O × P)) → List (O × P)
  parents_step Shape-F.Absent = []
  parents_step (Shape-F.Leaf leaf) = []
  parents_step (Shape-F.Fault error) = []
  parents_step (Shape-F.Object object parent) = (object, parent) ∷ []
  parents_step (Shape-F.List non_null items) = flat_map (λ parents. parents) items

  -- the objects of a shape with their values, as often as they stand
  abbrev pub parents_in : Shape O P → List (O × P)
  parents_in = fold-Shape O P (List (O × P)) parents_step

-- one, where a field asks an answer
abbrev pub one_if : {V : Type 0} → Option (Asking V) → ℕ
one_if None = 0
one_if (Some asking) = 1

-- what is asked for a field, as a root of a mutation or as another, and for all under it
abbrev pub count_as : {V : Type 0} → Execution → (Call V → Answer V) → Bool → List ℕ → FieldValue V
    → Positioned Field → Beneath (List ℕ) (FieldValue V) ℕ → ℕ
count_as execution answer is_root object parent field below =
    one_if (field_asking is_root execution object parent field)
    + total (map (λ inner. total (values_of (below inner.0 inner.1)))
    (parents_in (field_outcome is_root execution answer object parent field).shape))

module _ {V W : Type 0} (served : Served V W) (written : Written V) where
  -- the fields of a query become numbers as they become places
  abbrev pub counting : Placing (List ℕ) (FieldValue V) (Positioned Field) (Positioned Selection) ℕ
  counting = record {
    reading = kept_reading written.execution;
    place = count_as written.execution (λ call. served.answer call served.world) false;
  }

  -- the root keys of a mutation too, each in the world so far, and what is under them in the world
  -- that they leave
  abbrev pub counting_in_turn : Mutating (List ℕ) (FieldValue V) (Positioned Field)
      (Positioned Selection) ℕ W
  counting_in_turn = record {
    reading = kept_reading written.execution;
    effect = world_after written.execution served.effect written.asked;
    root = λ world. count_as written.execution (λ call. served.answer call world) true;
    place = λ world. count_as written.execution (λ call. served.answer call world) false;
  }

  -- the numbers of the root keys
  abbrev pub counts_by : (mutates : Bool) → List (List ℕ × ℕ)
  counts_by false = grouped counting written.execution.levels written.asked.object
      written.asked.parent (kept_in written.execution written.asked)
  counts_by true = serial_grouped counting_in_turn (levels_beneath written.execution.levels)
      written.asked.object written.asked.parent (kept_in written.execution written.asked)
      served.world

  -- the number of answers that an operation asks by merged execution
  abbrev pub answers_asked : ℕ
  answers_asked = total (values_of (counts_by written.mutates))
