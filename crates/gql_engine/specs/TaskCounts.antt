-- How many tasks an execution has: as many as it asks answers. It is the recursion of the places
-- with numbers in their stead, those under one key added up.
use Rattle.std.specs.Prelude.{ℕ, ◌+◌, true, false, List, map}
use Rattle.gql_base.specs.Pairs.{values_of}
use Rattle.gql_doc.specs.declared.document.Field.{Field}
use Rattle.gql_doc.specs.declared.document.Positioned.{Positioned}
use Rattle.gql_doc.specs.declared.document.Selection.{Selection}
use Rattle.gql_engine.specs.declared.scene.Scene.{Scene}
use Rattle.gql_meaning.specs.Counted.{count_as, total}
use Rattle.gql_meaning.specs.Responses.{levels_beneath, world_after}
use Rattle.gql_resolve.specs.Call.{Call}
use Rattle.gql_resolve.specs.declared.answer.Answer.{Answer}
use Rattle.gql_resolve.specs.declared.field_value.FieldValue.{FieldValue}
use Rattle.gql_select.specs.Collected.{own_selections}
use Rattle.gql_select.specs.Grouped.{grouped, in_turn, Mutating, Placing, respond_by, serial_grouped}
use Rattle.gql_collect.specs.Basis.{execution_of, setting_by}
use Rattle.gql_collect.specs.DeclaredFields.{declared_reading}
use Rattle.gql_collect.specs.GroupFields.{groups_by, reading_by}
use Rattle.gql_objects.specs.Jobs.{completed_by, Job}
use Rattle.gql_engine.specs.ExecuteQuery.{basis_by, basis_of, reading_in, root_selections}
use Rattle.gql_engine.specs.ExecuteQuery.{root_spot}
use Rattle.gql_engine.specs.ExecuteMutation.{keys_by, root_asked}
use Rattle.gql_complete.specs.FoundObjects.{spots}
use Rattle.gql_collect.specs.declared.basis.Basis.{Basis}
use Rattle.gql_collect.specs.declared.basis.Grouping.{Grouping}

module _ {V : Type 0} (basis : Basis) (answer : Call V → Answer V) where
  -- how fields become numbers, all occurrences of those that an object declares
  abbrev pub counting_by : Placing (List ℕ) (FieldValue V) (Positioned Field) (Positioned Selection)
      ℕ
  counting_by = record {
    reading = declared_reading (execution_of basis) (setting_by basis);
    place = count_as (execution_of basis) answer false;
  }

  -- the same of those that are collected
  abbrev pub counting_among : Placing (List ℕ) (FieldValue V) (Positioned Field)
      (Positioned Selection) ℕ
  counting_among = record {
    reading = reading_by basis.grouping basis;
    place = count_as (execution_of basis) answer false;
  }

  -- the numbers of the fields of an object with all under them, so many levels of sets deep
  abbrev pub counts_by : ℕ → List ℕ → FieldValue V → List (Positioned Selection)
      → List (List ℕ × ℕ)
  counts_by n object parent selections =
      respond_by counting_among (λ one other. one + other)
      (groups_by basis.grouping (setting_by basis)) n object parent selections

  -- their sum: the tasks of an object, and all under them
  abbrev pub tasks_in : ℕ → List ℕ → FieldValue V → List (Positioned Selection) → ℕ
  tasks_in n object parent selections = total (values_of (counts_by n object parent selections))

-- a task and all under it
abbrev pub tasks_of : {V : Type 0} → (Call V → Answer V) → ℕ → Job V → ℕ
tasks_of answer n job =
    1 + total (map (λ spot. tasks_in job.basis answer n spot.object spot.parent
    (own_selections job.field)) (spots (completed_by job (answer job.asking.call)) job.path))

module _ {V : Type 0} (scene : Scene V) (answer : Call V → Answer V) (n : ℕ) where
  -- the tasks of an execution of no mutation
  abbrev pub count_by : Grouping → ℕ
  count_by by =
      tasks_in (basis_by by scene) answer n (root_spot scene).object (root_spot scene).parent
      (root_selections scene)

  -- the answers that merged execution asks, each key once
  abbrev pub merged_count : ℕ
  merged_count =
      total
      (values_of
      (grouped (counting_by (basis_of scene) answer) n (root_spot scene).object
      (root_spot scene).parent (root_selections scene)))

module _ {V W : Type 0} (scene : Scene V) (answer : Call V → W → Answer V)
    (effect : Call V → W → W) where
  -- how the root keys of a mutation become numbers, each in the world so far, and what is under
  -- them in the world that they leave
  abbrev pub counting_keys : Mutating (List ℕ) (FieldValue V) (Positioned Field)
      (Positioned Selection) ℕ W
  counting_keys = record {
    reading = reading_in scene;
    effect = world_after (execution_of (basis_of scene)) effect (root_asked scene);
    root = λ world. count_as (execution_of (basis_of scene)) (λ call. answer call world) true;
    place = λ world. count_as (execution_of (basis_of scene)) (λ call. answer call world) false;
  }

  module _ (world : W) (n : ℕ) where
    -- the answers that a mutation asks by merged execution
    abbrev pub serial_count : ℕ
    serial_count =
        total
        (values_of
        (serial_grouped counting_keys (levels_beneath n) (root_spot scene).object
        (root_spot scene).parent (root_selections scene) world))

    -- the tasks of a mutation
    abbrev pub serial_count_by : Grouping → ℕ
    serial_count_by by =
        total
        (values_of
        (in_turn counting_keys.effect
        (λ before behind field. counting_keys.root before (root_spot scene).object
        (root_spot scene).parent field (λ object parent. counts_by (basis_by by scene)
        (λ call. answer call behind) (levels_beneath n) object parent (own_selections field)))
        world (keys_by by scene)))
