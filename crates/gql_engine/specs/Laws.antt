-- The laws on how the places of tasks are put together, and on what merged and apart execution have
-- in common.
use Rattle.std.specs.Prelude.{◌≡◌, ℕ, suc, true, Bool, List, [], map, None}
use Rattle.gql_base.specs.Pairs.{values_of}
use Rattle.gql_base.specs.declared.path_segment.PathSegment.{PathSegment}
use Rattle.gql_base.specs.declared.pos.Pos.{Pos}
use Rattle.gql_doc.specs.declared.document.Field.{Field}
use Rattle.gql_doc.specs.declared.document.Positioned.{Positioned}
use Rattle.gql_doc.specs.declared.document.Selection.{Selection}
use Rattle.gql_engine.specs.declared.scene.Scene.{Scene}
use Rattle.gql_meaning.specs.Completion.{Completed}
use Rattle.gql_collect.specs.Basis.{is_introspection_only}
use Rattle.gql_collect.specs.Execution.{Execution, field_asking}
use Rattle.gql_place.specs.Filled.{fill}
use Rattle.gql_resolve.specs.Call.{Call}
use Rattle.gql_resolve.specs.declared.answer.Answer.{Answer}
use Rattle.gql_resolve.specs.declared.field_value.FieldValue.{FieldValue}
use Rattle.std.specs.List.{AllByRecursion}
use Rattle.gql_doc.specs.Depth.{deep_from, field_set, selections_of}
use Rattle.gql_doc.specs.declared.document.SelectionSet.{SelectionSet}
use Rattle.gql_select.specs.Collected.{collect_within, own_selections, Setting}
use Rattle.gql_collect.specs.Asks.{asking_by, asks_of}
use Rattle.gql_engine.specs.TaskCounts.{count_by, merged_count, serial_count, serial_count_by}
use Rattle.gql_complete.specs.FillShape.{tree_with}
use Rattle.gql_objects.specs.Jobs.{jobs_at, jobs_by}
use Rattle.gql_collect.specs.Levels.{asked_in}
use Rattle.gql_objects.specs.ExecuteSelectionSet.{beneath_by, members_by, members_of_tasks}
use Rattle.gql_engine.specs.ExecuteQuery.{AgreesInside, apart_response, merged_response, response_by}
use Rattle.gql_engine.specs.ExecuteQuery.{work_by}
use Rattle.gql_engine.specs.ExecuteMutation.{key_work_by}
use Rattle.gql_engine.specs.ExecuteMutation.{serial_apart_response, serial_response, serial_response_by}
use Rattle.gql_complete.specs.FoundObjects.{bare, Spot, spots}
use Rattle.gql_collect.specs.declared.basis.Basis.{Basis}
use Rattle.gql_collect.specs.declared.basis.Grouping.{Grouping}
use Rattle.gql_collect.specs.declared.basis.Grouping.TheVariants as grouping

-- a field asks the call that is made of what it asks on any value of its object
abbrev pub FieldsAskTheirCalls : (V : Type 0) → Type 0
FieldsAskTheirCalls V =
    (is_root : Bool) (execution : Execution) (parent : FieldValue V) (object : List ℕ)
    (field : Positioned Field)
    → field_asking is_root execution object parent field
    ≡ asking_by is_root execution.layers parent (asks_of execution object field)

-- the places of the tasks of an object, with one level of sets less, make its members
abbrev pub MembersAreMerged : (V : Type 0) → Type 0
MembersAreMerged V =
    (basis : Basis) (answer : Call V → Answer V) (n : ℕ) (spot : Spot V)
    (selections : List (Positioned Selection))
    → members_of_tasks basis answer n selections spot
    ≡ members_by basis answer (suc n) spot.object spot.parent selections

-- a completed answer, taken apart and put together of the places of the tasks under it
abbrev pub TreesAreMerged : (V : Type 0) → Type 0
TreesAreMerged V =
    (basis : Basis) (answer : Call V → Answer V) (n : ℕ) (pos : Pos) (field : Positioned Field)
    (comes : Completed V)
    (path : List PathSegment)
    → tree_with pos (bare comes)
    (map (members_of_tasks basis answer n (own_selections field)) (spots comes path))
    ≡ fill pos (beneath_by basis answer (suc n) field) comes

-- the tasks that a level makes for a value of its object are those of the definition
abbrev pub TasksAreJobs : (V : Type 0) → Type 0
TasksAreJobs V =
    (basis : Basis) (spot : Spot V) (selections : List (Positioned Selection))
    → jobs_by spot (values_of (asked_in basis spot.object selections))
    ≡ jobs_at basis selections spot

-- grouped by key, an operation that is no mutation comes to the place of merged execution, and asks
-- as many answers; each occurrence apart, it comes to the place of apart execution
pub record QueriesAreGrouped {V : Type 0} (scene : Scene V) (answer : Call V → Answer V) (n : ℕ)
    : Type 0 where
  pub by_key : response_by grouping.ByKey scene answer n ≡ merged_response scene answer n
  pub by_key_whole : response_by grouping.ByKeyWhole scene answer n
      ≡ merged_response scene answer n
  pub each : response_by grouping.Each scene answer n ≡ apart_response scene answer n
  pub asked : count_by scene answer n grouping.ByKey ≡ merged_count scene answer n

-- the same of a mutation, grouped so under its root keys
pub record MutationsAreGrouped {V W : Type 0} (scene : Scene V) (answer : Call V → W → Answer V)
    (effect : Call V → W → W) (world : W) (n : ℕ) : Type 0 where
  pub by_key : serial_response_by scene answer effect grouping.ByKey world n
      ≡ serial_response scene answer effect world n
  pub by_key_whole : serial_response_by scene answer effect grouping.ByKeyWhole world n
      ≡ serial_response scene answer effect world n
  pub each : serial_response_by scene answer effect grouping.Each world n
      ≡ serial_apart_response scene answer effect world n
  pub asked : serial_count_by scene answer effect world n grouping.ByKey
      ≡ serial_count scene answer effect world n

-- there is no task to begin with: of a query, or of the root keys of a mutation
pub record HasNoTask {V : Type 0} (by : Grouping) (scene : Scene V) : Type 0 where
  pub query : (work_by by scene).first ≡ []
  pub mutation : (key_work_by by scene).first ≡ []

-- where the schema alone is asked for, there is none, however occurrences are grouped
abbrev pub SchemaAloneHasNoTask : (V : Type 0) → Type 0
SchemaAloneHasNoTask V =
    (by : Grouping) (scene : Scene V)
    → is_introspection_only scene.env.now.introspection_mode ≡ true → HasNoTask by scene

-- where the operation agrees with itself, apart execution comes to the place of merged execution
abbrev pub AgreeingApartIsMerged : (V : Type 0) → Type 0
AgreeingApartIsMerged V =
    (scene : Scene V) (answer : Call V → Answer V) (n : ℕ) → AgreesInside scene n
    → apart_response scene answer n ≡ merged_response scene answer n

-- the same of a mutation, whose root keys are merged in both
abbrev pub AgreeingMutationApartIsMerged : (V W : Type 0) → Type 0
AgreeingMutationApartIsMerged V W =
    (scene : Scene V) (answer : Call V → W → Answer V) (effect : Call V → W → W) (world : W) (n : ℕ)
    → AgreesInside scene n
    → serial_apart_response scene answer effect world n
    ≡ serial_response scene answer effect world n

-- the set of each field that is collected in a set nests within the levels of that set
abbrev pub CollectedNest : Type 0
CollectedNest =
    (setting : Setting) (object : List ℕ) (levels left : ℕ) (set : Positioned SelectionSet)
    → deep_from setting.fragments levels set ≡ None
    → AllByRecursion (λ field. deep_from setting.fragments levels (field_set field) ≡ None)
    (collect_within setting left object (selections_of set))
