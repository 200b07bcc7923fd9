-- The execution of a scene's operation (GraphQL, October 2021, sections 6.2 and 6.3): merged
-- execution, and apart execution.
use Rattle.std.specs.Prelude.{◌≡◌, ℕ, false, List, [], None}
use Rattle.gql_doc.specs.Depth.{deep_from, operation_set, selections_of}
use Rattle.gql_doc.specs.declared.document.Field.{Field}
use Rattle.gql_doc.specs.declared.document.Positioned.{Positioned}
use Rattle.gql_doc.specs.declared.document.Selection.{Selection}
use Rattle.gql_tasks.specs.Arena.{Subject, subject_of, Work}
use Rattle.gql_engine.specs.declared.scene.Scene.{Scene}
use Rattle.gql_meaning.specs.Responses.{Members, placed, root_place}
use Rattle.gql_place.specs.Join.{join}
use Rattle.gql_place.specs.declared.place.Place.{Place}
use Rattle.gql_resolve.specs.Call.{Call, is_mutation}
use Rattle.gql_resolve.specs.declared.answer.Answer.{Answer}
use Rattle.gql_resolve.specs.declared.field_value.FieldValue.{FieldValue}
use Rattle.gql_schema.specs.Object.{object_name}
use Rattle.gql_select.specs.Conflicts.{Agree}
use Rattle.gql_select.specs.Grouped.{grouped, Placing, respond}
use Rattle.gql_select.specs.Reading.{Reading}
use Rattle.gql_collect.specs.Basis.{execution_of, setting_by}
use Rattle.gql_collect.specs.DeclaredFields.{declared_reading}
use Rattle.gql_engine.specs.GivenTasks.{asked_by_job}
use Rattle.gql_objects.specs.Jobs.{Job, jobs_at, jobs_at_as, jobs_beneath}
use Rattle.gql_objects.specs.ExecuteSelectionSet.{members_by}
use Rattle.gql_complete.specs.FoundObjects.{Spot}
use Rattle.gql_collect.specs.declared.basis.Basis.{Basis}
use Rattle.gql_collect.specs.declared.basis.Grouping.{Grouping}
use Rattle.gql_collect.specs.declared.basis.Grouping.TheVariants as grouping

-- what is fixed of tasks
abbrev pub job_subject : {V : Type 0} → Subject V (Job V)
job_subject = subject_of asked_by_job jobs_beneath

module _ {V : Type 0} (scene : Scene V) where
  -- the object at the root
  abbrev pub root_spot : Spot V
  root_spot = record { object = object_name scene.object.now; parent = scene.root.now; path = [] }

  -- what the operation asks for
  abbrev pub root_selections : List (Positioned Selection)
  root_selections = selections_of (operation_set scene.env.now.operation)

  -- so many levels suffice for the operation
  abbrev pub Nests : ℕ → Type 0
  Nests n = deep_from scene.env.now.fragments n (operation_set scene.env.now.operation) ≡ None

  -- the place at the root, of its members
  abbrev pub place_at_root : Members → Place
  place_at_root members = root_place scene.env.now.operation.pos members

module _ {V : Type 0} (by : Grouping) (scene : Scene V) where
  -- what the execution stands on, where occurrences are grouped so
  abbrev pub basis_by : Basis
  basis_by = record {
    env = scene.env;
    types = scene.types;
    query = scene.query;
    entities = scene.entities;
    layers = scene.layers;
    grouping = by;
  }

  -- the tasks of the root, which are roots of a mutation where the operation is one
  abbrev pub own_jobs_by : List (Job V)
  own_jobs_by = jobs_at_as (is_mutation scene.env.now.operation.node.ty) basis_by
      (root_selections scene) (root_spot scene)

  -- the tasks of the root of an operation that is no mutation
  abbrev pub root_jobs_by : List (Job V)
  root_jobs_by = jobs_at basis_by (root_selections scene) (root_spot scene)

  -- what the execution has to do
  abbrev pub work_by : Work V (Job V)
  work_by = record { subject = job_subject; first = root_jobs_by }

  -- the place of the whole response, so many levels of sets deep
  abbrev pub response_by : (Call V → Answer V) → ℕ → Place
  response_by answer n =
      place_at_root scene
      (members_by basis_by answer n (root_spot scene).object (root_spot scene).parent
      (root_selections scene))

module _ {V : Type 0} (scene : Scene V) where
  -- what merged execution stands on
  abbrev pub basis_of : Basis
  basis_of = basis_by grouping.ByKey scene

  -- the tasks of its root
  abbrev pub root_jobs : List (Job V)
  root_jobs = root_jobs_by grouping.ByKey scene

  -- what merged execution has to do
  abbrev pub merged_work : Work V (Job V)
  merged_work = work_by grouping.ByKey scene

  -- the same where places are kept whole
  abbrev pub merged_work_whole : Work V (Job V)
  merged_work_whole = work_by grouping.ByKeyWhole scene

  -- what apart execution has to do: each occurrence is a task of its own
  abbrev pub apart_work : Work V (Job V)
  apart_work = work_by grouping.Each scene

  -- how its sets are read: all occurrences of the fields that an object declares
  abbrev pub reading_in : Reading (List ℕ) (Positioned Field) (Positioned Selection)
  reading_in = declared_reading (execution_of basis_of) (setting_by basis_of)

  -- how fields become places, by these answers
  abbrev pub placing_in : (Call V → Answer V)
      → Placing (List ℕ) (FieldValue V) (Positioned Field) (Positioned Selection) Place
  placing_in answer =
      record { reading = reading_in; place = placed (execution_of basis_of) false answer }

  -- the operation agrees with itself, so many levels of sets deep: of one key there is one field
  abbrev pub AgreesInside : ℕ → Type 0
  AgreesInside n = Agree reading_in n (root_spot scene).object (root_selections scene)
      (root_selections scene)

  -- the place of the whole response by merged execution, so many levels of sets deep
  abbrev pub merged_response : (Call V → Answer V) → ℕ → Place
  merged_response answer n =
      place_at_root scene
      (grouped (placing_in answer) n (root_spot scene).object (root_spot scene).parent
      (root_selections scene))

  -- the same by apart execution
  abbrev pub apart_response : (Call V → Answer V) → ℕ → Place
  apart_response answer n =
      place_at_root scene
      (respond (placing_in answer) join n (root_spot scene).object (root_spot scene).parent
      (root_selections scene))
