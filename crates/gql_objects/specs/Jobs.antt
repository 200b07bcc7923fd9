-- The tasks of an execution: one for each group of an object's occurrences that asks an answer,
-- over the merged sets of all in it (GraphQL, October 2021, sections 6.3 and 6.4).
use Rattle.std.specs.Prelude.{ℕ, Bool, false, List, [], ◌∷◌, ◌++◌, Option, Some, None}
use Rattle.std.specs.List.{flat_map}
use Rattle.gql_base.specs.declared.path_segment.PathSegment.{PathSegment}
use Rattle.gql_base.specs.declared.path_segment.PathSegment.TheVariants as segment
use Rattle.gql_doc.specs.declared.document.Field.{Field}
use Rattle.gql_doc.specs.declared.document.Positioned.{Positioned}
use Rattle.gql_doc.specs.declared.document.Selection.{Selection}
use Rattle.gql_meaning.specs.Completion.{Completed, shape_of}
use Rattle.gql_collect.specs.Execution.{Asking, field_asking}
use Rattle.gql_resolve.specs.Layers.{layers_of}
use Rattle.gql_resolve.specs.declared.answer.Answer.{Answer}
use Rattle.gql_schema.specs.Table.{types_of}
use Rattle.gql_select.specs.Collected.{own_selections}
use Rattle.gql_collect.specs.Asks.{asking_by}
use Rattle.gql_collect.specs.Basis.{execution_of}
use Rattle.gql_collect.specs.GroupFields.{groups_in}
use Rattle.gql_collect.specs.Levels.{Asked}
use Rattle.gql_collect.specs.declared.basis.Basis.{Basis}
use Rattle.gql_collect.specs.KeyNames.{key_text}
use Rattle.gql_complete.specs.FoundObjects.{Spot, spots}

-- a task: what the execution stands on, the name of an object, a field of it, merged over its
-- occurrences, with the call that it asks, the type of its answer, and its path
pub record Job (V : Type 0) : Type 0 where
  pub basis : Basis
  pub object : List ℕ
  pub field : Positioned Field
  pub asking : Asking V
  pub path : List PathSegment

module _ {V : Type 0} where
  -- the task of a field of an object of this name at a path, where it asks an answer
  abbrev pub job_at : Basis → List ℕ → List PathSegment → Positioned Field → Option (Asking V)
      → List (Job V)
  job_at basis object path field None = []
  job_at basis object path field (Some asking) =
      record { basis = basis; object = object; field = field; asking = asking; path = path } ∷ []

  -- the task of a field of an object
  abbrev pub job_of : Basis → Spot V → Positioned Field → Option (Asking V) → List (Job V)
  job_of basis spot field asking =
      job_at basis spot.object (spot.path ++ segment.Field (key_text field) ∷ []) field asking

  -- the tasks of these fields of an object, in their order, as roots of a mutation or as others
  abbrev pub jobs_of_as : Bool → Basis → Spot V → List (List ℕ × Positioned Field) → List (Job V)
  jobs_of_as root basis spot members =
      flat_map (λ member. job_of basis spot member.1
      (field_asking root (execution_of basis) spot.object spot.parent member.1)) members

  -- as others
  abbrev pub jobs_of : Basis → Spot V → List (List ℕ × Positioned Field) → List (Job V)
  jobs_of basis spot members = jobs_of_as false basis spot members

  -- the tasks of an object in selections, as roots of a mutation or as others
  abbrev pub jobs_at_as : Bool → Basis → List (Positioned Selection) → Spot V → List (Job V)
  jobs_at_as root basis selections spot =
      jobs_of_as root basis spot (groups_in root basis spot.object selections)

  -- as others
  abbrev pub jobs_at : Basis → List (Positioned Selection) → Spot V → List (Job V)
  jobs_at basis selections spot = jobs_at_as false basis selections spot

  -- what an answer to a task comes to
  abbrev pub completed_by : Job V → Answer V → Completed V
  completed_by job answer = shape_of (types_of job.basis.types.now) job.asking.ty answer.result

  -- the tasks under an answer: those of the objects in it, in their order
  abbrev pub jobs_beneath : Job V → Answer V → List (Job V)
  jobs_beneath job answer =
      flat_map (jobs_at job.basis (own_selections job.field))
      (spots (completed_by job answer) job.path)

  -- the task of a field of an object by what it asks, as a root of a mutation or as another
  abbrev pub job_by : (Asked → Bool) → Spot V → Asked → List (Job V)
  job_by root spot asked =
      job_of asked.basis spot asked.field
      (asking_by (root asked) (layers_of asked.basis.layers) spot.parent asked.asks)

  -- the tasks of fields by what each asks
  abbrev pub jobs_by_as : (Asked → Bool) → Spot V → List Asked → List (Job V)
  jobs_by_as root spot fields = flat_map (job_by root spot) fields

  -- none of them as a root of a mutation
  abbrev pub jobs_by : Spot V → List Asked → List (Job V)
  jobs_by spot fields = jobs_by_as (λ asked. false) spot fields
