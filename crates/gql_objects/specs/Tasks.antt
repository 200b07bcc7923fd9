-- Tasks as the machine holds them.
use Rattle.std.specs.Prelude.{◌≡◌, ℕ, ◌≤◌, List, [], ◌∷◌, ◌++◌, Some, length, map, slice_get}
use Rattle.gql_base.specs.declared.path_segment.PathSegment.{PathSegment}
use Rattle.gql_base.specs.declared.path_segment.PathSegment.TheVariants as segment
use Rattle.gql_collect.specs.KeyNames.{key_text}
use Rattle.gql_resolve.specs.Layers.{layers_of}
use Rattle.gql_collect.specs.Asks.{asking_at}
use Rattle.gql_collect.specs.Groups.{united}
use Rattle.gql_objects.specs.Jobs.{Job}
use Rattle.gql_collect.specs.Levels.{asked_by}
use Rattle.gql_objects.specs.Parents.{path_to, rooted, value_of}
use Rattle.gql_collect.specs.declared.level.Node.{Node}
use Rattle.gql_objects.specs.declared.parent.Held.{Held}
use Rattle.gql_objects.specs.declared.parent.Parent.{Parent}
use Rattle.gql_objects.specs.declared.task.Task.{Task}

module _ {V : Type 0} where
  -- a task under another one has a path of two segments at least
  abbrev pub IsDeep : Job V → Type 0
  IsDeep job = 2 ≤ length job.path

  -- the path of a field of an object
  abbrev pub path_with : Held V → Node → List PathSegment
  path_with held node = path_to held ++ segment.Field (key_text (united node.group)) ∷ []

  -- a field of an object as a task
  abbrev pub job_with : Parent V → Node → Job V
  job_with parent node = record {
    basis = node.basis;
    object = parent.level.value.object;
    field = united node.group;
    asking = asking_at (rooted parent.held (asked_by node)) (layers_of node.basis.layers)
        (value_of parent.held) node.asks;
    path = path_with parent.held node;
  }

  -- what a task is
  abbrev pub job_of_task : Task V → Job V
  job_of_task task = job_with task.parent.value task.node.value

  -- all of them
  abbrev pub jobs_in : List (Task V) → List (Job V)
  jobs_in tasks = map job_of_task tasks

  -- a path is that of the task of a number
  abbrev pub IsAimed : List (Task V) → List PathSegment → ℕ → Type 0
  IsAimed tasks path number =
      (task : Task V) → slice_get tasks number ≡ Some task → path ≡ (job_of_task task).path
