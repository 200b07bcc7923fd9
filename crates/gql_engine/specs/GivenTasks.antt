-- What tasks ask of the scheduler, and what becomes of what they are given.
use Rattle.std.specs.Prelude.{List, Option, Some, None, ◌≡◌, Result, Ok, Err}
use Rattle.gql_tasks.specs.Plan.{Asking as Asks}
use Rattle.gql_complete.specs.FoundObjects.{Bare}
use Rattle.gql_base.specs.declared.error.Error.{Error}
use Rattle.gql_base.specs.declared.value.Value.{Value}
use Rattle.gql_tasks.specs.Given.{beneath_given}
use Rattle.gql_tasks.specs.declared.given.Given.{Given}
use Rattle.gql_tasks.specs.declared.given.Given.TheVariants.{Answered, Put}
use Rattle.gql_place.specs.declared.shape.Shape.TheVariants as shape
use Rattle.gql_objects.specs.Jobs.{Job, jobs_beneath}
use Rattle.gql_objects.specs.declared.assembly.kept.Filled.{Filled}
use Rattle.gql_objects.specs.KeptTasks.{IsFilled}

-- what a hook puts in the place of an answer: nothing, a leaf, or a fault
abbrev pub put_shape : Result (Option Value) Error → Bare
put_shape (Ok None) = shape.Absent
put_shape (Ok (Some value)) = shape.Leaf value
put_shape (Err error) = shape.Fault error

module _ {V : Type 0} where
  -- what a task asks
  abbrev pub asked_by_job : Job V → Asks V
  asked_by_job job = record {
    call = job.asking.call;
    segments = job.path;
    item = job.field.node;
    env = job.basis.env.now;
    parent = job.object;
    ty = job.asking.ty;
  }

  -- what came of what a task was given
  abbrev pub IsFilledWith : Given V → Job V → Filled V → Type 0
  IsFilledWith (Answered answer) job filled = IsFilled job answer filled
  IsFilledWith (Put put) job filled = filled.shape ≡ put_shape put

  -- the tasks under what a task was given
  abbrev pub made_beneath : Given V → Job V → List (Job V)
  made_beneath given job = beneath_given jobs_beneath job given
