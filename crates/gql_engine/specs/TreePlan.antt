-- What a plan does with what its tasks are given.
use Rattle.std.specs.Prelude.{◌≡◌, ℕ, Some, slice_get}
use Rattle.gql_tasks.specs.Plan.{HasMade}
use Rattle.gql_tasks.specs.declared.given.Given.{Given}
use Rattle.gql_engine.specs.GivenTasks.{made_beneath}
use Rattle.gql_engine.specs.PlanHolds.{HoldsSince}
use Rattle.gql_objects.specs.KeptTasks.{store_in}
use Rattle.gql_objects.specs.Jobs.{Job}
use Rattle.gql_objects.specs.Tasks.{jobs_in}
use Rattle.gql_engine.specs.declared.execute_field.tree_plan.TreePlan.{TreePlan}

module _ {V : Type 0} where
  -- a plan holds that a task was given this
  abbrev pub HoldsIn : TreePlan V → ℕ → Given V → Type 0
  HoldsIn plan number given =
      HoldsSince plan.base (jobs_in plan.tasks.items) (store_in plan.kept.items plan.places.items)
      number given

  -- a plan keeps what a task was given, with so many tasks under it, and what it held of others
  pub record HasKept (old new : TreePlan V) (number : ℕ) (given : Given V) (count : ℕ) : Type 0 where
    pub made : (task : Job V) → slice_get (jobs_in old.tasks.items) number ≡ Some task
        → HasMade (jobs_in old.tasks.items) (jobs_in new.tasks.items) (made_beneath given task) count
    pub holds : HoldsIn new number given
    pub keeps : (other : ℕ) (g : Given V) → (other ≡ number → ⊥) → HoldsIn old other g
        → HoldsIn new other g
