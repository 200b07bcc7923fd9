-- A plan that keeps what its second task was given still holds what it held of the first.
use Rattle.std.proofs.Common.{ℕ}
use Rattle.gql_tasks.specs.declared.given.Given.{Given}
use Rattle.gql_engine.specs.TreePlan.{HasKept, HoldsIn}
use Rattle.gql_engine.specs.declared.execute_field.tree_plan.TreePlan.{TreePlan}

module _ {V : Type 0} (old new : TreePlan V) (given first : Given V) (count : ℕ) where
  first_still_held : HasKept old new 1 given count → HoldsIn old 0 first → HoldsIn new 0 first
  first_still_held kept held = kept.keeps 0 first (λ is. cc) held

  second_is_held : HasKept old new 1 given count → HoldsIn new 1 given
  second_is_held kept = kept.holds
