use Rattle.std.proofs.Common.{◌≡◌, ◌+◌, ◌≤◌, None, drop, map, take}
use Rattle.gql_base.specs.Pairs.{values_of}
use Rattle.gql_doc.specs.Depth.{deep_from, operation_set}
use Rattle.gql_doc.specs.First.{first_in}
use Rattle.gql_admit.specs.Counted.{budget}
use Rattle.gql_select.specs.Standing.{standing_of, total}
use Rattle.gql_admit.specs.WalkedFragments.{IsFine}
use Rattle.gql_admit.proofs.depth.deep_operations.Given as goal

abbrev pub invariant-loop-place : goal.invariant-loop-place
invariant-loop-place g l = record {
  before : first_in (λ operation. deep_from l.fragments l.levels (operation_set operation)) (take l.place (values_of l.operations)) ≡ None;
  fine : IsFine l.fragments l.fine;
  bound :
      l.steps + (total (map standing_of (drop l.place (values_of l.operations))) + budget l.levels (values_of l.fragments) l.fine)
      ≤ l.initial.steps + (total (map standing_of (values_of l.operations)) + budget l.levels (values_of l.fragments) l.initial.fine);
}
