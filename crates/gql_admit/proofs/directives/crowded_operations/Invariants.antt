use Rattle.std.proofs.Common.{◌≡◌, ◌≤◌, ◌+◌, None, drop, length, map, take}
use Rattle.gql_base.specs.Pairs.{values_of}
use Rattle.gql_doc.specs.Depth.{operation_set}
use Rattle.gql_doc.specs.First.{first_in}
use Rattle.gql_select.specs.Crowded.{crowded_from}
use Rattle.gql_select.specs.Standing.{standing_of, total, unentered}
use Rattle.gql_admit.specs.WalkedFragments.{Finds}
use Rattle.gql_admit.proofs.directives.crowded_operations.Given as goal

abbrev pub invariant-loop-place : goal.invariant-loop-place
invariant-loop-place g l = record {
  finds :
      Finds l.fragments l.limit l.levels l.initial.entered l.entered None
      (first_in (λ operation. crowded_from l.fragments l.limit l.levels (operation_set operation)) (take l.place (values_of l.operations)));
  long : length l.entered ≡ length l.fragments;
  bound :
      l.steps + (total (map standing_of (drop l.place (values_of l.operations))) + unentered (values_of l.fragments) l.entered)
      ≤ l.initial.steps + (total (map standing_of (values_of l.operations)) + unentered (values_of l.fragments) l.initial.entered);
}
