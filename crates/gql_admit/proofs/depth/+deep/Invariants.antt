use Rattle.std.proofs.Common.{◌≡◌, ◌≤◌, ◌*◌, ◌+◌, None, drop, suc, take}
use Rattle.std.specs.Prelude.{option_and_then}
use Rattle.gql_base.specs.Pairs.{values_of}
use Rattle.gql_doc.specs.Depth.{deep_from, set_beneath}
use Rattle.gql_doc.specs.First.{first_in}
use Rattle.gql_admit.specs.Counted.{StaysKnown, budget}
use Rattle.gql_select.specs.Standing.{standing_among}
use Rattle.gql_admit.specs.WalkedFragments.{IsFine}
use Rattle.gql_admit.proofs.depth.+deep.Given as goal

abbrev pub invariant-deep_selections-loop-selection : goal.invariant-deep_selections-loop-selection
invariant-deep_selections-loop-selection g l = record {
  before : first_in (λ selection. option_and_then (deep_from l.fragments l.left) (set_beneath l.fragments selection)) (take l.selection-index l.selections) ≡ None;
  fine : IsFine l.fragments l.fine;
  known : StaysKnown l.initial.fine l.fine;
  bound :
      l.steps + (standing_among (drop l.selection-index l.selections) + budget (suc l.left) (values_of l.fragments) l.fine)
      ≤ l.initial.steps + (standing_among l.selections + budget (suc l.left) (values_of l.fragments) l.initial.fine);
}

abbrev pub decreases-deep_set : goal.decreases-deep_set
decreases-deep_set g l = 5 * l.left

abbrev pub decreases-deep_fragment : goal.decreases-deep_fragment
decreases-deep_fragment g l = 5 * l.left + 1

abbrev pub decreases-deep_spread : goal.decreases-deep_spread
decreases-deep_spread g l = 5 * l.left + 2

abbrev pub decreases-deep_selection : goal.decreases-deep_selection
decreases-deep_selection g l = 5 * l.left + 3

abbrev pub decreases-deep_selections : goal.decreases-deep_selections
decreases-deep_selections g l = 5 * l.left + 4
