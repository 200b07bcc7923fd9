use Rattle.std.proofs.Common.{◌≡◌, ◌≤◌, ◌*◌, ◌+◌, ℕ, None, drop, length, suc, take}
use Rattle.std.specs.Prelude.{option_and_then}
use Rattle.std.specs.Option.{option_or}
use Rattle.gql_base.specs.Pairs.{values_of}
use Rattle.gql_doc.specs.declared.document.Selection.{out-Selection}
use Rattle.gql_doc.specs.Depth.{deep_from, set_beneath}
use Rattle.gql_doc.specs.First.{first_in}
use Rattle.gql_select.specs.Crowded.{crowded_from, crowded_here}
use Rattle.gql_select.specs.Standing.{standing_among, unentered}
use Rattle.gql_admit.specs.WalkedFragments.{Finds, IsClean}
use Rattle.gql_admit.proofs.directives.+crowded.Given as goal

abbrev pub invariant-crowded_selections-loop-selection : goal.invariant-crowded_selections-loop-selection
invariant-crowded_selections-loop-selection g l = record {
  finds : (levels : ℕ)
      → first_in (λ selection. option_and_then (deep_from l.fragments levels) (set_beneath l.fragments selection)) l.selections ≡ None
      → IsClean l.fragments l.limit (suc levels) l.initial.entered
      → Finds l.fragments l.limit (suc levels) l.initial.entered l.entered None
      (first_in
      (λ selection.
      option_or (crowded_here l.limit (out-Selection selection.node))
      (option_and_then (crowded_from l.fragments l.limit l.left) (set_beneath l.fragments selection)))
      (take l.selection-index l.selections));
  long : length l.entered ≡ length l.fragments;
  bound :
      l.steps + (standing_among (drop l.selection-index l.selections) + unentered (values_of l.fragments) l.entered)
      ≤ l.initial.steps + (standing_among l.selections + unentered (values_of l.fragments) l.initial.entered);
}

abbrev pub decreases-crowded_set : goal.decreases-crowded_set
decreases-crowded_set g l = 5 * l.left

abbrev pub decreases-crowded_fragment : goal.decreases-crowded_fragment
decreases-crowded_fragment g l = 5 * l.left + 1

abbrev pub decreases-crowded_field : goal.decreases-crowded_field
decreases-crowded_field g l = 5 * l.left + 2

abbrev pub decreases-crowded_spread : goal.decreases-crowded_spread
decreases-crowded_spread g l = 5 * l.left + 2

abbrev pub decreases-crowded_selection : goal.decreases-crowded_selection
decreases-crowded_selection g l = 5 * l.left + 3

abbrev pub decreases-crowded_selections : goal.decreases-crowded_selections
decreases-crowded_selections g l = 5 * l.left + 4
