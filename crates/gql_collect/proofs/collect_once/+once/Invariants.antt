use Rattle.std.proofs.Common.{◌≤◌, ◌+◌, ◌*◌, ◌-◌, drop, fold, take}
use Rattle.gql_doc.specs.declared.document.Selection.{out-Selection}
use Rattle.gql_select.specs.Once.{once_of, Walk}
use Rattle.gql_select.specs.Standing.{standing_among}
use Rattle.gql_collect.specs.CollectFields.{setting_by}
use Rattle.gql_collect.specs.CollectOnce.{IsAt, left_in, walked}
use Rattle.gql_collect.proofs.collect_once.+once.Given as goal

abbrev pub invariant-add_fields-loop-selection : goal.invariant-add_fields-loop-selection
invariant-add_fields-loop-selection g l = record {
  walked : (walk : Walk) → IsAt l.collector.fragments.now walk l.initial.found
      → IsAt l.collector.fragments.now
      (fold (λ w selection. once_of (setting_by l.collector) l.object (walked l.collector (l.left - 1) l.object) w (out-Selection selection.node)) walk
      (take l.selection-index l.selections)) l.found;
  bound :
      l.steps + (standing_among (drop l.selection-index l.selections) + left_in l.collector.fragments.now l.found)
      ≤ l.initial.steps + (standing_among l.selections + left_in l.collector.fragments.now l.initial.found);
}

abbrev pub decreases-add_fields : goal.decreases-add_fields
decreases-add_fields g l = 4 * l.left

abbrev pub decreases-add_fragment : goal.decreases-add_fragment
decreases-add_fragment g l = 4 * l.left + 1

abbrev pub decreases-add_spread : goal.decreases-add_spread
decreases-add_spread g l = 4 * l.left + 2

abbrev pub decreases-add_inline : goal.decreases-add_inline
decreases-add_inline g l = 4 * l.left + 2

abbrev pub decreases-add_selection : goal.decreases-add_selection
decreases-add_selection g l = 4 * l.left + 3
