use Rattle.std.proofs.Common.{◌≡◌, ◌+◌, ◌*◌, ◌-◌, ◌++◌, drop}
use Rattle.std.specs.List.{flat_map}
use Rattle.gql_doc.specs.declared.document.Selection.{out-Selection}
use Rattle.gql_collect.specs.CollectFields.{fields_here, fields_within}
use Rattle.gql_select.specs.Behind.{all_behind}
use Rattle.gql_collect.proofs.collect.+collect.Given as goal

abbrev pub invariant-add_fields-loop-selection : goal.invariant-add_fields-loop-selection
invariant-add_fields-loop-selection l =
    all_behind l.fields.items
    ++ flat_map (λ selection. fields_here l.collector (l.left - 1) l.object (out-Selection selection.node)) (drop l.selection-index l.selections)
    ≡ all_behind l.initial.fields.items ++ fields_within l.collector l.left l.object l.selections

abbrev pub decreases-add_fields : goal.decreases-add_fields
decreases-add_fields l = 3 * l.left

abbrev pub decreases-add_spread : goal.decreases-add_spread
decreases-add_spread l = 3 * l.left + 1

abbrev pub decreases-add_inline : goal.decreases-add_inline
decreases-add_inline l = 3 * l.left + 1

abbrev pub decreases-add_selection : goal.decreases-add_selection
decreases-add_selection l = 3 * l.left + 2
