use Rattle.std.proofs.Common.{◌≡◌, ◌++◌, take}
use Rattle.gql_collect.proofs.merge_selection_sets.add_all.Given as goal

abbrev pub invariant-loop-selection : goal.invariant-loop-selection
invariant-loop-selection l = l.items ≡ l.initial.items ++ take l.selection-index l.more
