use Rattle.std.proofs.Common.{◌≡◌, take}
use Rattle.gql_select.specs.Behind.{all_behind}
use Rattle.gql_select.specs.Documents.{with_others}
use Rattle.gql_collect.proofs.merge_selection_sets.united_item.Given as goal

abbrev pub invariant-loop-occurrence : goal.invariant-loop-occurrence
invariant-loop-occurrence l = l.item ≡ (with_others l.first (all_behind (take l.occurrence-index l.more))).node
