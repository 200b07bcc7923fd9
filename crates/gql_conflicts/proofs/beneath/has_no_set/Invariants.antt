use Rattle.std.proofs.Common.{◌≡◌, [], take}
use Rattle.gql_select.specs.Collected.{own_selections}
use Rattle.gql_select.specs.Behind.{all_behind}
use Rattle.gql_select.specs.Documents.{with_others}
use Rattle.gql_conflicts.proofs.beneath.has_no_set.Given as goal

abbrev pub invariant-loop-occurrence : goal.invariant-loop-occurrence
invariant-loop-occurrence l = own_selections (with_others l.group.first (all_behind (take l.occurrence-index l.group.more.items))) ≡ []
