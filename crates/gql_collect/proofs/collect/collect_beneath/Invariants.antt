use Rattle.std.proofs.Common.{◌≡◌, take}
use Rattle.gql_select.specs.Behind.{all_behind}
use Rattle.gql_select.specs.Collected.{own_selections}
use Rattle.gql_select.specs.Documents.{with_others}
use Rattle.gql_collect.specs.CollectFields.{collected}
use Rattle.gql_collect.proofs.collect.collect_beneath.Given as goal

abbrev pub invariant-loop-occurrence : goal.invariant-loop-occurrence
invariant-loop-occurrence l =
    all_behind l.fields.items
    ≡ collected l.collector l.object (own_selections (with_others l.first (all_behind (take l.occurrence-index l.more))))
