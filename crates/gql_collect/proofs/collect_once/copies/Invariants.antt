use Rattle.std.proofs.Common.{◌≡◌, take}
use Rattle.gql_select.specs.Behind.{all_behind}
use Rattle.gql_collect.proofs.collect_once.copies.Given as goal

abbrev pub invariant-loop-field : goal.invariant-loop-field
invariant-loop-field l = l.copies ≡ all_behind (take l.field-index l.fields)
