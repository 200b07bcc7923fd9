use Rattle.std.proofs.Common.{◌≡◌, true, take}
use Rattle.std.specs.List.{list_all}
use Rattle.gql_select.specs.Given.{pair_same}
use Rattle.gql_select.proofs.alike.names_same.Given as goal

abbrev pub invariant-loop-place : goal.invariant-loop-place
invariant-loop-place l = list_all (pair_same l.one l.other) (take l.place l.index) ≡ true
