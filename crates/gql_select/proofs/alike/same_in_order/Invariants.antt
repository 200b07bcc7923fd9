use Rattle.std.proofs.Common.{◌≡◌, map, take}
use Rattle.gql_select.specs.Given.{as_written}
use Rattle.gql_select.proofs.alike.same_in_order.Given as goal

abbrev pub invariant-loop-place : goal.invariant-loop-place
invariant-loop-place l = map as_written (take l.place l.one) ≡ map as_written (take l.place l.other)
