use Rattle.std.proofs.Common.{◌≡◌, ◌++◌, take}
use Rattle.gql_place.proofs.place_headers.push_own.Given as goal

abbrev pub invariant-loop-op : goal.invariant-loop-op
invariant-loop-op l = l.ops ≡ l.initial.ops ++ take l.op-index l.own
