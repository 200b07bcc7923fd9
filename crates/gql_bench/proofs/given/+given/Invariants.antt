use Rattle.std.proofs.Common.{◌≡◌, ◌++◌, map}
use Rattle.std.specs.Vec.Iter.{into_iter_items}
use Rattle.gql_bench.specs.Given.{given_of}
use Rattle.gql_bench.proofs.given.+given.Given as goal

abbrev pub invariant-given_items-loop-item : goal.invariant-given_items-loop-item
invariant-given_items-loop-item l = map given_of l.fn.items ≡ l.made ++ map given_of (into_iter_items l.item-iterator)
