use Rattle.std.proofs.Common.{◌≡◌, ◌++◌}
use Rattle.std.specs.Vec.Iter.{into_iter_items}
use Rattle.gql_cli.specs.Request.{rooted_with}
use Rattle.gql_cli.proofs.answer.rooted_all.Given as goal

abbrev pub invariant-loop-request : goal.invariant-loop-request
invariant-loop-request l = l.rooted ++ rooted_with l.root (into_iter_items l.request-iterator) ≡ rooted_with l.root l.fn.requests
