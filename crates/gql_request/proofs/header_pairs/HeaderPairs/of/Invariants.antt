use Rattle.std.specs.Prelude.{◌≡◌, ◌++◌}
use Rattle.http_header.specs.HeaderMap.{pairs}
use Rattle.gql_request.proofs.header_pairs.HeaderPairs.of.Given as goal

abbrev pub invariant-loop-name : goal.invariant-loop-name
invariant-loop-name l = l.all.items ++ l.name-iterator ≡ pairs l.map
