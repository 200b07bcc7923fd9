use Rattle.std.specs.List.{flat_map}
use Rattle.http_header.specs.HeaderMap.{get_all}
use Rattle.gql_request.specs.Headers.{replacing, setting}
use Rattle.gql_request.proofs.HeaderLemmas.{IsDone}
use Rattle.gql_request.proofs.header_folding.take_over.Given as goal

abbrev pub invariant-loop-name : goal.invariant-loop-name
invariant-loop-name l = IsDone l.fn.map (replacing l.own) l.map (flat_map (λ name. setting name (get_all l.own name)) l.name-iterator)
