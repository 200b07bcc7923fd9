use Rattle.gql_request.specs.Headers.{adding}
use Rattle.gql_request.proofs.HeaderLemmas.{IsDone}
use Rattle.gql_request.proofs.header_folding.add_values.Given as goal

abbrev pub invariant-loop-value : goal.invariant-loop-value
invariant-loop-value l = IsDone l.fn.map (adding l.name l.fn.values) l.map (adding l.name l.value-iterator)
