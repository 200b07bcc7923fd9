use Rattle.std.specs.Prelude.{drop}
use Rattle.gql_request.proofs.HeaderLemmas.{IsDone}
use Rattle.gql_request.proofs.header_folding.fold_ops.Given as goal

abbrev pub invariant-loop-op : goal.invariant-loop-op
invariant-loop-op l = IsDone l.fn.map l.ops l.map (drop l.op-index l.ops)
