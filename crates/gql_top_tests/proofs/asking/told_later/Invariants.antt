use Rattle.gql_resolve.specs.Call.{call_of}
use Rattle.gql_top_tests.proofs.asking.told_later.Given as goal

abbrev pub invariant-loop-pending : goal.invariant-loop-pending
invariant-loop-pending g l = g.R.ResolverSet.is_for l.future (call_of l.call)
