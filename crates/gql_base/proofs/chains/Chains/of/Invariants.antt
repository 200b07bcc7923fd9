use Rattle.std.proofs.Common.{take}
use Rattle.gql_base.specs.Chains.{AreChained}
use Rattle.gql_base.proofs.chains.Chains.of.Given as goal

abbrev pub invariant-loop-place : goal.invariant-loop-place
invariant-loop-place l = AreChained l.chains (take l.place l.names)
