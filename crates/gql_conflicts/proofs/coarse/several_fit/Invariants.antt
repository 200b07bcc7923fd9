use Rattle.std.proofs.Common.{take}
use Rattle.gql_base.specs.Pairs.{values_of}
use Rattle.gql_conflicts.specs.Proposals.{each_fits}
use Rattle.gql_conflicts.proofs.coarse.several_fit.Given as goal

abbrev pub invariant-loop-place : goal.invariant-loop-place
invariant-loop-place l = each_fits l.fragments l.proposal (take l.place (values_of l.operations))
