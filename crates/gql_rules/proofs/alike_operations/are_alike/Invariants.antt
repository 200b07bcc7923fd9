use Rattle.std.proofs.Common.{take}
use Rattle.gql_rules.specs.AlikeOperations.{AskAlike}
use Rattle.gql_rules.proofs.alike_operations.are_alike.Given as goal

abbrev pub invariant-loop-place : goal.invariant-loop-place
invariant-loop-place l = AskAlike (take l.place l.one) (take l.place l.other)
