use Rattle.std.proofs.Common.{take}
use Rattle.gql_admit.specs.Whole.{AreWhole}
use Rattle.gql_admit.proofs.whole.+whole.Given as goal

abbrev pub invariant-are_whole-loop-selection : goal.invariant-are_whole-loop-selection
invariant-are_whole-loop-selection l = AreWhole (take l.selection-index l.selections)
