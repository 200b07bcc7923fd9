use Rattle.std.proofs.Common.{take}
use Rattle.gql_conflicts.specs.Proposals.{all_fit}
use Rattle.gql_conflicts.proofs.fitting.+fitting.Given as goal

abbrev pub invariant-all_fit-loop-selection : goal.invariant-all_fit-loop-selection
invariant-all_fit-loop-selection l = all_fit l.fragments l.proposal l.class (take l.selection-index l.selections)
