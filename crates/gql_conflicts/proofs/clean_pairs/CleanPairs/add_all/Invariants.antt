use Rattle.gql_conflicts.specs.CleanPairs.{AddsPairs}
use Rattle.gql_conflicts.proofs.clean_pairs.CleanPairs.add_all.Given as goal

abbrev pub invariant-loop-place : goal.invariant-loop-place
invariant-loop-place l = AddsPairs l.merged l.initial.self.pairs.items l.self.pairs.items
