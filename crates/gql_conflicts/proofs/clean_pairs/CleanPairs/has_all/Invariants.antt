use Rattle.std.proofs.Common.{ℕ, take}
use Rattle.std.specs.List.{Contains}
use Rattle.gql_conflicts.specs.CleanPairs.{HasPairsOf}
use Rattle.gql_conflicts.proofs.clean_pairs.CleanPairs.has_all.Given as goal

abbrev pub invariant-loop-one : goal.invariant-loop-one
invariant-loop-one l = (one : ℕ) → Contains (take l.one-index l.merged.sets.items) one → HasPairsOf l.self.pairs.items l.merged one
