use Rattle.std.proofs.Common.{ℕ, take}
use Rattle.std.specs.List.{Contains}
use Rattle.gql_conflicts.specs.CleanPairs.{HasPair}
use Rattle.gql_conflicts.proofs.clean_pairs.CleanPairs.has_all_of.Given as goal

abbrev pub invariant-loop-other : goal.invariant-loop-other
invariant-loop-other l = (other : ℕ) → Contains (take l.other-index l.merged.sets.items) other → HasPair l.self.pairs.items l.merged l.one other
