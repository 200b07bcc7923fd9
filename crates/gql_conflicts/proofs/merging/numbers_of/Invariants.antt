use Rattle.gql_conflicts.proofs.MergedLemmas.{AreNumbers}
use Rattle.gql_conflicts.specs.Merged.{known_by}
use Rattle.gql_conflicts.proofs.merging.numbers_of.Given as goal

abbrev pub invariant-loop-occurrence : goal.invariant-loop-occurrence
invariant-loop-occurrence l = AreNumbers (known_by l.reader) l.group.first l.group.more.items l.numbers.items l.occurrence-index
