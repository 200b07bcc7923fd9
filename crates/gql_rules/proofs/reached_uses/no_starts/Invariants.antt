use Rattle.gql_rules.specs.AlikeOperations.{AreEmpty}
use Rattle.gql_rules.proofs.reached_uses.no_starts.Given as goal

abbrev pub invariant-loop-place : goal.invariant-loop-place
invariant-loop-place l = AreEmpty l._place l.starts
