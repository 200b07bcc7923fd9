use Rattle.std.proofs.Common.{ℕ, ◌<◌}
use Rattle.gql_conflicts.specs.Proposals.{ascends_at}
use Rattle.gql_conflicts.proofs.coarse.has_keys_once.Given as goal

abbrev pub invariant-loop-place : goal.invariant-loop-place
invariant-loop-place l = (at : ℕ) → at < l.place → ascends_at l.entries at
