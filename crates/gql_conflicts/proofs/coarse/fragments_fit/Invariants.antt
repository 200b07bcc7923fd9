use Rattle.std.proofs.Common.{ℕ, ◌<◌}
use Rattle.gql_conflicts.specs.Proposals.{fragment_fits_at}
use Rattle.gql_conflicts.proofs.coarse.fragments_fit.Given as goal

abbrev pub invariant-loop-place : goal.invariant-loop-place
invariant-loop-place l = (at : ℕ) → at < l.place → fragment_fits_at l.fragments l.proposal at
