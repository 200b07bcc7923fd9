use Rattle.std.proofs.Common.{◌-◌, length}
use Rattle.gql_tokens.specs.Cut.{IsIgnoredIn}
use Rattle.gql_tokens.proofs.gap.gap_at.Given as goal

abbrev pub invariant-loop-next : goal.invariant-loop-next
invariant-loop-next l = IsIgnoredIn l.fn.place l.text l.gap.length l.gap.place

abbrev pub decreases-loop-next : goal.decreases-loop-next
decreases-loop-next l = length l.text - l.gap.length
