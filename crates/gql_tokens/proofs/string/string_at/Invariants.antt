use Rattle.std.proofs.Common.{◌-◌, length, string_bytes}
use Rattle.gql_tokens.proofs.StringCuts.{IsReadTo}
use Rattle.gql_tokens.proofs.string.string_at.Given as goal

-- the value so far is what the characters after the quote write
abbrev pub invariant-loop-value : goal.invariant-loop-value
invariant-loop-value l = IsReadTo l.text (string_bytes l.value) l.at

abbrev pub decreases-loop-value : goal.decreases-loop-value
decreases-loop-value l = length l.text - l.at
