use Rattle.std.proofs.Common.{◌-◌, length, string_bytes}
use Rattle.gql_tokens.proofs.BlockCuts.{IsBodyTo}
use Rattle.gql_tokens.proofs.block.body_at.Given as goal

-- what was read so far stands between the quotes
abbrev pub invariant-loop-raw : goal.invariant-loop-raw
invariant-loop-raw l = IsBodyTo l.text (string_bytes l.raw) l.at

abbrev pub decreases-loop-raw : goal.decreases-loop-raw
decreases-loop-raw l = length l.text - l.at
