use Rattle.std.proofs.Common.{◌≡◌, take}
use Rattle.gql_select.proofs.same_written.+written.Given as goal

abbrev pub invariant-same_items-loop-place : goal.invariant-same_items-loop-place
invariant-same_items-loop-place l = take l.place l.one ≡ take l.place l.other

abbrev pub invariant-same_members-loop-place : goal.invariant-same_members-loop-place
invariant-same_members-loop-place l = take l.place l.one ≡ take l.place l.other
