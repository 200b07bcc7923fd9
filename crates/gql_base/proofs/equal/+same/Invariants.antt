use Rattle.std.proofs.Common.{◌≡◌, take}
use Rattle.gql_base.proofs.equal.+same.Given as goal

abbrev pub invariant-same_items-loop-place : goal.invariant-same_items-loop-place
invariant-same_items-loop-place l = take l.place l.a ≡ take l.place l.b

abbrev pub invariant-same_members-loop-place : goal.invariant-same_members-loop-place
invariant-same_members-loop-place l = take l.place l.a ≡ take l.place l.b
