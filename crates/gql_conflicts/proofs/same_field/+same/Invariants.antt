use Rattle.std.proofs.Common.{◌≡◌, take}
use Rattle.gql_conflicts.proofs.same_field.+same.Given as goal

abbrev pub invariant-same_selections-loop-place : goal.invariant-same_selections-loop-place
invariant-same_selections-loop-place l = take l.place l.one ≡ take l.place l.other
