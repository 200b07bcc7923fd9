use Rattle.std.proofs.Common.{◌≡◌, take}
use Rattle.gql_conflicts.proofs.same_field.same_directives.Given as goal

abbrev pub invariant-loop-place : goal.invariant-loop-place
invariant-loop-place l = take l.place l.first ≡ take l.place l.second
