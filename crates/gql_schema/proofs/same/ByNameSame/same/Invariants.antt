use Rattle.std.proofs.Common.{◌≡◌, take}
use Rattle.gql_schema.proofs.same.ByNameSame.same.Given as goal

abbrev pub invariant-loop-place : goal.invariant-loop-place
invariant-loop-place g l = take l.place l.self ≡ take l.place l.other
