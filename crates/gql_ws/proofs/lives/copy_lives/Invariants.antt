use Rattle.std.proofs.Common.{◌≡◌, take}
use Rattle.gql_ws.proofs.lives.copy_lives.Given as goal

abbrev pub invariant-loop-start : goal.invariant-loop-start
invariant-loop-start l = l.copy ≡ take l.start-index l.list
