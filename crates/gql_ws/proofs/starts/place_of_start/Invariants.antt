use Rattle.std.proofs.Common.{◌≡◌, ◌+◌, drop}
use Rattle.gql_ws.specs.Found.{place_in, is_start}
use Rattle.gql_ws.proofs.starts.place_of_start.Given as goal

abbrev pub invariant-loop-place : goal.invariant-loop-place
invariant-loop-place l =
    place_in (is_start l.number l.id) l.list ≡ l.place + place_in (is_start l.number l.id) (drop l.place l.list)
