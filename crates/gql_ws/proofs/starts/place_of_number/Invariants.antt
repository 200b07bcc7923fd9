use Rattle.std.proofs.Common.{◌≡◌, ◌+◌, drop}
use Rattle.gql_ws.specs.Found.{place_in, has_number}
use Rattle.gql_ws.proofs.starts.place_of_number.Given as goal

abbrev pub invariant-loop-place : goal.invariant-loop-place
invariant-loop-place l =
    place_in (has_number l.number) l.list ≡ l.place + place_in (has_number l.number) (drop l.place l.list)
