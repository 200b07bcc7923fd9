use Rattle.std.proofs.Common.{◌≡◌, ◌+◌, vec_len}
use Rattle.gql_serve.specs.Seats.{counted}
use Rattle.gql_serve.proofs.served.gathered.Given as goal

abbrev pub invariant-loop-seat : goal.invariant-loop-seat
invariant-loop-seat g l = (l.all.parts + vec_len l.seats ≡ vec_len l.fn.seats)
    × (l.all.amount + counted l.seats.items ≡ counted l.fn.seats.items)

abbrev pub decreases-loop-seat : goal.decreases-loop-seat
decreases-loop-seat g l = vec_len l.seats
