use Rattle.std.proofs.Common.{◌≡◌, ◌+◌, vec_len}
use Rattle.gql_serve.specs.Seats.{counted}
use Rattle.gql_serve.proofs.served.deal.Given as goal

abbrev pub invariant-loop-number : goal.invariant-loop-number
invariant-loop-number g l = (l.share.parts + l.number ≡ l.fn.seats) × (l.share.amount ≡ 0)
    × (vec_len l.dealt ≡ l.number) × (counted l.dealt.items ≡ 0)
