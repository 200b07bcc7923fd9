-- What a turn gives.
use Rattle.std.specs.Prelude.{Result, Ok, Err, IfOk}
use Rattle.gql_tasks.specs.Turn.{IsNoPut, PutKeeps}
use Rattle.gql_tasks.specs.declared.arena.Turn.{Turn}
use Rattle.gql_tasks.specs.declared.arena.Turn.TheVariants as turn
use Rattle.gql_tasks.specs.declared.given.Given.TheVariants.{Answered, Put}

-- where nothing is put, nothing is to be kept
pub no_put : {V E R : Type 0} (old new : R) (result : Result (Turn V) E) → IfOk result (λ given. IsNoPut given) → PutKeeps old new result
no_put old new (Ok (turn.Answered (Answered answer))) none = tt
no_put old new (Ok (turn.Answered (Put put))) none = absurd none
no_put old new (Ok turn.Begun) none = tt
no_put old new (Ok turn.Pending) none = tt
no_put old new (Err e) none = tt
