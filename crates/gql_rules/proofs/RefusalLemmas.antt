-- An error is what is said of its fields.
use Rattle.std.proofs.Common.{◌≡◌, ℕ, List, [], Option, None, Result, Ok, Err, IfOk}
use Rattle.std.specs.Option.{option_to_list}
use Rattle.gql_base.specs.declared.pos.Pos.{Pos}
use Rattle.gql_base.specs.declared.server_error.ServerError.{ServerError}
use Rattle.gql_rules.specs.Refusal.{refusal}

pub refusal_of : {E : Type 0} (r : Result ServerError E) (message : List ℕ) (place : Option Pos) → IfOk r (λ error. error.message ≡ message)
    → IfOk r (λ error. error.locations ≡ option_to_list place) → IfOk r (λ error. error.path ≡ []) → IfOk r (λ error. error.extensions ≡ None)
    → IfOk r (λ error. error ≡ refusal message place)
refusal_of (Ok error) message place said at path extensions =
    λ i. record { message = said i; locations = at i; path = path i; extensions = extensions i }
refusal_of (Err e) message place said at path extensions = tt
