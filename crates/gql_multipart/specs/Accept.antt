-- The header `Accept` (RFC 9110, section 12.5.1).
use Rattle.std.specs.Prelude.{◌≡◌, ℕ, ◌<◌, ◌≤◌, ◌==◌, Bool, false, nat_lt, List, ◌∷◌, ◌++◌, map}
use Rattle.std.specs.Prelude.{fold, Option, Some, None, IfSome, if◌then◌else◌}
use Rattle.std.specs.List.{AllByRecursion, slice_split}
use Rattle.std.specs.Option.{option_map_or}
use Rattle.gql_multipart.specs.Offer.{offer_at}
use Rattle.gql_multipart.specs.Token.{trimmed}
use Rattle.gql_multipart.specs.declared.offer.Offer.{Offer}

-- what the ranges ask for, one after another: the header is cut at commas
abbrev pub offers : List ℕ → List (Option Offer)
offers accept = map (λ piece. offer_at (trimmed piece)) (slice_split (λ c. c == 44) accept)

-- the offer with the greater quality, the first where both are equal
abbrev pub better : Option Offer → Option Offer → Option Offer
better None other = other
better (Some offer) None = Some offer
better (Some offer) (Some other) = if nat_lt offer.q other.q then Some other else Some offer

-- the best of the offers of a header
abbrev pub best_offer : List ℕ → Option Offer
best_offer accept = fold better None (offers accept)

-- whether it is a multipart body
abbrev pub prefers_multipart : List ℕ → Bool
prefers_multipart accept = option_map_or (λ offer. offer.is_multipart) (best_offer accept) false

-- an offer is one of these, more wanted than each before it and as much as each after it
pub record IsBest (offers : List (Option Offer)) (best : Offer) : Type 0 where
  pub before : List (Option Offer)
  pub after : List (Option Offer)
  pub place : offers ≡ before ++ (Some best ∷ after)
  pub first : AllByRecursion (λ other. IfSome other (λ offer. offer.q < best.q)) before
  pub greatest : AllByRecursion (λ other. IfSome other (λ offer. offer.q ≤ best.q)) after
