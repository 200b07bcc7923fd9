use Rattle.std.proofs.Common.{◌≡◌, take}
use Rattle.std.specs.List.{flat_map}
use Rattle.gql_base.specs.Pairs.{names_of}
use Rattle.gql_fields.specs.UsePlaceViews.{place_behind}
use Rattle.gql_rules.specs.ReachedUses.{spread_at}
use Rattle.gql_rules.proofs.reached_uses.spreads_in.Given as goal

abbrev pub invariant-loop-place : goal.invariant-loop-place
invariant-loop-place l = l.spreads ≡ flat_map (λ p. spread_at (names_of l.fragments) (place_behind p)) (take l.place-index l.places)
