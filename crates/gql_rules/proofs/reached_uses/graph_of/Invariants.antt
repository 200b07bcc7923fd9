use Rattle.std.proofs.Common.{◌≡◌, map, take}
use Rattle.gql_base.specs.Pairs.{names_of}
use Rattle.gql_fields.specs.UsePlaceViews.{shown}
use Rattle.gql_rules.specs.ReachedUses.{spreads_at}
use Rattle.gql_rules.proofs.reached_uses.graph_of.Given as goal

abbrev pub invariant-loop-places : goal.invariant-loop-places
invariant-loop-places l = l.graph ≡ map (λ places. spreads_at (names_of l.fragments) (shown places)) (take l.places-index l.lists)
