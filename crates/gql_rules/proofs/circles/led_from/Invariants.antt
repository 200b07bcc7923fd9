use Rattle.std.proofs.Common.{◌≡◌, take}
use Rattle.std.specs.List.{flat_map}
use Rattle.gql_rules.specs.Reaching.{led_to}
use Rattle.gql_rules.proofs.circles.led_from.Given as goal

abbrev pub invariant-loop-place : goal.invariant-loop-place
invariant-loop-place l = l.led ≡ flat_map (led_to l.graph) (take l.place-index l.places)
