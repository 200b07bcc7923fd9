use Rattle.std.proofs.Common.{◌≡◌, map}
use Rattle.gql_load.specs.Numbers.{numbers}
use Rattle.gql_load.specs.Turns.{load_turn}
use Rattle.gql_load.proofs.turns.load_turns.Given as goal

abbrev pub invariant-loop-place : goal.invariant-loop-place
invariant-loop-place l = l.turns ≡ map load_turn (numbers l.place)
