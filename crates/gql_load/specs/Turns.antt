-- The turns of the bench.
use Rattle.std.specs.Prelude.{ℕ, ◌*◌, ◌%◌, List, map}
use Rattle.gql_load.specs.Numbers.{numbers}

-- the number at a place
abbrev pub load_turn : ℕ → ℕ
load_turn place = 37 * place % 101

-- a thousand of them
abbrev pub load_turns : List ℕ
load_turns = map load_turn (numbers 1000)
