-- Places after the bytes of a text: a column is one character, and counts with its first byte.
use Rattle.std.specs.Prelude.{ℕ, Bool, ◌&&◌, List, [], ◌∷◌, ◌++◌, nat_le, nat_lt}
use Rattle.std.specs.Prelude.{if◌then◌else◌}
use Rattle.gql_base.specs.declared.pos.Pos.{Pos}
use Rattle.gql_tokens.specs.Place.{next_place}

-- a byte that goes on with a character
abbrev pub goes_on_with : ℕ → Bool
goes_on_with b = nat_le 128 b && nat_lt b 192

-- the place after a byte, which `rest` follows
abbrev pub byte_place : Pos → ℕ → List ℕ → Pos
byte_place place b rest = if goes_on_with b then place else next_place place b rest

-- the place after some bytes, which `rest` follows
abbrev pub bytes_place : Pos → List ℕ → List ℕ → Pos
bytes_place place [] rest = place
bytes_place place (b ∷ bs) rest = bytes_place (byte_place place b (bs ++ rest)) bs rest
