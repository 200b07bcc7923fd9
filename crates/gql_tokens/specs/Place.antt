-- Places in a text (GraphQL, October 2021, section 7.1.2): lines and columns count from 1, and a
-- column is one character.
use Rattle.std.specs.Prelude.{ℕ, ◌+◌, Bool, not, ◌&&◌, ◌||◌, List, [], ◌∷◌, ◌++◌, ◌==◌}
use Rattle.std.specs.Prelude.{if◌then◌else◌}
use Rattle.gql_base.specs.declared.pos.Pos.{Pos}
use Rattle.gql_tokens.specs.Characters.{line_feed, carriage_return, begins}

-- A line ends at LF, at CR LF and at CR alone (section 2.1.3): so with LF, and with a CR that no LF
-- follows.
abbrev pub ends_line : ℕ → List ℕ → Bool
ends_line c rest =
    c == line_feed || (c == carriage_return && not (begins (λ d. d == line_feed) rest))

-- the place after a character, which `rest` follows
abbrev pub next_place : Pos → ℕ → List ℕ → Pos
next_place place c rest =
    if ends_line c rest then record { line = place.line + 1; column = 1 }
    else record { line = place.line; column = place.column + 1 }

-- the place after some characters, which `rest` follows
abbrev pub place_after : Pos → List ℕ → List ℕ → Pos
place_after place [] rest = place
place_after place (c ∷ cs) rest = place_after (next_place place c (cs ++ rest)) cs rest

-- where a text begins
abbrev pub text_start : Pos
text_start = record { line = 1; column = 1 }
