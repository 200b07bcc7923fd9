-- What is ignored between tokens (GraphQL, October 2021, section 2.1.7): white space, line ends,
-- commas, the byte order mark, and comments.
use Rattle.std.specs.Prelude.{◌≡◌, ℕ, Bool, true, false, ◌||◌, List, [], ◌∷◌, ◌==◌}
use Rattle.gql_tokens.specs.Characters.{hash, is_line_end, is_source, is_comment_character}
use Rattle.gql_tokens.specs.Characters.{is_ignored, begins}

-- What goes on with an ignored text. From within a comment that is every character that may stand
-- in a text, since what can't stand in a comment ends its line.
abbrev pub goes_on : (in_comment : Bool) → ℕ → Bool
goes_on false c = is_ignored c || c == hash
goes_on true c = is_source c

-- An ignored character, with a comment after it or none: a `#` begins a comment (section 2.1.4), a
-- line's end ends it.
abbrev pub Passes : (in_comment : Bool) → ℕ → (comment_behind : Bool) → Type 0
Passes false c false = is_ignored c ≡ true
Passes false c true = c ≡ hash
Passes true c true = is_comment_character c ≡ true
Passes true c false = is_line_end c ≡ true

-- The whole of what is ignored before `rest`, from within a comment or from outside of one.
abbrev pub IsGap : (in_comment : Bool) → List ℕ → List ℕ → Type 0
IsGap in_comment [] rest = begins (goes_on in_comment) rest ≡ false
IsGap in_comment (c ∷ cs) rest = (behind : Bool) × Passes in_comment c behind × IsGap behind cs rest
