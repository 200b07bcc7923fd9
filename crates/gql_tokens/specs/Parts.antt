-- What the parts of the lexer answer, in the words of the definitions. No definition of tokens
-- rests on this file.
use Rattle.std.specs.Prelude.{◌≡◌, ℕ, ◌+◌, ◌<◌, ◌≤◌, Bool, true, false, not, ◌&&◌, ◌||◌, ◌⊎◌, List}
use Rattle.std.specs.Prelude.{[], ◌∷◌, ◌++◌, ◌==◌}
use Rattle.std.specs.Prelude.{nat_eq, Option, Some, None, MatchOption, length, take, drop}
use Rattle.std.specs.Prelude.{encode_utf8_all}
use Rattle.std.specs.Char.{is_ascii_digit}
use Rattle.std.specs.List.{AllByRecursion, starts_with, join_with_byte}
use Rattle.std.specs.Str.{IsCharBoundary}
use Rattle.gql_base.specs.declared.pos.Pos.{Pos}
use Rattle.gql_tokens.specs.declared.block.Found.{Found}
use Rattle.gql_tokens.specs.declared.block.Found.TheVariants as founds
use Rattle.gql_tokens.specs.declared.token.Lexeme.{Lexeme}
use Rattle.gql_tokens.specs.declared.token.Token.{Token}
use Rattle.gql_tokens.specs.Characters.{line_feed, quote, minus, full_stop, backslash, is_source}
use Rattle.gql_tokens.specs.Characters.{begins}
use Rattle.gql_tokens.specs.Number.{IsInteger, IsFloatPart, is_bad_after_number}
use Rattle.gql_tokens.specs.String.{escaped, IsUnicodeEscape, IsString}
use Rattle.gql_tokens.specs.Block.{Piece, three_quotes, escaped_quotes, written, raw_of, ArePieces}
use Rattle.gql_tokens.specs.Block.{IsBlockString}
use Rattle.gql_tokens.specs.Lines.{lines_of, without_first_blank, without_last_blank}
use Rattle.gql_tokens.specs.Token.{IsToken, is_final}
use Rattle.gql_tokens.specs.Lexer.{Finishes, Lexes}

-- a digit or `.`
abbrev pub is_bad_after_fraction : ℕ → Bool
is_bad_after_fraction c = is_ascii_digit c || c == full_stop

-- an integer or a float
abbrev pub IsNumeral : List ℕ → Type 0
IsNumeral cs =
    (integer : List ℕ) × (part : List ℕ) × (cs ≡ integer ++ part) × IsInteger integer
    × IsFloatPart part

-- The fronts of a text that have this form and no bad character after them: there is none, or none
-- but the one of this length.
abbrev pub OnlyFront : (List ℕ → Type 0) → (bad : ℕ → Bool) → List ℕ → Option ℕ → Type 0
OnlyFront Form bad text (Some n) =
    (n ≤ length text) × Form (take n text)
    × ((cs rest : List ℕ) → text ≡ cs ++ rest → Form cs → begins bad rest ≡ false → length cs ≡ n)
OnlyFront Form bad text None =
    (cs rest : List ℕ) → text ≡ cs ++ rest → Form cs → begins bad rest ≡ false → ⊥

-- the lengths of an integer and of what makes it a float, at the front of a text
pub record IsNumeralAt (text : List ℕ) (integer part : ℕ) : Type 0 where
  pub within : integer + part ≤ length text
  pub integer_is : IsInteger (take integer text)
  pub part_is : IsFloatPart (take part (drop integer text))
  pub ends : begins is_bad_after_number (drop (integer + part) text) ≡ false

-- a backslash and what follows it, which write this character
abbrev pub IsEscape : ℕ → List ℕ → Type 0
IsEscape v cs =
    ((c : ℕ) × (cs ≡ backslash ∷ c ∷ []) × (escaped c ≡ Some v)) ⊎ IsUnicodeEscape v cs

-- no string begins the text
abbrev pub NoString : List ℕ → Type 0
NoString text = (value cs rest : List ℕ) → text ≡ cs ++ rest → IsString value cs → ⊥

-- a string of this length begins the text, and its value is this in UTF-8
abbrev pub IsStringAt : List ℕ → List ℕ → ℕ → Type 0
IsStringAt text bytes n = (n ≤ length text) × ((value : List ℕ) × IsString value (take n text)
    × (bytes ≡ encode_utf8_all value))

-- The text after the quotes that open a block string has no end of one.
abbrev pub IsUnended : List ℕ → Type 0
IsUnended text =
    (pieces : List Piece) (rest : List ℕ) → text ≡ written pieces ++ (three_quotes ++ rest)
    → ArePieces pieces (three_quotes ++ rest) → ⊥

-- a character that stands for itself in a block string, whatever follows it
abbrev pub is_bare : ℕ → Bool
is_bare c = is_source c && not (c == quote || c == backslash)

-- what stands at a place in a block string, where `text` begins
abbrev pub IsPieceAt : List ℕ → Found → Type 0
IsPieceAt text founds.End = starts_with nat_eq text three_quotes ≡ true
IsPieceAt text founds.Quotes = starts_with nat_eq text escaped_quotes ≡ true
IsPieceAt text (founds.Itself c) =
    (begins (λ d. d == c) text ≡ true) × (is_source c ≡ true)
    × (starts_with nat_eq text three_quotes ≡ false)
    × (starts_with nat_eq text escaped_quotes ≡ false)
IsPieceAt text founds.Nothing = begins is_source text ≡ false

-- a block string of this length begins the text, and this stands between its quotes
abbrev pub IsBodyAt : List ℕ → List ℕ → ℕ → Type 0
IsBodyAt text raw n =
    (n ≤ length text)
    × ((pieces : List Piece) × (take n text ≡ three_quotes ++ (written pieces ++ three_quotes))
    × ArePieces pieces three_quotes
    × (raw ≡ raw_of pieces))

-- a block string of this length begins the text, and its value is this in UTF-8
abbrev pub IsBlockAt : List ℕ → List ℕ → ℕ → Type 0
IsBlockAt text bytes n =
    (n ≤ length text)
    × ((value : List ℕ) × IsBlockString value (take n text) × (bytes ≡ encode_utf8_all value))

-- No block string that begins in the text has an end, as far as the characters before it may stand
-- in one.
abbrev pub NoBlockEnds : List ℕ → Type 0
NoBlockEnds text =
    (front rest : List ℕ) → AllByRecursion (λ c. is_source c ≡ true) front
    → text ≡ front ++ (three_quotes ++ rest)
    → IsUnended rest

-- the length of a text's first line, and where the next one begins, if there is one
abbrev pub IsFirstLine : List ℕ → ℕ → Option ℕ → Type 0
IsFirstLine text line next =
    (line ≤ length text)
    × MatchOption next (lines_of text ≡ take line text ∷ [])
    (λ n. (line < n) × (n ≤ length text)
    × (lines_of text ≡ take line text ∷ lines_of (drop n text)))

-- Some lines without the first blank ones, joined, of which this much stands before the last blank
-- ones.
pub record IsKept (text : List ℕ) (n : ℕ) (lines : List (List ℕ)) : Type 0 where
  pub text_is : text ≡ join_with_byte line_feed (without_first_blank lines)
  pub within : n ≤ length text
  pub front_is : take n text
      ≡ join_with_byte line_feed (without_last_blank (without_first_blank lines))
  pub boundary : IsCharBoundary text n

-- the first character of a number
abbrev pub begins_number : ℕ → Bool
begins_number c = is_ascii_digit c || c == minus

-- what stands at a text's front, where nothing is ignored: how the tokens end, or a token of this
-- length
abbrev pub StandsAt : Lexeme → ℕ → List ℕ → Type 0
StandsAt lexeme n text =
    Finishes lexeme text
    ⊎ ((n ≤ length text) × IsToken lexeme (take n text) (drop n text) × (is_final lexeme ≡ false))

-- The first token of a text that begins at `place`, how far it reaches with what is ignored before
-- it, and the place after it: it is the last, or whatever tokens stand after it stand after it
-- in the text too.
pub record IsStep (place : Pos) (text : List ℕ) (token : Token) (n : ℕ) (behind : Pos) : Type 0
  where
    pub within : n ≤ length text
    pub last : is_final token.lexeme ≡ true → Lexes place text (token ∷ [])
    pub some : is_final token.lexeme ≡ false → 0 < n
    pub more : is_final token.lexeme ≡ false → (tokens : List Token)
        → Lexes behind (drop n text) tokens
        → Lexes place text (token ∷ tokens)
    pub line : behind.line ≤ place.line + n
    pub column : behind.column ≤ place.column + n
