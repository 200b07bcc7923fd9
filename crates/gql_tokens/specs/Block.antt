-- Block strings (GraphQL, October 2021, section 2.9.4): what stands between their quotes.
use Rattle.std.specs.Prelude.{◌≡◌, ℕ, true, false, List, [], ◌∷◌, ◌++◌, nat_eq}
use Rattle.std.specs.List.{starts_with}
use Rattle.gql_tokens.specs.Characters.{quote, backslash, is_source}
use Rattle.gql_tokens.specs.Lines.{block_value}

abbrev pub three_quotes : List ℕ
three_quotes = quote ∷ quote ∷ quote ∷ []

abbrev pub escaped_quotes : List ℕ
escaped_quotes = backslash ∷ three_quotes

-- A piece of a block string: a character as itself, or three quotes, which a backslash escapes.
pub data Piece : Type 0 where
  itself : ℕ → Piece
  quotes : Piece

-- how the pieces are written
abbrev pub written : List Piece → List ℕ
written [] = []
written (itself c ∷ pieces) = c ∷ written pieces
written (quotes ∷ pieces) = escaped_quotes ++ written pieces

-- what the pieces stand for
abbrev pub raw_of : List Piece → List ℕ
raw_of [] = []
raw_of (itself c ∷ pieces) = c ∷ raw_of pieces
raw_of (quotes ∷ pieces) = three_quotes ++ raw_of pieces

-- Where `rest` follows the pieces, no character that stands for itself begins `"""` or `\"""`.
abbrev pub ArePieces : List Piece → List ℕ → Type 0
ArePieces [] rest = Unit {0}
ArePieces (itself c ∷ pieces) rest =
    (is_source c ≡ true) × (starts_with nat_eq (c ∷ written pieces ++ rest) three_quotes ≡ false)
    × (starts_with nat_eq (c ∷ written pieces ++ rest) escaped_quotes ≡ false)
    × ArePieces pieces rest
ArePieces (quotes ∷ pieces) rest = ArePieces pieces rest

-- a block string with this value
abbrev pub IsBlockString : List ℕ → List ℕ → Type 0
IsBlockString value cs =
    (pieces : List Piece) × (cs ≡ three_quotes ++ (written pieces ++ three_quotes))
    × ArePieces pieces three_quotes
    × (value ≡ block_value (raw_of pieces))
