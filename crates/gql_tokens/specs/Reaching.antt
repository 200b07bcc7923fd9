-- How far a text was read, token by token.
use Rattle.std.specs.Prelude.{◌≡◌, ◌+◌, ◌<◌, ◌≤◌, ℕ, true, false, List, [], ◌∷◌, drop}
use Rattle.std.specs.Str.{chars, IsCharBoundary}
use Rattle.gql_tokens.specs.declared.token.Token.{Token}
use Rattle.gql_tokens.specs.declared.reaching.Reached.{Reached}
use Rattle.gql_tokens.specs.Token.{is_final}
use Rattle.gql_tokens.specs.Lexer.{Lexes}
use Rattle.gql_tokens.specs.Parts.{NoBlockEnds}

-- the characters that are left after so many bytes
abbrev pub left : List ℕ → ℕ → List ℕ
left text at = chars (drop at text)

-- so many bytes of the text were read, and the place is the one after them
pub record IsReached (text : List ℕ) (reached : Reached) : Type 0 where
  pub boundary : IsCharBoundary text reached.at
  pub line : reached.place.line ≤ 1 + reached.at
  pub column : reached.place.column ≤ 1 + reached.at
  pub known : reached.blocks_end ≡ false → NoBlockEnds (left text reached.at)

-- the token that follows, and what is reached with it: it is the last, or whatever tokens stand
-- after it follow it
pub record IsNext (text : List ℕ) (here : Reached) (token : Token) (behind : Reached) : Type 0
  where
    pub last : is_final token.lexeme ≡ true → Lexes here.place (left text here.at) (token ∷ [])
    pub some : is_final token.lexeme ≡ false → here.at < behind.at
    pub more : is_final token.lexeme ≡ false → (tokens : List Token)
        → Lexes behind.place (left text behind.at) tokens
        → Lexes here.place (left text here.at) (token ∷ tokens)
