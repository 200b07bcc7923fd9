-- Tokens (GraphQL, October 2021, section 2.1.6).
use Rattle.std.specs.Prelude.{◌≡◌, ℕ, Bool, true, false, ◌⊎◌, List, [], ◌∷◌, ◌++◌, encode_utf8_all}
use Rattle.gql_tokens.specs.declared.token.Punctuator.{Punctuator}
use Rattle.gql_tokens.specs.declared.token.Punctuator.TheVariants as punctuators
use Rattle.gql_tokens.specs.declared.token.Lexeme.{Lexeme}
use Rattle.gql_tokens.specs.declared.token.Lexeme.TheVariants as lexemes
use Rattle.gql_tokens.specs.Characters.{full_stop, begins}
use Rattle.gql_tokens.specs.Name.{IsName}
use Rattle.gql_tokens.specs.Number.{IsInteger, IsFloat, IsSupported, integer_of}
use Rattle.gql_tokens.specs.Number.{is_bad_after_number}
use Rattle.gql_tokens.specs.String.{IsString}
use Rattle.gql_tokens.specs.Block.{IsBlockString}

-- the characters of a punctuator (section 2.1.8)
abbrev pub characters_of : Punctuator → List ℕ
characters_of punctuators.Bang = 33 ∷ []
characters_of punctuators.Dollar = 36 ∷ []
characters_of punctuators.Ampersand = 38 ∷ []
characters_of punctuators.OpenParen = 40 ∷ []
characters_of punctuators.CloseParen = 41 ∷ []
characters_of punctuators.Spread = full_stop ∷ full_stop ∷ full_stop ∷ []
characters_of punctuators.Colon = 58 ∷ []
characters_of punctuators.Equals = 61 ∷ []
characters_of punctuators.At = 64 ∷ []
characters_of punctuators.OpenBracket = 91 ∷ []
characters_of punctuators.CloseBracket = 93 ∷ []
characters_of punctuators.OpenBrace = 123 ∷ []
characters_of punctuators.Pipe = 124 ∷ []
characters_of punctuators.CloseBrace = 125 ∷ []

-- the characters spell what the token says
abbrev pub Spells : Lexeme → List ℕ → Type 0
Spells (lexemes.Punctuator punctuator) cs = cs ≡ characters_of punctuator
Spells (lexemes.Name name) cs = IsName cs × (name ≡ encode_utf8_all cs)
Spells (lexemes.Number number) cs = IsInteger cs × (number ≡ integer_of cs) × IsSupported number
Spells (lexemes.String text) cs =
    (value : List ℕ) × (IsString value cs ⊎ IsBlockString value cs) × (text ≡ encode_utf8_all value)
Spells lexemes.End cs = ⊥
Spells lexemes.Unexpected cs = ⊥
Spells lexemes.Unsupported cs = IsFloat cs ⊎ (IsInteger cs × ¬ (IsSupported (integer_of cs)))

-- what may follow a token: after a number no digit, `.` or name
abbrev pub MayPrecede : Lexeme → List ℕ → Type 0
MayPrecede (lexemes.Number number) rest = begins is_bad_after_number rest ≡ false
MayPrecede lexemes.Unsupported rest = begins is_bad_after_number rest ≡ false
MayPrecede _ rest = Unit {0}

-- the characters, which `rest` follows, are a token: no more of them spell one
pub record IsToken (lexeme : Lexeme) (cs rest : List ℕ) : Type 0 where
  pub spelled : Spells lexeme cs
  pub longest : (other : Lexeme) (c : ℕ) (more after : List ℕ) → rest ≡ c ∷ more ++ after
      → Spells other (cs ++ c ∷ more) → ⊥
  pub ends : MayPrecede lexeme rest

-- the lexemes that end a list of tokens
abbrev pub is_final : Lexeme → Bool
is_final lexemes.End = true
is_final lexemes.Unexpected = true
is_final lexemes.Unsupported = true
is_final _ = false
