-- Bytes, and the characters that they are in UTF-8.
use Rattle.std.specs.Prelude.{◌≡◌, ℕ, ◌+◌, ◌≤◌, false, List, ◌++◌, length, take, drop}
use Rattle.std.specs.Str.{chars, IsCharBoundary}
use Rattle.gql_base.specs.declared.pos.Pos.{Pos}
use Rattle.gql_tokens.specs.declared.token.Lexeme.{Lexeme}
use Rattle.gql_tokens.specs.declared.token.Token.{Token}
use Rattle.gql_tokens.specs.Gap.{IsGap}
use Rattle.gql_tokens.specs.Place.{place_after}
use Rattle.gql_tokens.specs.Parts.{IsStringAt, IsBodyAt, IsBlockAt, StandsAt, IsStep}

-- the first k bytes of a text are its first n characters
pub record IsCut (bytes : List ℕ) (k n : ℕ) : Type 0 where
  pub boundary : IsCharBoundary bytes k
  pub front : chars (take k bytes) ≡ take n (chars bytes)
  pub behind : chars (drop k bytes) ≡ drop n (chars bytes)
  pub within : n ≤ length (chars bytes)
  pub fewer : n ≤ k

-- the first k bytes are what is ignored, and this is the place after them
abbrev pub IsGapIn : Pos → List ℕ → ℕ → Pos → Type 0
IsGapIn place bytes k behind =
    (n : ℕ) × IsCut bytes k n × IsGap false (take n (chars bytes)) (drop n (chars bytes))
    × (behind ≡ place_after place (take n (chars bytes)) (drop n (chars bytes)))

-- characters that are ignored with whatever is ignored after them
abbrev pub AreIgnored : List ℕ → List ℕ → Type 0
AreIgnored cs behind =
    (more rest : List ℕ) → behind ≡ more ++ rest → IsGap false more rest
    → IsGap false (cs ++ more) rest

-- The first k bytes are ignored with whatever is ignored after them, and this is the place after
-- them.
pub record IsIgnoredIn (place : Pos) (bytes : List ℕ) (k : ℕ) (behind : Pos) : Type 0 where
  pub count : ℕ
  pub cut : IsCut bytes k count
  pub ignored : AreIgnored (take count (chars bytes)) (drop count (chars bytes))
  pub place_is : behind ≡ place_after place (take count (chars bytes)) (drop count (chars bytes))
  pub line : behind.line ≤ place.line + k
  pub column : behind.column ≤ place.column + k

-- the first k bytes are a string of this value, in UTF-8
abbrev pub IsStringIn : List ℕ → List ℕ → ℕ → Type 0
IsStringIn bytes value k = (n : ℕ) × IsCut bytes k n × IsStringAt (chars bytes) value n

-- the first k bytes are a block string, and this stands between its quotes, in UTF-8
abbrev pub IsBodyIn : List ℕ → List ℕ → ℕ → Type 0
IsBodyIn bytes raw k = (n : ℕ) × IsCut bytes k n × IsBodyAt (chars bytes) (chars raw) n

-- the first k bytes are a block string of this value, in UTF-8
abbrev pub IsBlockIn : List ℕ → List ℕ → ℕ → Type 0
IsBlockIn bytes value k = (n : ℕ) × IsCut bytes k n × IsBlockAt (chars bytes) value n

-- what stands at the front of a text's bytes: how the tokens end, or a token of k bytes
abbrev pub StandsIn : Lexeme → ℕ → List ℕ → Type 0
StandsIn lexeme k bytes = (n : ℕ) × IsCut bytes k n × StandsAt lexeme n (chars bytes)

-- the first token of a text's bytes and what is ignored before it reach k bytes far
abbrev pub IsStepIn : Pos → List ℕ → Token → ℕ → Pos → Type 0
IsStepIn place bytes token k behind =
    (n : ℕ) × IsCut bytes k n × IsStep place (chars bytes) token n behind
