-- Strings between single quotation marks (GraphQL, October 2021, section 2.9.4).
use Rattle.std.specs.Prelude.{◌≡◌, ℕ, ◌+◌, ◌*◌, ◌<◌, Bool, true, not, ◌&&◌, ◌||◌, ◌⊎◌, List, []}
use Rattle.std.specs.Prelude.{◌∷◌, ◌++◌}
use Rattle.std.specs.Prelude.{◌==◌, if◌then◌else◌, Option, Some, None, fold}
use Rattle.std.specs.Char.{digit_value, IsScalar}
use Rattle.std.specs.List.{AllByRecursion}
use Rattle.gql_tokens.specs.Characters.{line_feed, carriage_return, tab, quote, backslash}
use Rattle.gql_tokens.specs.Characters.{is_line_end, is_source}

-- a character that stands for itself in a string
abbrev pub is_plain : ℕ → Bool
is_plain c = (is_source c && not (is_line_end c)) && not (c == quote || c == backslash)

-- what a character after a backslash stands for
abbrev pub escaped : ℕ → Option ℕ
escaped c =
    if c == quote || (c == backslash || c == 47) then Some c
    else (if c == 98 then Some 8
    else (if c == 102 then Some 12
    else (if c == 110 then Some line_feed
    else (if c == 114 then Some carriage_return
    else (if c == 116 then Some tab
    else None)))))

-- the number that hexadecimal digits write
abbrev pub hexadecimal_of : List ℕ → ℕ
hexadecimal_of digits = fold (λ n c. 16 * n + digit_value c) 0 digits

-- `\u`, four hexadecimal digits: the character with this number, which is no surrogate
abbrev pub IsUnicodeEscape : ℕ → List ℕ → Type 0
IsUnicodeEscape v cs =
    (a : ℕ) × (b : ℕ) × (c : ℕ) × (d : ℕ) × (cs ≡ backslash ∷ 117 ∷ a ∷ b ∷ c ∷ d ∷ [])
    × AllByRecursion (λ h. digit_value h < 16) (a ∷ b ∷ c ∷ d ∷ [])
    × (v ≡ hexadecimal_of (a ∷ b ∷ c ∷ d ∷ []))
    × IsScalar v

-- how a character is written in a string: as itself, by an escape, or by its number
abbrev pub WritesCharacter : ℕ → List ℕ → Type 0
WritesCharacter v cs =
    ((cs ≡ v ∷ []) × (is_plain v ≡ true))
    ⊎ (((c : ℕ) × (cs ≡ backslash ∷ c ∷ []) × (escaped c ≡ Some v)) ⊎ IsUnicodeEscape v cs)

-- how a string's characters are written one after another
abbrev pub WritesCharacters : List ℕ → List ℕ → Type 0
WritesCharacters [] cs = cs ≡ []
WritesCharacters (v ∷ vs) cs =
    (first : List ℕ) × (others : List ℕ) × (cs ≡ first ++ others) × WritesCharacter v first
    × WritesCharacters vs others

-- a string with this value
abbrev pub IsString : List ℕ → List ℕ → Type 0
IsString value cs =
    (body : List ℕ) × (cs ≡ quote ∷ body ++ quote ∷ []) × WritesCharacters value body
