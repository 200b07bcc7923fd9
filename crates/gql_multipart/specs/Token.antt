-- Tokens, and the blanks around them (RFC 9110, sections 5.6.2 and 5.6.3).
use Rattle.std.specs.Prelude.{ℕ, ◌-◌, ◌==◌, Bool, ◌||◌, List, [], ◌∷◌, Option, Some, None, length}
use Rattle.std.specs.Prelude.{take, drop, codes, if◌then◌else◌}
use Rattle.std.specs.List.{list_any, prefix_len, suffix_len}
use Rattle.std.specs.Char.{is_ascii_alphanumeric}

-- a character of a token: an ASCII letter, a digit or one of these marks
unfoldable pub is_token_character : ℕ → Bool
is_token_character c =
    is_ascii_alphanumeric c || list_any (λ mark. mark == c) (codes "!#$%&'*+-.^_`|~")

-- a blank or a tab
abbrev pub is_blank : ℕ → Bool
is_blank c = c == 9 || c == 32

-- a text without the blanks at its front
abbrev pub unspaced : List ℕ → List ℕ
unspaced text = drop (prefix_len is_blank text) text

-- a text without the blanks at both ends
abbrev pub trimmed : List ℕ → List ℕ
trimmed text = let rest = unspaced text in take (length rest - suffix_len is_blank rest) rest

-- the token that a text begins with, as long as can be, and what is after it
abbrev pub token_at : List ℕ → Option (List ℕ × List ℕ)
token_at text =
    let n = prefix_len is_token_character text in
    if n == 0 then None else Some (take n text, drop n text)

-- what is after a character, where a text begins with it
abbrev pub behind : ℕ → List ℕ → Option (List ℕ)
behind c [] = None
behind c (d ∷ ds) = if d == c then Some ds else None
