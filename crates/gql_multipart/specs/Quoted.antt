-- Quoted strings, and values of parameters (RFC 9110, sections 5.6.4 and 5.6.6).
use Rattle.std.specs.Prelude.{ℕ, ◌+◌, ◌==◌, Bool, true, false, ◌&&◌, not, List, [], ◌∷◌}
use Rattle.std.specs.Prelude.{Option, Some, None, take, drop, if◌then◌else◌}
use Rattle.std.specs.Option.{option_map}
use Rattle.gql_multipart.specs.Token.{token_at}

-- `"` ends a quoted string, but not after a backslash that escapes it
abbrev pub ends : Bool → ℕ → Bool
ends escaped c = not escaped && c == 34

-- `\` escapes the character after it, and is itself plain where it's escaped
abbrev pub escapes : Bool → ℕ → Bool
escapes escaped c = not escaped && c == 92

-- the place of the quote that ends a quoted string
abbrev pub closing : Bool → List ℕ → Option ℕ
closing escaped [] = None
closing escaped (c ∷ cs) =
    if ends escaped c then Some 0
    else option_map (λ n. n + 1) (closing (escapes escaped c) cs)

-- a text without the backslashes that escape
abbrev pub unescaped : Bool → List ℕ → List ℕ
unescaped escaped [] = []
unescaped escaped (c ∷ cs) =
    if escapes escaped c then unescaped true cs else c ∷ unescaped false cs

-- what is said by a text between quotes
abbrev pub said : List ℕ → List ℕ
said text = unescaped false text

-- what a quoted string says, whose first quote stands before the text, and what is after it
abbrev pub string_at : List ℕ → Option (List ℕ × List ℕ)
string_at text =
    option_map (λ end. (said (take end text), drop (end + 1) text)) (closing false text)

-- the value that a text begins with, a quoted string or a token, and what is after it
abbrev pub value_at : List ℕ → Option (List ℕ × List ℕ)
value_at [] = None
value_at (c ∷ cs) = if c == 34 then string_at cs else token_at (c ∷ cs)
