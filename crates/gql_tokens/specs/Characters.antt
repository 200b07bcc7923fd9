-- Characters, by what they are to tokens (GraphQL, October 2021, section 2.1). A character is its
-- Unicode scalar value.
use Rattle.std.specs.Prelude.{ℕ, Bool, false, not, ◌&&◌, ◌||◌, List, [], ◌∷◌, ◌==◌, nat_le}

abbrev pub tab : ℕ
tab = 9

abbrev pub line_feed : ℕ
line_feed = 10

abbrev pub carriage_return : ℕ
carriage_return = 13

abbrev pub space : ℕ
space = 32

abbrev pub quote : ℕ
quote = 34

abbrev pub hash : ℕ
hash = 35

abbrev pub plus : ℕ
plus = 43

abbrev pub comma : ℕ
comma = 44

abbrev pub minus : ℕ
minus = 45

abbrev pub full_stop : ℕ
full_stop = 46

abbrev pub digit_zero : ℕ
digit_zero = 48

abbrev pub backslash : ℕ
backslash = 92

abbrev pub byte_order_mark : ℕ
byte_order_mark = 65279

-- white space (section 2.1.2)
abbrev pub is_blank : ℕ → Bool
is_blank c = c == tab || c == space

-- of a line's end (section 2.1.3)
abbrev pub is_line_end : ℕ → Bool
is_line_end c = c == line_feed || c == carriage_return

abbrev pub is_line_character : ℕ → Bool
is_line_character c = not (is_line_end c)

-- what may stand in strings and comments (section 2.1): tab, the ends of lines, and every character
-- from U+0020 on
abbrev pub is_source : ℕ → Bool
is_source c = (c == tab || is_line_end c) || nat_le space c

-- what stands in a comment after its `#` (section 2.1.4)
abbrev pub is_comment_character : ℕ → Bool
is_comment_character c = is_source c && not (is_line_end c)

-- a character that is ignored between tokens (section 2.1.7)
abbrev pub is_ignored : ℕ → Bool
is_ignored c = (c == byte_order_mark || is_blank c) || (is_line_end c || c == comma)

-- the text begins with such a character
abbrev pub begins : (ℕ → Bool) → List ℕ → Bool
begins test [] = false
begins test (c ∷ cs) = test c
