-- The lines of a block string, and its value (GraphQL, October 2021, section 2.9.4,
-- BlockStringValue).
use Rattle.std.specs.Prelude.{ℕ, List, [], ◌∷◌, ◌==◌, if◌then◌else◌, Bool, Option, Some, None, min}
use Rattle.std.specs.Prelude.{map, drop}
use Rattle.std.specs.Prelude.{reverse, fold, length, unwrap_or}
use Rattle.std.specs.List.{prefix_len, join_with_byte}
use Rattle.gql_tokens.specs.Characters.{line_feed, carriage_return, is_blank}
use Rattle.gql_tokens.specs.Place.{ends_line}

-- lines of which the first has one more character at its front
abbrev pub with_first : ℕ → List (List ℕ) → List (List ℕ)
with_first c [] = (c ∷ []) ∷ []
with_first c (line ∷ lines) = (c ∷ line) ∷ lines

-- the lines of a text, without their ends
abbrev pub lines_of : List ℕ → List (List ℕ)
lines_of [] = [] ∷ []
lines_of (c ∷ cs) =
    if ends_line c cs then [] ∷ lines_of cs
    else (if c == carriage_return then lines_of cs else with_first c (lines_of cs))

-- how many tabs and blanks a line begins with
abbrev pub indent_of : List ℕ → ℕ
indent_of line = prefix_len is_blank line

-- the line holds tabs and blanks alone
abbrev pub is_blank_line : List ℕ → Bool
is_blank_line line = indent_of line == length line

-- the least of an indent and those so far, if there are any
abbrev pub least_with : Option ℕ → ℕ → ℕ
least_with None indent = indent
least_with (Some least) indent = min least indent

-- the least indent so far and with one more line, where that holds another character than tabs and
-- blanks
abbrev pub with_line : Option ℕ → List ℕ → Option ℕ
with_line least line =
    if is_blank_line line then least else Some (least_with least (indent_of line))

-- the least indent of the lines that hold another character than tabs and blanks, if there is such
-- a line
abbrev pub common_indent : List (List ℕ) → Option ℕ
common_indent lines = fold with_line None lines

-- lines without their common indent
abbrev pub without_common_indent : List (List ℕ) → List (List ℕ)
without_common_indent lines = map (drop (unwrap_or (common_indent lines) 0)) lines

-- the first line, and the others without their common indent
abbrev pub without_indent : List (List ℕ) → List (List ℕ)
without_indent [] = []
without_indent (first ∷ others) = first ∷ without_common_indent others

-- the lines without the first ones that hold tabs and blanks alone
abbrev pub without_first_blank : List (List ℕ) → List (List ℕ)
without_first_blank [] = []
without_first_blank (line ∷ lines) =
    if is_blank_line line then without_first_blank lines else line ∷ lines

-- the lines without the last ones that hold tabs and blanks alone
abbrev pub without_last_blank : List (List ℕ) → List (List ℕ)
without_last_blank lines = reverse (without_first_blank (reverse lines))

-- the value of a block string, from what stands between its quotes
abbrev pub block_value : List ℕ → List ℕ
block_value raw =
    join_with_byte line_feed
    (without_last_blank (without_first_blank (without_indent (lines_of raw))))
