-- The text of a value: as JSON (RFC 8259), without blanks, enums as strings, the members of an
-- object in their order; and as a literal.
use Rattle.std.specs.Prelude.{ℕ, ◌≤◌, ◌≢◌, ◌/◌, ◌%◌, nat_lt, ◌==◌, List, [], ◌∷◌, ◌++◌, map, codes}
use Rattle.std.specs.Prelude.{if◌then◌else◌}
use Rattle.std.specs.Char.{digit_char}
use Rattle.std.specs.Fmt.{signed_decimal}
use Rattle.std.specs.List.{flat_map}
use Rattle.gql_base.specs.Separated.{separated}
use Rattle.gql_base.specs.declared.json.Style.{Style}
use Rattle.gql_base.specs.declared.json.Style.TheVariants.{Json, Literal}
use Rattle.gql_base.specs.declared.value.Value.{Value}
use Rattle.gql_base.specs.declared.value.Value.TheOpen.{Value-F}
use Rattle.gql_base.specs.declared.value.Value.TheFolds.{fold-Value}

-- a byte of a string: quote, backslash and the characters under U+0020 have escapes, all else
-- stands as itself
abbrev pub escaped : ℕ → List ℕ
escaped byte =
    if byte == 34 then codes "\\\""
    else (if byte == 92 then codes "\\\\"
    else (if byte == 8 then codes "\\b"
    else (if byte == 9 then codes "\\t"
    else (if byte == 10 then codes "\\n"
    else (if byte == 12 then codes "\\f"
    else (if byte == 13 then codes "\\r"
    else (if nat_lt byte 32
    then codes "\\u00" ++ digit_char (byte / 16) ∷ digit_char (byte % 16) ∷ []
    else byte ∷ [])))))))

-- a byte that stands for itself
abbrev pub IsPlain : ℕ → Type 0
IsPlain byte = (32 ≤ byte) × (byte ≢ 34) × (byte ≢ 92)

abbrev pub quoted : List ℕ → List ℕ
quoted text = codes "\"" ++ (flat_map escaped text ++ codes "\"")

-- the two ways to write a value: as JSON, and as a literal of a document, with enums and keys bare
-- and blanks after commas and colons (GraphQL, October 2021, section 2.9)
abbrev pub comma_of : Style → List ℕ
comma_of Json = codes ","
comma_of Literal = codes ", "

abbrev pub colon_of : Style → List ℕ
colon_of Json = codes ":"
colon_of Literal = codes ": "

abbrev pub name_text : Style → List ℕ → List ℕ
name_text Json name = quoted name
name_text Literal name = name

-- a member, its value given by its text
abbrev pub member : Style → List ℕ × List ℕ → List ℕ
member style (name, text) = name_text style name ++ (colon_of style ++ text)

-- one level of a value, with the text of each value inside in its place
abbrev pub text_step : Style → Value-F (List ℕ) → List ℕ
text_step style Value-F.Null = codes "null"
text_step style (Value-F.Boolean truth) = if truth then codes "true" else codes "false"
text_step style (Value-F.Number number) = signed_decimal number
text_step style (Value-F.String text) = quoted text
text_step style (Value-F.Enum name) = name_text style name
text_step style (Value-F.List texts) = codes "[" ++ (separated (comma_of style) texts ++ codes "]")
text_step style (Value-F.Object members) =
    codes "{" ++ (separated (comma_of style) (map (member style) members) ++ codes "}")

abbrev pub value_text : Style → Value → List ℕ
value_text style = fold-Value (List ℕ) (text_step style)

-- the JSON text of a value, and its literal
abbrev pub json : Value → List ℕ
json = value_text Json

abbrev pub literal : Value → List ℕ
literal = value_text Literal
