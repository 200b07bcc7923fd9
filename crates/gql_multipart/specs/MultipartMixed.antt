-- Bodies of `multipart/mixed` with the boundary `graphql` (RFC 2046, section 5.1), a JSON text a
-- part.
use Rattle.std.specs.Prelude.{ℕ, List, [], ◌∷◌, ◌++◌, codes}

-- CR and LF
abbrev pub line_end : List ℕ
line_end = 13 ∷ 10 ∷ []

-- what stands before the JSON text: the boundary, the type, and an empty line
abbrev pub part_head : List ℕ
part_head =
    codes "--graphql"
    ++ (line_end ++ (codes "Content-Type: application/json" ++ (line_end ++ line_end)))

-- a part, with its JSON text
abbrev pub part : List ℕ → List ℕ
part json = part_head ++ (json ++ line_end)

-- what ends a body, after its last part
abbrev pub body_end : List ℕ
body_end = codes "--graphql--" ++ line_end
