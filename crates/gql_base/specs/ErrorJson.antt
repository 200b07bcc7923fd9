-- The JSON text of errors (GraphQL, October 2021, section 7.1.2), without blanks.
use Rattle.std.specs.Prelude.{ℕ, List, [], ◌∷◌, ◌++◌, map, codes, Option, Some, None}
use Rattle.std.specs.Fmt.{decimal}
use Rattle.gql_base.specs.Json.{quoted, json}
use Rattle.gql_base.specs.Separated.{separated}
use Rattle.gql_base.specs.declared.path_segment.PathSegment.{PathSegment}
use Rattle.gql_base.specs.declared.path_segment.PathSegment.TheVariants.{Field, Index}
use Rattle.gql_base.specs.declared.pos.Pos.{Pos}
use Rattle.gql_base.specs.declared.server_error.ServerError.{ServerError}
use Rattle.gql_base.specs.declared.value.Value.{Value}
use Rattle.gql_base.specs.declared.value.Value.TheVariants.{Object}

abbrev pub list_json : {T : Type 0} → (T → List ℕ) → List T → List ℕ
list_json text items = codes "[" ++ (separated (codes ",") (map text items) ++ codes "]")

abbrev pub location_json : Pos → List ℕ
location_json pos =
    codes "{\"line\":"
    ++ (decimal pos.line ++ (codes ",\"column\":" ++ (decimal pos.column ++ codes "}")))

-- keys are strings and places are numbers
abbrev pub segment_json : PathSegment → List ℕ
segment_json (Field key) = quoted key
segment_json (Index place) = decimal place

-- the members after the message, each if there is something in it
abbrev pub locations_member : List Pos → List ℕ
locations_member [] = []
locations_member (pos ∷ others) = codes ",\"locations\":" ++ list_json location_json (pos ∷ others)

abbrev pub path_member : List PathSegment → List ℕ
path_member [] = []
path_member (segment ∷ others) = codes ",\"path\":" ++ list_json segment_json (segment ∷ others)

abbrev pub extensions_member : Option (List (List ℕ × Value)) → List ℕ
extensions_member None = []
extensions_member (Some []) = []
extensions_member (Some (pair ∷ others)) = codes ",\"extensions\":" ++ json (Object (pair ∷ others))

abbrev pub error_json : ServerError → List ℕ
error_json error =
    codes "{\"message\":"
    ++ (quoted error.message
    ++ (locations_member error.locations
    ++ (path_member error.path ++ (extensions_member error.extensions ++ codes "}"))))
