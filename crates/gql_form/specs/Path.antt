-- A path into the arguments: names joined by dots.
use Rattle.std.specs.Prelude.{ℕ, ◌==◌, List, [], ◌∷◌, ◌++◌, Ok, Err, if◌then◌else◌}
use Rattle.std.specs.List.{list_all}
use Rattle.serde_json.specs.Data.{Data}
use Rattle.gql_base.specs.Letters.{is_name}
use Rattle.gql_base.specs.ReadJson.{Reading}
use Rattle.gql_form.specs.declared.path.Path.{Path}
use Rattle.gql_form.specs.Plain.{text_of, ◌>>=◌}

abbrev pub dot : ℕ
dot = 46

-- the parts of a text between its dots, where this much of the first part was read before
abbrev pub parts_from : List ℕ → List ℕ → List (List ℕ)
parts_from part [] = part ∷ []
parts_from part (c ∷ cs) =
    if c == dot then part ∷ parts_from [] cs else parts_from (part ++ c ∷ []) cs

abbrev pub parts : List ℕ → List (List ℕ)
parts text = parts_from [] text

abbrev pub path_of : Data → Reading Path
path_of json = do
  text ← text_of json
  if list_all is_name (parts text) then Ok (record { names = parts text }) else Err []
