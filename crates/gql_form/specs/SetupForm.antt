-- What a bench has for every command: its schema, and what runs over it start with.
use Rattle.std.specs.Prelude.{ℕ, List, [], ◌∷◌, codes, Option, Some, None, Ok, Err}
use Rattle.std.specs.Prelude.{if◌then◌else◌}
use Rattle.std.specs.Option.{unwrap_or}
use Rattle.std.specs.Str.{bytes_eq}
use Rattle.serde_json.specs.Data.{Data}
use Rattle.gql_base.specs.ReadJson.{Reading}
use Rattle.gql_base.specs.declared.value.Value.TheVariants as value
use Rattle.gql_form.specs.declared.answered.Answered as answered
use Rattle.gql_form.specs.declared.answered.Answered.{Answered}
use Rattle.gql_form.specs.declared.setup_form.HooksForm.{HooksForm}
use Rattle.gql_form.specs.declared.setup_form.HooksForm.TheVariants as hooks_form
use Rattle.gql_form.specs.declared.setup_form.SetupForm.{SetupForm}
use Rattle.gql_form.specs.Answered.{answered_of}
use Rattle.gql_form.specs.Plain.{text_of, count_of, signed_of, ◌>>=◌}
use Rattle.gql_form.specs.Read.{member, optional, listed}
use Rattle.gql_form.specs.SchemaForm.{schema_of}

abbrev pub hooks_of : Data → Reading HooksForm
hooks_of json = do
  word ← text_of json
  if bytes_eq word (codes "none") then Ok hooks_form.None
      else (if bytes_eq word (codes "log") then Ok hooks_form.Log else Err [])

abbrev pub null_or : Option Answered → Answered
null_or None = answered.Value value.Null
null_or (Some root) = root

abbrev pub setup_words : List (List ℕ)
setup_words =
    codes "schema" ∷ codes "cells" ∷ codes "root" ∷ codes "turns" ∷ codes "hooks" ∷ []

-- the members of a bench before the command's own, where it has so many cells
abbrev pub setup_of : ℕ → Data → Reading SetupForm
setup_of cells json = do
  schema ← member (codes "schema") (schema_of cells) json
  numbers ← listed (codes "cells") signed_of json
  root ← optional (codes "root") answered_of json
  turns ← listed (codes "turns") count_of json
  hooks ← optional (codes "hooks") hooks_of json
  Ok (record {
    schema = schema;
    cells = numbers;
    root = null_or root;
    turns = turns;
    hooks = unwrap_or hooks hooks_form.None;
  })
