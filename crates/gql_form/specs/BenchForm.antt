-- The whole bench of a command, read in the order of its members.
use Rattle.std.specs.Prelude.{ℕ, List, [], ◌∷◌, codes, Option, Some, None, Result, Ok, Err}
use Rattle.serde_json.specs.Data.{Data, Items}
use Rattle.serde_json.specs.Events.{items_len}
use Rattle.serde_json.specs.Find.{get, as_array}
use Rattle.gql_base.specs.ReadJson.{Reading}
use Rattle.gql_form.specs.declared.bench_form.BenchForm.{BenchForm}
use Rattle.gql_form.specs.declared.command.Command.{Command}
use Rattle.gql_form.specs.Place.{place_text}
use Rattle.gql_form.specs.Plain.{◌>>=◌}
use Rattle.gql_form.specs.Read.{only}
use Rattle.gql_form.specs.SetupForm.{setup_of}
use Rattle.gql_form.specs.WorkForm.{own_word, work_in}

abbrev pub length_or_none : Option Items → ℕ
length_or_none None = 0
length_or_none (Some items) = items_len items

abbrev pub list_length : Option Data → ℕ
list_length None = 0
list_length (Some json) = length_or_none (as_array json)

-- how many cells a bench has: none where its member is no list
abbrev pub cell_count : Data → ℕ
cell_count json = list_length (get (codes "cells") json)

abbrev pub bench_words : Command → List (List ℕ)
bench_words command =
    codes "schema" ∷ codes "cells" ∷ codes "root" ∷ codes "turns" ∷ codes "hooks" ∷ own_word command
    ∷ []

-- a bench of so many cells
abbrev pub bench_of : ℕ → Command → Data → Reading BenchForm
bench_of cells command json = do
  setup ← setup_of cells json
  work ← work_in command json
  _ ← only (bench_words command) json
  Ok (record { setup = setup; work = work })

-- a bench, or the text of its first bad place
abbrev pub told : Reading BenchForm → Result BenchForm (List ℕ)
told (Ok bench) = Ok bench
told (Err place) = Err (place_text place)

-- what a command reads of a bench
abbrev pub form_in : Command → Data → Result BenchForm (List ℕ)
form_in command json = told (bench_of (cell_count json) command json)
