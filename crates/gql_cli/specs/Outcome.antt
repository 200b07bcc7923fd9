-- What a run of the program has to write, and with which status.
use Rattle.std.specs.Prelude.{ℕ, List, [], ◌∷◌, ◌++◌, codes}
use Rattle.gql_cli.specs.declared.outcome.Outcome.{Outcome}
use Rattle.gql_cli.specs.declared.outcome.Outcome.TheVariants.{Answered, BadSchema}
use Rattle.gql_cli.specs.declared.outcome.Outcome.TheVariants.{BadShape, HasErrors}
use Rattle.gql_cli.specs.declared.outcome.Outcome.TheVariants.{Loaded, NotBuilt, NotJson}
use Rattle.gql_cli.specs.declared.outcome.Outcome.TheVariants.{ReadFault, TooLong}
use Rattle.gql_cli.specs.declared.outcome.Outcome.TheVariants.{Usage}

-- a text and the end of its line
abbrev pub line : List ℕ → List ℕ
line text = text ++ 10 ∷ []

-- the status once the whole text is written
abbrev pub due_status : Outcome → ℕ
due_status Usage = 2
due_status ReadFault = 4
due_status TooLong = 7
due_status NotJson = 3
due_status (BadShape place) = 3
due_status NotBuilt = 3
due_status (BadSchema text) = 3
due_status (Answered text) = 0
due_status (HasErrors text) = 1
due_status (Loaded text) = 0

-- the text that is to be written
abbrev pub due_text : Outcome → List ℕ
due_text Usage =
    line (codes "usage: gqlrun execute | record | batch | threads | stream | ws | load N")
due_text ReadFault = line (codes "input: read fault")
due_text TooLong = line (codes "input: too long")
due_text NotJson = line (codes "bench: not JSON")
due_text (BadShape text) = text
due_text NotBuilt = line (codes "bench: not built yet")
due_text (BadSchema text) = text
due_text (Answered text) = text
due_text (HasErrors text) = text
due_text (Loaded text) = text
