-- The words of the program.
use Rattle.std.specs.Prelude.{◌≡◌, ℕ, ◌≤◌, List, [], ◌∷◌, codes, Option, Some, None}
use Rattle.std.specs.Fmt.{decimal}
use Rattle.gql_form.specs.declared.command.Command.{Command}
use Rattle.gql_form.specs.declared.command.Command.TheVariants.{Batch, Execute, Record, Stream}
use Rattle.gql_form.specs.declared.command.Command.TheVariants.{Threads, Ws}

-- the words that ask for a command; for one that isn't built there are none
abbrev pub words_for : Command → Option (List (List ℕ))
words_for Execute = Some (codes "execute" ∷ [])
words_for Record = Some (codes "record" ∷ [])
words_for Batch = Some (codes "batch" ∷ [])
words_for Threads = None
words_for Stream = None
words_for Ws = None

-- a word asks for so many rows: 1 to 10,000, in decimal
abbrev pub IsRowCount : ℕ → List ℕ → Type 0
IsRowCount rows word = (1 ≤ rows) × (rows ≤ 10000) × (word ≡ decimal rows)

-- the words ask for a load of so many rows
abbrev pub IsLoad : ℕ → List (List ℕ) → Type 0
IsLoad rows words =
    (count : List ℕ) × IsRowCount rows count × (words ≡ codes "load" ∷ count ∷ [])
