-- Live starts in order, and what is found among them.
use Rattle.std.specs.Prelude.{ℕ, suc, ◌==◌, ◌&&◌, Bool, List, [], ◌∷◌, Option, Some, None}
use Rattle.std.specs.Prelude.{if◌then◌else◌}
use Rattle.std.specs.Prelude.{bytes_eq, option_map}
use Rattle.gql_ws.specs.declared.live.Live.{Live}

abbrev pub has_id : List ℕ → Live → Bool
has_id id start = bytes_eq start.id id

abbrev pub has_number : ℕ → Live → Bool
has_number number start = start.number == number

abbrev pub is_start : ℕ → List ℕ → Live → Bool
is_start number id start = has_number number start && has_id id start

-- the first start that passes a test
abbrev pub found : (Live → Bool) → List Live → Option Live
found test [] = None
found test (start ∷ rest) = if test start then Some start else found test rest

-- the starts without the first that passes a test
abbrev pub without : (Live → Bool) → List Live → List Live
without test [] = []
without test (start ∷ rest) = if test start then rest else start ∷ without test rest

-- the place of the first start that passes a test, counted from 0, or the end without one
abbrev pub place_in : (Live → Bool) → List Live → ℕ
place_in test [] = 0
place_in test (start ∷ rest) = if test start then 0 else suc (place_in test rest)

-- the number of the start of an id
abbrev pub number_of : List ℕ → List Live → Option ℕ
number_of id live = option_map (λ start. start.number) (found (has_id id) live)

abbrev pub live_start : List ℕ → ℕ → Live
live_start id number = record { id = id; number = number }

-- the starts with one more: in the place of that of its id, or at the end
abbrev pub placed : List ℕ → ℕ → List Live → List Live
placed id number [] = live_start id number ∷ []
placed id number (start ∷ rest) =
    if has_id id start then live_start id number ∷ rest else start ∷ placed id number rest
