-- Turns by a list of numbers, and the place of the next one.
use Rattle.std.specs.Prelude.{ℕ, suc, ◌%◌, List, Option, Some, None, slice_get}
use Rattle.gql_tasks.specs.Record.{Choice}

abbrev pub chosen_by : Option ℕ → ℕ → ℕ
chosen_by None n = 0
chosen_by (Some number) n = number % n

-- the next number's remainder chooses among n tasks, and where the list is used up the first of
-- them
abbrev pub list_choice : List ℕ × ℕ → ℕ → ℕ
list_choice state n = chosen_by (slice_get state.0 state.1) n

abbrev pub place_after : Option ℕ → ℕ → ℕ
place_after None place = place
place_after (Some number) place = suc place

-- the place goes on by one, up to the end of the list
abbrev pub list_after : List ℕ × ℕ → ℕ → List ℕ × ℕ
list_after state n = (state.0, place_after (slice_get state.0 state.1) state.1)

-- how such turns choose
abbrev pub list_turns : Choice (List ℕ × ℕ)
list_turns = record { place = list_choice; after = list_after }
