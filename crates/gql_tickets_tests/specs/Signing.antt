-- What is written into a guest book.
use Rattle.std.specs.Prelude.{◌≡◌, ◌<◌, ◌^◌, ◌++◌, ℕ, Bool, true, false, [], ◌∷◌, length}
use Rattle.gql_tickets_tests.specs.declared.guestbook.Guestbook.{Guestbook}
use Rattle.gql_tickets_tests.specs.declared.guestbook.Line.{Line}

-- a line of this guest was added, or none
abbrev pub Wrote : ℕ → Guestbook → Guestbook → Bool → Type 0
Wrote guest old new true = (line : Line) × (line.guest ≡ guest)
    × (new.lines.items ≡ old.lines.items ++ line ∷ []) × (length new.lines.items < 2 ^ 63)
Wrote guest old new false = new.lines.items ≡ old.lines.items
