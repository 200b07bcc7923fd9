-- What resolvers do to a cell.
use Rattle.std.specs.Prelude.{◌==◌, ◌+◌, ◌%◌, ◌^◌, if◌then◌else◌, ℕ}

-- resolver 1 bumps it, every other one leaves it
abbrev pub bumped : ℕ → ℕ → ℕ
bumped resolver cell = if resolver == 1 then (cell + 1) % 2 ^ 64 else cell
