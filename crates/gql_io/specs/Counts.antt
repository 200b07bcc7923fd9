-- Counts that never fall, and that may be kept in 64 bits.
use Rattle.std.specs.Prelude.{◌≡◌, ◌⊎◌, ℕ, ◌+◌, ◌-◌, ◌^◌, ◌<◌, ◌≤◌, min}

-- the count stands at the end of 64 bits, from where a stored one can't rise
abbrev pub IsFull : ℕ → Type 0
IsFull count = 2 ^ 64 - 1 ≤ count

-- the count rose, or it can't
abbrev pub HasRisen : ℕ → ℕ → Type 0
HasRisen old new = (old < new) ⊎ IsFull new

-- the count rose by n, unless it is full
abbrev pub RisesBy : ℕ → ℕ → ℕ → Type 0
RisesBy old new n = (new ≡ old + n) ⊎ IsFull new

-- one more, as far as 64 bits count
abbrev pub one_more : ℕ → ℕ
one_more count = min (count + 1) (2 ^ 64 - 1)
