-- Reading one after another.
use Rattle.std.specs.Prelude.{Option, Some, None}

-- what is read next, where the first was read
infixl 10 ◌>>=◌
abbrev pub ◌>>=◌ : {A B : Type 0} → Option A → (A → Option B) → Option B
None >>= f = None
(Some x) >>= f = f x
