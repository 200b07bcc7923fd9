-- The limits of a schema that sets none.
use Rattle.std.specs.Prelude.{ℕ}

-- how deep the sets of a document may lie
abbrev pub default_depth : ℕ
default_depth = 32
