-- The values behind references.
use Rattle.std.specs.Prelude.{List, map}
use Rattle.std.specs.Borrow.{Bor}

abbrev pub all_behind : {X : Type 0} → List (Bor X) → List X
all_behind references = map (λ reference. reference.now) references
