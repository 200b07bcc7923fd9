-- The first thing that is found among some.
use Rattle.std.specs.Prelude.{List, [], ◌∷◌, Option, None}
use Rattle.std.specs.Option.{option_or}

-- what looking at these one after another finds first
abbrev pub first_in : {A B : Type 0} → (A → Option B) → List A → Option B
first_in find [] = None
first_in find (x ∷ xs) = option_or (find x) (first_in find xs)
