-- The first thing that is found among some.
use Rattle.std.specs.Prelude.{List, [], ◌∷◌, Option, None}
use Rattle.std.specs.Option.{option_or}

-- what the first item gives that gives something
abbrev pub first_found : {A B : Type 0} → (A → Option B) → List A → Option B
first_found find [] = None
first_found find (x ∷ xs) = option_or (find x) (first_found find xs)
