-- The names of an object's members, as they are asked one after another.
use Rattle.std.specs.Prelude.{ℕ, List, [], ◌∷◌, ◌++◌}

-- the names that were asked earlier, and then these
abbrev pub asked_after : List (List ℕ) → List (List ℕ) → List (List ℕ)
asked_after earlier [] = earlier
asked_after earlier (name ∷ names) = asked_after (earlier ++ name ∷ []) names
