-- Lines of the input: headings and cases.
use Rattle.std.specs.Prelude.{ℕ, Bool, true, List, [], ◌∷◌, ◌==◌}

-- whether a line is no case: it is empty, or begins with `#`
abbrev pub is_heading : List ℕ → Bool
is_heading [] = true
is_heading (first ∷ _) = first == 35
