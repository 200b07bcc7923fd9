-- Texts one after another with a separator between them.
use Rattle.std.specs.Prelude.{ℕ, zero, suc, List, [], ◌∷◌, ◌++◌}
use Rattle.std.specs.List.{flat_map}

-- the parts, with the separator before each but the first
abbrev pub separated : List ℕ → List (List ℕ) → List ℕ
separated separator [] = []
separated separator (part ∷ parts) = part ++ flat_map (λ next. separator ++ next) parts

-- what stands before the part at a place: the separator, and nothing before the first
abbrev pub before : List ℕ → ℕ → List ℕ
before separator zero = []
before separator (suc place) = separator
