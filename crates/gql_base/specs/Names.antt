-- Lists of names, as contracts see `Names`. A name is the list of its bytes.
use Rattle.std.specs.Prelude.{◌≡◌, ℕ, suc, List, [], ◌∷◌, Option, Some, None, if◌then◌else◌}
use Rattle.std.specs.Option.{option_map}
use Rattle.std.specs.Str.{bytes_eq}

-- the place of the first name that is this one, counted from 0
abbrev pub place_of : List ℕ → List (List ℕ) → Option ℕ
place_of name [] = None
place_of name (other ∷ others) =
    if bytes_eq name other then Some 0 else option_map (λ place. suc place) (place_of name others)

-- no name stands twice
abbrev pub AreDistinct : List (List ℕ) → Type 0
AreDistinct [] = Unit {0}
AreDistinct (name ∷ names) = (place_of name names ≡ None) × AreDistinct names
