-- Marks of keys in classes, by which they are put into order.
use Rattle.std.specs.Prelude.{ℕ, ◌+◌, ◌*◌, ◌%◌, ◌^◌, List, [], ◌∷◌}

abbrev pub mixed : ℕ → ℕ
mixed mark = (mark * 1099511628211) % 2 ^ 64

-- a mark once the bytes of a name are mixed in
abbrev pub mixed_with : ℕ → List ℕ → ℕ
mixed_with mark [] = mark
mixed_with mark (byte ∷ bytes) = mixed_with (mixed ((mark + byte) % 2 ^ 64)) bytes

abbrev pub mark_from : ℕ → List ℕ → ℕ
mark_from start bytes = mixed_with (mixed start) bytes

-- the mark of a key of a class
abbrev pub mark_of : ℕ → List ℕ → ℕ
mark_of class key = mark_from class key
