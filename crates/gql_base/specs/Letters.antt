-- Names (GraphQL, October 2021, section 2.1.9): a letter or `_`, and then letters, digits and `_`.
use Rattle.std.specs.Prelude.{ℕ, ◌==◌, Bool, false, ◌&&◌, ◌||◌, List, [], ◌∷◌}
use Rattle.std.specs.Char.{is_ascii_alphabetic, is_ascii_digit}
use Rattle.std.specs.List.{list_all}

-- the first letter of a name, and the others
abbrev pub is_name_start : ℕ → Bool
is_name_start letter = is_ascii_alphabetic letter || letter == 95

abbrev pub is_name_part : ℕ → Bool
is_name_part letter = is_name_start letter || is_ascii_digit letter

abbrev pub is_name : List ℕ → Bool
is_name [] = false
is_name (first ∷ others) = is_name_start first && list_all is_name_part others
