-- Sets kept as lists, by a test of sameness: an item that is there isn't added again.
use Rattle.std.specs.Prelude.{ℕ, ◌+◌, Bool, List, [], ◌∷◌, ◌++◌, if◌then◌else◌}
use Rattle.std.specs.List.{list_any}

-- whether something is the same as one of these
abbrev pub is_among : {A : Type 0} → (A → A → Bool) → A → List A → Bool
is_among same x xs = list_any (same x) xs

-- these with one more at the end, unless it is there
abbrev pub with_one : {A : Type 0} → (A → A → Bool) → List A → A → List A
with_one same xs x = if is_among same x xs then xs else xs ++ x ∷ []

-- these with others, one after another
abbrev pub with_all : {A : Type 0} → (A → A → Bool) → List A → List A → List A
with_all same xs [] = xs
with_all same xs (y ∷ ys) = with_all same (with_one same xs y) ys

-- how many of some aren't among others
abbrev pub missing : {A : Type 0} → (A → A → Bool) → List A → List A → ℕ
missing same [] xs = 0
missing same (y ∷ ys) xs = (if is_among same y xs then 0 else 1) + missing same ys xs
