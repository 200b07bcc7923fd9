-- Lists of pairs whose names ascend in byte order, as contracts see `ErrorExtensionValues`.
use Rattle.std.specs.Prelude.{◌≡◌, ℕ, zero, suc, Bool, not, List, [], ◌∷◌, ◌++◌, filter}
use Rattle.std.specs.Cmp.Lexicographic.{slice_cmp}
use Rattle.std.specs.List.{AllByRecursion}
use Rattle.std.specs.List.Sorted.{IsStrictlySortedBy}
use Rattle.std.specs.Ordering.{nat_cmp, is_lt}
use Rattle.std.specs.Str.{bytes_eq}
use Rattle.std.specs.declared.cmp.Ordering.{Ordering}
use Rattle.std.specs.declared.cmp.Ordering.TheVariants.{Less, Greater}
use Rattle.gql_base.specs.Pairs.{names_of}

-- names in byte order
abbrev pub name_order : List ℕ → List ℕ → Ordering
name_order = slice_cmp nat_cmp

abbrev pub precedes : List ℕ → List ℕ → Bool
precedes name other = is_lt (name_order name other)

-- each name precedes those after it
abbrev pub IsInOrder : {T : Type 0} → List (List ℕ × T) → Type 0
IsInOrder ps = IsStrictlySortedBy name_order (names_of ps)

-- the pairs once this name has this value: those of the names before it, its own, and those of the
-- names after it
abbrev pub set_in_order : {T : Type 0} → List (List ℕ × T) → List ℕ → T → List (List ℕ × T)
set_in_order ps name value =
    filter (λ p. precedes p.0 name) ps ++ (name, value) ∷ filter (λ p. precedes name p.0) ps

-- the pairs of the other names
abbrev pub unset_in : {T : Type 0} → List (List ℕ × T) → List ℕ → List (List ℕ × T)
unset_in ps name = filter (λ p. not (bytes_eq name p.0)) ps

-- the pair at this place has the name, between those of the names before it and those of the names
-- after it
abbrev pub StandsAt : {T : Type 0} → List ℕ → List (List ℕ × T) → ℕ → Type 0
StandsAt name [] place = ⊥
StandsAt name (p ∷ ps) zero = (p.0 ≡ name) × AllByRecursion (λ q. name_order q.0 name ≡ Greater) ps
StandsAt name (p ∷ ps) (suc place) = (name_order p.0 name ≡ Less) × StandsAt name ps place

-- no pair has the name, and its place is this one
abbrev pub BelongsAt : {T : Type 0} → List ℕ → List (List ℕ × T) → ℕ → Type 0
BelongsAt name ps zero = AllByRecursion (λ q. name_order q.0 name ≡ Greater) ps
BelongsAt name [] (suc place) = ⊥
BelongsAt name (p ∷ ps) (suc place) = (name_order p.0 name ≡ Less) × BelongsAt name ps place
