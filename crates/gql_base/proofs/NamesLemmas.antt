-- Lists of distinct names, and the place of each.
use Rattle.std.proofs.Common.{◌≡◌, ℕ, zero, suc, ◌+◌, ◌<◌, Bool, true, false, cond, List, [], ◌∷◌, ◌++◌, length, take, Option}
use Rattle.std.proofs.Common.{Some, None, slice_get, slice_index_or, le_of_lt, length-take-le, IfSome, OnOk, OnErr, Result, Ok}
use Rattle.std.proofs.Common.{Err, refl, ap, sym, ◌∙◌, arith}
use Rattle.std.specs.Option.{option_map, option_map_or}
use Rattle.std.specs.Str.{bytes_eq}
use Rattle.std.specs.Cmp.Lexicographic.{bytes_decides, nat_list_eq_equiv}
use Rattle.std.proofs.lemmas.List.{take_more}
use Rattle.std.proofs.lemmas.Option.{slice_get_within, slice_get_read, get_or_from_slice_get}
use Rattle.gql_base.specs.Names.{place_of, AreDistinct}

abbrev pub next : Option ℕ → Option ℕ
next o = option_map (λ place. suc place) o

within_more : (o : Option ℕ) (n i : ℕ) → ((j : ℕ) → o ≡ Some j → j < n) → next o ≡ Some i → i < suc n
within_more None n i each found = cc
within_more (Some j) n i each found =
    let same : suc j ≡ i = ap (λ o. option_map_or (λ k. k) o 0) found in
    omega (arith, each j refl, same)

-- a place that is found is one of the list
pub place_within : (name : List ℕ) (names : List (List ℕ)) (i : ℕ) → place_of name names ≡ Some i → i < length names
place_within name [] i found = cc
place_within name (other ∷ others) i found =
    let P : Bool → Type 0 = λ b. cond b (Some 0) (next (place_of name others)) ≡ Some i → i < suc (length others) in
    (elim (bytes_eq name other) as P [
      | true ↦ λ h. (let same : 0 ≡ i = ap (λ o. option_map_or (λ k. k) o 0) h in omega (arith, same))
      | false ↦ λ h. within_more (place_of name others) (length others) i (place_within name others) h
    ]) found

-- the same of an answer
pub within_if : (name : List ℕ) (names : List (List ℕ)) (o : Option ℕ) → o ≡ place_of name names → IfSome o (λ place. place < length names)
within_if name names None found = tt
within_if name names (Some i) found = place_within name names i (sym found)

-- a place before, or else this one
abbrev pub or_at : Option ℕ → Bool → ℕ → Option ℕ
or_at None here i = cond here (Some i) None
or_at (Some j) here i = Some j

next_or_at : (o : Option ℕ) (here : Bool) (i : ℕ) → next (or_at o here i) ≡ or_at (next o) here (suc i)
next_or_at None true i = refl
next_or_at None false i = refl
next_or_at (Some j) here i = refl

pub or_at_none : (o : Option ℕ) (i : ℕ) → or_at o false i ≡ o
or_at_none None i = refl
or_at_none (Some j) i = refl

pub place_pushed : (m n : List ℕ) (names : List (List ℕ))
    → place_of m (names ++ n ∷ []) ≡ or_at (place_of m names) (bytes_eq m n) (length names)
place_pushed m n [] = refl
place_pushed m n (x ∷ xs) =
    let P : Bool → Type 0 = λ b. cond b (Some 0) (next (place_of m (xs ++ n ∷ []))) ≡ or_at (cond b (Some 0) (next (place_of m xs))) (bytes_eq m n) (suc (length xs)) in
    elim (bytes_eq m x) as P [
      | true ↦ refl
      | false ↦ ap next (place_pushed m n xs) ∙ next_or_at (place_of m xs) (bytes_eq m n) (length xs)
    ]

none_split : (b : Bool) (o : Option ℕ) → cond b (Some 0) (next o) ≡ None → (b ≡ false) × (o ≡ None)
none_split true o h = cc
none_split false None h = (refl, refl)
none_split false (Some j) h = cc

none_with : (b : Bool) (o : Option ℕ) → b ≡ false → o ≡ None → cond b (Some 0) (next o) ≡ None
none_with b o other none = rw (other, none) refl

-- a name that isn't there leaves the names distinct at their end
pub distinct_pushed : (n : List ℕ) (names : List (List ℕ)) → AreDistinct names → place_of n names ≡ None → AreDistinct (names ++ n ∷ [])
distinct_pushed n [] distinct none = (refl, tt)
distinct_pushed n (x ∷ xs) (fresh, distinct) none =
    let each = none_split (bytes_eq n x) (place_of n xs) none in
    let other : bytes_eq x n ≡ false = nat_list_eq_equiv.symm x n ∙ each.0 in
    (place_pushed x n xs ∙ (λ i. or_at (fresh i) (other i) (length xs)), distinct_pushed n xs distinct each.1)

-- a name that stands in a list has a place there
place_present : (names : List (List ℕ)) (i : ℕ) (n : List ℕ) → slice_get names i ≡ Some n → place_of n names ≡ None → ⊥
place_present [] i n at none = cc
place_present (x ∷ xs) zero n at none =
    let named : x ≡ n = ap (λ o. option_map_or (λ q. q) o n) at in
    let same : bytes_eq n x ≡ true = rw named ((bytes_decides n n).1 refl) in
    let each = none_split (bytes_eq n x) (place_of n xs) none in
    let bad : true ≡ false = sym same ∙ each.0 in
    cc
place_present (x ∷ xs) (suc i) n at none =
    place_present xs i n at (none_split (bytes_eq n x) (place_of n xs) none).1

-- a name at a place isn't among the names before it
pub place_front : (names : List (List ℕ)) (i : ℕ) (n : List ℕ) → AreDistinct names → slice_get names i ≡ Some n
    → place_of n (take i names) ≡ None
place_front [] i n distinct at = cc
place_front (x ∷ xs) zero n distinct at = refl
place_front (x ∷ xs) (suc i) n (fresh, distinct) at =
    let P : Bool → Type 0 = λ b. (b ≡ true → n ≡ x) → cond b (Some 0) (next (place_of n (take i xs))) ≡ None in
    (elim (bytes_eq n x) as P [
      | true ↦ λ same. absurd (place_present xs i n at (ap (λ m. place_of m xs) (same refl) ∙ fresh))
      | false ↦ λ same. ap next (place_front xs i n distinct at)
    ]) (bytes_decides n x).0

pub names_taken : (names : List (List ℕ)) (i : ℕ) (n : List ℕ) → slice_get names i ≡ Some n → take (i + 1) names ≡ take i names ++ n ∷ []
names_taken names i n at =
    take_more names i n (slice_get_within names i n at) ∙ ap (λ m. take i names ++ m ∷ []) (get_or_from_slice_get names i n n at)

pub length_taken : (names : List (List ℕ)) (i : ℕ) (n : List ℕ) → slice_get names i ≡ Some n → i ≡ length (take i names)
length_taken names i n at = sym (length-take-le i names (le_of_lt (slice_get_within names i n at)))

-- the search in order: no name before this place, and this one
pub place_here : (name : List ℕ) (names : List (List ℕ)) (i : ℕ) → place_of name (take i names) ≡ None → slice_get names i ≡ Some name
    → place_of name names ≡ Some i
place_here name [] i none at = cc
place_here name (x ∷ xs) zero none at =
    let named : x ≡ name = ap (λ o. option_map_or (λ q. q) o name) at in
    let same : bytes_eq name x ≡ true = rw named ((bytes_decides name name).1 refl) in
    rw same refl
place_here name (x ∷ xs) (suc i) none at =
    let each = none_split (bytes_eq name x) (place_of name (take i xs)) none in
    rw each.0 (ap next (place_here name xs i each.1 at))

pub place_not_here : (name : List ℕ) (names : List (List ℕ)) (i : ℕ) (other : List ℕ) → place_of name (take i names) ≡ None
    → i < length names
    → other ≡ slice_index_or names i other → bytes_eq name other ≡ false → place_of name (take (i + 1) names) ≡ None
place_not_here name names i other none within read differs =
    let at : slice_get names i ≡ Some other = slice_get_read names (length names) i other refl within read in
    rw (names_taken names i other at)
    (place_pushed name other (take i names) ∙ (λ j. or_at (none j) (differs j) (length (take i names))))

-- names that got one more, or stayed as they were
pub distinct_added : {X E : Type 0} (r : Result X E) (name : List ℕ) (old new : List (List ℕ)) → AreDistinct old → place_of name old ≡ None
    → OnOk r (new ≡ old ++ name ∷ []) → OnErr r (new ≡ old) → AreDistinct new
distinct_added (Ok x) name old new distinct none ok err = rw ok (distinct_pushed name old distinct none)
distinct_added (Err e) name old new distinct none ok err = rw err distinct
