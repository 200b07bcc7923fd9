-- Sets of names, and names under which something stands.
use Rattle.std.proofs.Common.{◌≡◌, ℕ, zero, suc, Bool, true, false, ◌||◌, cond, List, [], ◌∷◌, ◌++◌, Option, Some, None, is_some, slice_get, refl, ap, ◌∙◌}
use Rattle.std.specs.Str.{bytes_eq}
use Rattle.std.specs.Cmp.Lexicographic.{bytes_decides}
use Rattle.gql_base.specs.Names.{place_of}
use Rattle.gql_base.specs.Pairs.{under, put, names_of}
use Rattle.gql_base.proofs.NamesLemmas.{next}
use Rattle.gql_schema.specs.NameSet.{is_among, with_name}

next-there : (o : Option ℕ) → is_some (next o) ≡ is_some o
next-there None = refl
next-there (Some i) = refl

-- a name is among others where it has a place
pub place_among : (n : List ℕ) (ns : List (List ℕ)) → is_some (place_of n ns) ≡ is_among n ns
place_among n [] = refl
place_among n (m ∷ ms) =
    let P : Bool → Type 0 = λ b. is_some (cond b (Some 0) (next (place_of n ms))) ≡ (b || is_among n ms) in
    elim (bytes_eq n m) as P [ true ↦ refl | false ↦ next-there (place_of n ms) ∙ place_among n ms ]

none-there : (o : Option ℕ) → is_some o ≡ false → o ≡ None
none-there None h = refl
none-there (Some i) h = cc

pub absent_place : (n : List ℕ) (ns : List (List ℕ)) → is_among n ns ≡ false → place_of n ns ≡ None
absent_place n ns absent = none-there (place_of n ns) (place_among n ns ∙ absent)

-- a name isn't among those of pairs where nothing stands under it
pub under_among : {T : Type 0} (n : List ℕ) (ps : List (List ℕ × T)) → under n ps ≡ None → is_among n (names_of ps) ≡ false
under_among n [] none = refl
under_among n (p ∷ ps) none =
    let P : Bool → Type 0 = λ b. cond b (Some p.1) (under n ps) ≡ None → (b || is_among n (names_of ps)) ≡ false in
    (elim (bytes_eq n p.0) as P [ true ↦ λ h. cc | false ↦ λ h. under_among n ps h ]) none

-- the name of a pair is among those of all
pub pair_among : {T : Type 0} (ps : List (List ℕ × T)) (i : ℕ) (n : List ℕ) (x : T) → slice_get ps i ≡ Some (n, x) → is_among n (names_of ps) ≡ true
pair_among [] i n x at = cc
pair_among (p ∷ ps) zero n x at =
    let same : p ≡ (n, x) = cc in
    let itself : (bytes_eq n n || is_among n (names_of ps)) ≡ true = rw ((bytes_decides n n).1 refl) refl in
    rw same itself
pair_among (p ∷ ps) (suc i) n x at =
    let P : Bool → Type 0 = λ b. (b || is_among n (names_of ps)) ≡ true in
    elim (bytes_eq n p.0) as P [ true ↦ refl | false ↦ pair_among ps i n x at ]

-- what is put under a name adds the name
pub put_named : {T : Type 0} (ps : List (List ℕ × T)) (n : List ℕ) (x : T) → names_of (put ps n x) ≡ with_name (names_of ps) n
put_named [] n x = refl
put_named (p ∷ ps) n x =
    let P : Bool → Type 0 = λ b. names_of (cond b ((p.0, x) ∷ ps) (p ∷ put ps n x))
    ≡ cond ((b || is_among n (names_of ps))) (p.0 ∷ names_of ps) (p.0 ∷ (names_of ps ++ n ∷ [])) in
    let rest : names_of (put ps n x) ≡ cond (is_among n (names_of ps)) (names_of ps) (names_of ps ++ n ∷ []) = put_named ps n x in
    elim (bytes_eq n p.0) as P [
      | true ↦ refl
      | false ↦ ap (λ ns. p.0 ∷ ns) rest ∙ behind (is_among n (names_of ps)) p.0 (names_of ps) (names_of ps ++ n ∷ [])
    ]
  where
    behind : (b : Bool) (m : List ℕ) (ns ms : List (List ℕ)) → m ∷ cond b ns ms ≡ cond b (m ∷ ns) (m ∷ ms)
    behind true m ns ms = refl
    behind false m ns ms = refl
