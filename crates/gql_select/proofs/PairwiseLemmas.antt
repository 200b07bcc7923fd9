-- Sets have no conflicts together exactly where each two of them agree.
use Rattle.std.proofs.Common.{◌≡◌, ℕ, zero, suc, List, [], ◌∷◌, ◌++◌, refl, sym, subst, arith}
use Rattle.std.specs.List.{Contains, flat_map}
use Rattle.gql_select.specs.Conflicts.{Agree, conflicts}
use Rattle.gql_select.specs.Pairwise.{AgreeingHasNone, CleanPairs, EachAgree, PairsClean}
use Rattle.gql_select.specs.Reading.{Reading, IsReading}
use Rattle.gql_select.proofs.AgreeLemmas.{agree_left, agree_right, agree_left_one, agree_left_two, agree_right_one, agree_right_two}
use Rattle.gql_select.proofs.AgreeingLemmas.{none_from}
use Rattle.gql_select.proofs.ConflictLemmas.{agree_from}

module _ {O F X N : Type 0} (reading : Reading O F X) (is : IsReading reading) (n : ℕ) (o : O) (set : N → List X) where
  -- what agrees with all sets agrees with each
  of_left : (ns : List N) (m : N) (zs : List X) → Contains ns m → Agree reading n o (flat_map set ns) zs → Agree reading n o (set m) zs
  of_left [] m zs (k, within, at) agree = absurd (omega arith)
  of_left (x ∷ ns) m zs (zero, within, at) agree =
      subst (λ y. Agree reading n o (set y) zs) at (agree_left_one reading is n o (set x) (flat_map set ns) zs agree)
  of_left (x ∷ ns) m zs (suc k, within, at) agree =
      of_left ns m zs (k, omega arith, at) (agree_left_two reading is n o (set x) (flat_map set ns) zs agree)

  of_right : (ns : List N) (m : N) (zs : List X) → Contains ns m → Agree reading n o zs (flat_map set ns) → Agree reading n o zs (set m)
  of_right [] m zs (k, within, at) agree = absurd (omega arith)
  of_right (x ∷ ns) m zs (zero, within, at) agree =
      subst (λ y. Agree reading n o zs (set y)) at (agree_right_one reading is n o (set x) (flat_map set ns) zs agree)
  of_right (x ∷ ns) m zs (suc k, within, at) agree =
      of_right ns m zs (k, omega arith, at) (agree_right_two reading is n o (set x) (flat_map set ns) zs agree)

  pub pairs_from : {E : Type 0} (told : F → E) (ns : List N) → conflicts reading told n o (flat_map set ns) ≡ []
      → EachAgree reading n o set ns
  pairs_from told ns none = λ one other in_one in_other.
      of_left ns one (set other) in_one
      (of_right ns other (flat_map set ns) in_other (agree_from reading is told n o (flat_map set ns) none))

  module _ (nothing : reading.fields o [] ≡ []) where
    no_field : (f : F) → Contains (reading.fields o []) f → ⊥
    no_field f at = let none : Contains [] f = subst (λ fs. Contains fs f) nothing at in omega (arith, none.1)

    nothing_left : (m : ℕ) (ys : List X) → Agree reading m o [] ys
    nothing_left zero ys = tt
    nothing_left (suc m) ys = λ f g in_f in_g same. absurd (no_field f in_f)

    nothing_right : (m : ℕ) (xs : List X) → Agree reading m o xs []
    nothing_right zero xs = tt
    nothing_right (suc m) xs = λ f g in_f in_g same. absurd (no_field g in_g)

    -- what agrees with each set agrees with all
    by_right : (xs : List X) (ns : List N) → ((m : N) → Contains ns m → Agree reading n o xs (set m))
        → Agree reading n o xs (flat_map set ns)
    by_right xs [] each = nothing_right n xs
    by_right xs (m ∷ ns) each =
        agree_right reading is n o (set m) (flat_map set ns) xs (each m (zero, omega arith, refl))
        (by_right xs ns (λ k at. each k (suc at.0, omega arith, at.2)))

    by_left : (ys : List X) (ns : List N) → ((m : N) → Contains ns m → Agree reading n o (set m) ys)
        → Agree reading n o (flat_map set ns) ys
    by_left ys [] each = nothing_left n ys
    by_left ys (m ∷ ns) each =
        agree_left reading is n o (set m) (flat_map set ns) ys (each m (zero, omega arith, refl))
        (by_left ys ns (λ k at. each k (suc at.0, omega arith, at.2)))

    pub none_of_pairs : {E : Type 0} (told : F → E) (ns : List N) → EachAgree reading n o set ns
        → conflicts reading told n o (flat_map set ns) ≡ []
    none_of_pairs told ns pairs =
        none_from reading is told n o (flat_map set ns)
        (by_left (flat_map set ns) ns (λ one in_one. by_right (set one) ns (λ other in_other. pairs one other in_one in_other)))

pub agreeing_has_none : (O F X E : Type 0) → AgreeingHasNone O F X E
agreeing_has_none O F X E = λ reading is told n o set agree. none_from reading is told n o set agree

pub clean_pairs : (O F X E N : Type 0) → CleanPairs O F X E N
clean_pairs O F X E N = λ reading is told n o nothing set ns pairs. none_of_pairs reading is n o set nothing told ns pairs

pub pairs_clean : (O F X E N : Type 0) → PairsClean O F X E N
pairs_clean O F X E N = λ reading is told n o set ns none. pairs_from reading is n o set told ns none
