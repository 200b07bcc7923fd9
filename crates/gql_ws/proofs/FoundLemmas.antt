-- Live starts: what is found, taken out and placed, by places and by ids.
use Rattle.std.proofs.Common.{◌≡◌, ℕ, zero, suc, ◌<◌, ◌+◌, Bool, true, false, ◌&&◌, List, [], ◌∷◌, ◌++◌, length, drop, get_or}
use Rattle.std.proofs.Common.{remove, refl, sym, ap, ◌∙◌, subst, inl, inr, arith, rules}
use Rattle.std.specs.Prelude.{Option, Some, None, option_map, slice_get, slice_set, bytes_eq}
use Rattle.std.proofs.lemmas.Bool.{cases_Bool, cond-true, cond-false, eq-eqb}
use Rattle.std.proofs.lemmas.Slice.Eq.{bytes_eq-Decides as bytes_decides}
use Rattle.gql_ws.specs.declared.live.Live.{Live}
use Rattle.gql_ws.specs.Found.{is_start, has_id, has_number, found, without, placed, place_in, number_of, live_start}

-- what is found stands at the first place
pub found_is : (t : Live → Bool) (live : List Live) → slice_get live (place_in t live) ≡ found t live
found_is t [] = refl
found_is t (s ∷ rest) = elim (cases_Bool (t s)) [
  | inl e ↦ ap (slice_get (s ∷ rest)) (cond-true (t s) 0 (suc (place_in t rest)) e) ∙ sym (cond-true (t s) (Some s) (found t rest) e)
  | inr e ↦ ap (slice_get (s ∷ rest)) (cond-false (t s) 0 (suc (place_in t rest)) e)
      ∙ (found_is t rest ∙ sym (cond-false (t s) (Some s) (found t rest) e))
]

-- and the rest is what stays there
pub without_is : (t : Live → Bool) (live : List Live) → remove live (place_in t live) ≡ without t live
without_is t [] = refl
without_is t (s ∷ rest) = elim (cases_Bool (t s)) [
  | inl e ↦ ap (remove (s ∷ rest)) (cond-true (t s) 0 (suc (place_in t rest)) e) ∙ sym (cond-true (t s) rest (s ∷ without t rest) e)
  | inr e ↦ ap (remove (s ∷ rest)) (cond-false (t s) 0 (suc (place_in t rest)) e)
      ∙ (ap (λ xs. s ∷ xs) (without_is t rest) ∙ sym (cond-false (t s) rest (s ∷ without t rest) e))
]

-- what is taken out at that place, and what stays
pub taken_found : (t : Live → Bool) (live : List Live) (place : ℕ) (taken : Option Live) → place ≡ place_in t live
    → taken ≡ slice_get live place → taken ≡ found t live
taken_found t live place taken e h = h ∙ (ap (slice_get live) e ∙ found_is t live)

pub taken_rest : (t : Live → Bool) (live later : List Live) (place : ℕ) → place ≡ place_in t live → later ≡ remove live place
    → later ≡ without t live
taken_rest t live later place e h = h ∙ (ap (remove live) e ∙ without_is t live)

pub some_same : {x y : Live} → Some x ≡ Some y → x ≡ y
some_same {x} {y} h = ap (λ o. or_else x o) h
  where
    or_else : Live → Option Live → Live
    or_else d (Some z) = z
    or_else d None = d

-- bools
pub and_false : (b : Bool) → (b && false) ≡ false
and_false true = refl
and_false false = refl

pub bytes_equal : (xs ys : List ℕ) → bytes_eq xs ys ≡ true → xs ≡ ys
bytes_equal xs ys = (bytes_decides xs ys).0

pub bytes_same : (xs : List ℕ) → bytes_eq xs xs ≡ true
bytes_same xs = (bytes_decides xs xs).1 refl

-- where an id isn't live, its start goes to the end
pub placed_none : (id : List ℕ) (n : ℕ) (live : List Live) → None ≡ number_of id live → placed id n live ≡ live ++ live_start id n ∷ []
placed_none id n [] e = refl
placed_none id n (s ∷ rest) e = elim (cases_Bool (has_id id s)) [
  | inl b ↦
      absurd (Prim.search (
        rules,
        e ∙ ap (option_map (λ (z : Live). z.number))
            (cond-true (has_id id s) (Some s) (found (has_id id) rest) b),
      ))
  | inr b ↦ cond-false (has_id id s) (live_start id n ∷ rest) (s ∷ placed id n rest) b
      ∙ ap (λ zs. s ∷ zs) (placed_none id n rest
      (e ∙ ap (option_map (λ (z : Live). z.number)) (cond-false (has_id id s) (Some s) (found (has_id id) rest) b)))
]

-- where it is live, to the place of the earlier one
pub placed_some : (id : List ℕ) (n old : ℕ) (live : List Live) → Some old ≡ number_of id live
    → (place_in (has_id id) live < length live) × (slice_set live (place_in (has_id id) live) (live_start id n) ≡ placed id n live)
placed_some id n old [] e = absurd (Prim.search (rules, e))
placed_some id n old (s ∷ rest) e = elim (cases_Bool (has_id id s)) [
  | inl b ↦
      let zero_is : place_in (has_id id) (s ∷ rest) ≡ 0 = cond-true (has_id id s) 0 (suc (place_in (has_id id) rest)) b in (
        subst (λ k. k < suc (length rest)) (sym zero_is) (omega arith),
        ap (λ k. slice_set (s ∷ rest) k (live_start id n)) zero_is
            ∙ sym (cond-true (has_id id s) (live_start id n ∷ rest) (s ∷ placed id n rest) b),
      )
  | inr b ↦
      let next_is : place_in (has_id id) (s ∷ rest) ≡ suc (place_in (has_id id) rest) =
      cond-false (has_id id s) 0 (suc (place_in (has_id id) rest)) b in
      let later : (place_in (has_id id) rest < length rest)
      × (slice_set rest (place_in (has_id id) rest) (live_start id n) ≡ placed id n rest) =
      placed_some id n old rest (e
      ∙ ap (option_map (λ (z : Live). z.number)) (cond-false (has_id id s) (Some s) (found (has_id id) rest) b)) in (
        subst (λ k. k < suc (length rest)) (sym next_is) (let l : place_in (has_id id) rest < length rest = later.0 in omega arith),
        ap (λ k. slice_set (s ∷ rest) k (live_start id n)) next_is
            ∙ (ap (λ xs. s ∷ xs) later.1 ∙ sym (cond-false (has_id id s) (live_start id n ∷ rest) (s ∷ placed id n rest) b)),
      )
]

-- what a search meets at a place
pub place_here : (t : Live → Bool) (live : List Live) (k : ℕ) (y : Live) → k < length live → t (get_or live k y) ≡ true
    → place_in t (drop k live) ≡ 0
place_here t [] k y b e = absurd (omega arith)
place_here t (s ∷ rest) zero y b e = cond-true (t s) 0 (suc (place_in t rest)) e
place_here t (s ∷ rest) (suc k) y b e = place_here t rest k y (omega arith) e

pub place_past : (t : Live → Bool) (live : List Live) (k : ℕ) (y : Live) → k < length live → t (get_or live k y) ≡ false
    → place_in t (drop k live) ≡ suc (place_in t (drop (suc k) live))
place_past t [] k y b e = absurd (omega arith)
place_past t (s ∷ rest) zero y b e = cond-false (t s) 0 (suc (place_in t rest)) e
place_past t (s ∷ rest) (suc k) y b e = place_past t rest k y (omega arith) e

some_number : {m n : ℕ} → Some m ≡ Some n → m ≡ n
some_number {m} {n} h = ap (λ o. or_else m o) h
  where
    or_else : ℕ → Option ℕ → ℕ
    or_else d (Some k) = k
    or_else d None = d

-- where the number of an id is known, the start of both is the start of the id
pub place_of_both : (id : List ℕ) (n : ℕ) (live : List Live) → number_of id live ≡ Some n
    → place_in (is_start n id) live ≡ place_in (has_id id) live
place_of_both id n [] e = refl
place_of_both id n (s ∷ rest) e = elim (cases_Bool (has_id id s)) [
  | inl b ↦
      let number : s.number ≡ n =
      some_number (sym (ap (option_map (λ (z : Live). z.number)) (cond-true (has_id id s) (Some s) (found (has_id id) rest) b))
      ∙ e) in
      let both : is_start n id s ≡ true = ap (λ c. c && has_id id s) (eq-eqb s.number n number) ∙ b in
      cond-true (is_start n id s) 0 (suc (place_in (is_start n id) rest)) both
      ∙ sym (cond-true (has_id id s) 0 (suc (place_in (has_id id) rest)) b)
  | inr b ↦
      let later : number_of id rest ≡ Some n =
      sym (ap (option_map (λ (z : Live). z.number)) (cond-false (has_id id s) (Some s) (found (has_id id) rest) b)) ∙ e in
      let neither : is_start n id s ≡ false = ap (λ c. has_number n s && c) b ∙ and_false (has_number n s) in
      cond-false (is_start n id s) 0 (suc (place_in (is_start n id) rest)) neither
      ∙ (ap suc (place_of_both id n rest later) ∙ sym (cond-false (has_id id s) 0 (suc (place_in (has_id id) rest)) b))
]

-- a search that goes from place to place
pub found_place : (t : Live → Bool) (live : List Live) (k : ℕ) (y : Live) → k < length live
    → place_in t live ≡ k + place_in t (drop k live) → t (get_or live k y) ≡ true → k ≡ place_in t live
found_place t live k y b e h = let here : place_in t (drop k live) ≡ 0 = place_here t live k y b h in omega arith

pub next_place : (t : Live → Bool) (live : List Live) (k : ℕ) (y : Live) → k < length live
    → place_in t live ≡ k + place_in t (drop k live) → t (get_or live k y) ≡ false
    → place_in t live ≡ suc k + place_in t (drop (suc k) live)
next_place t live k y b e h =
    let past : place_in t (drop k live) ≡ suc (place_in t (drop (suc k) live)) = place_past t live k y b h in omega arith

drop_all : (live : List Live) → drop (length live) live ≡ []
drop_all [] = refl
drop_all (s ∷ rest) = drop_all rest

pub end_place : (t : Live → Bool) (live : List Live) (k : ℕ) → k ≡ length live
    → place_in t live ≡ k + place_in t (drop k live) → k ≡ place_in t live
end_place t live k e h =
    let none : place_in t (drop k live) ≡ 0 = ap (λ j. place_in t (drop j live)) e ∙ ap (place_in t) (drop_all live) in omega arith

pub ruleset by_places = (found_place, next_place, end_place)

pub ruleset taken = (taken_found, taken_rest)

pub ruleset placing = (placed_none, placed_some)
