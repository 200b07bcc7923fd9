-- What a tree of numbers tells once a start is placed or taken out.
use Rattle.std.proofs.Common.{◌≡◌, ℕ, zero, suc, ◌+◌, Bool, true, false, cond, List, [], ◌∷◌, ◌++◌, take, refl, sym, ap, ◌∙◌, subst}
use Rattle.std.proofs.Common.{inl, inr, arith, rules, String, Global}
use Rattle.std.specs.Prelude.{Option, Some, None, option_map, bytes_eq, if◌then◌else◌, slice_get}
use Rattle.std.proofs.lemmas.Bool.{cases_Bool, cond-true, cond-false, both_ways}
use Rattle.std.proofs.lemmas.Slice.Eq.{bytes_eq-Decides as bytes_decides}
use Rattle.std.specs.BTreeMap as tree
use Rattle.std.specs.BTreeMap.{BTreeMap}
use Rattle.gql_ws.specs.Found.{has_id, found, without, placed, number_of, live_start}
use Rattle.gql_ws.specs.Lives.{IsFree, IsSingle, HasNumbers, AreSingle}
use Rattle.gql_ws.specs.declared.live.Live.{Live}
use Rattle.gql_ws.proofs.FoundLemmas.{some_same, bytes_equal, bytes_same, placed_none}
use Rattle.gql_ws.proofs.StartLemmas.{single_without, single_ids_placed}

abbrev number_in : Option Live → Option ℕ
number_in = option_map (λ (start : Live). start.number)

-- a start of one id is of no other
differ : (id other : List ℕ) (s : Live) → has_id id s ≡ false → has_id other s ≡ true → bytes_eq id other ≡ false
differ id other s f e = elim (cases_Bool (bytes_eq id other)) [
  | inl g ↦ absurd (both_ways (has_id id s) f ((bytes_decides s.id id).1 (bytes_equal s.id other e ∙ sym (bytes_equal id other g))))
  | inr g ↦ g
]

-- of a start at the front
here : (other : List ℕ) (s : Live) (rest : List Live) → has_id other s ≡ true → number_of other (s ∷ rest) ≡ Some s.number
here other s rest e = ap number_in (cond-true (has_id other s) (Some s) (found (has_id other) rest) e)

past : (other : List ℕ) (s : Live) (rest : List Live) → has_id other s ≡ false → number_of other (s ∷ rest) ≡ number_of other rest
past other s rest e = ap number_in (cond-false (has_id other s) (Some s) (found (has_id other) rest) e)

same_id : (id other : List ℕ) (s : Live) → has_id id s ≡ true → has_id other s ≡ bytes_eq id other
same_id id other s e = ap (λ i. bytes_eq i other) (bytes_equal s.id id e)

-- the numbers once a start is placed
pub number_placed : (id : List ℕ) (n : ℕ) (other : List ℕ) (live : List Live)
    → number_of other (placed id n live) ≡ (if bytes_eq id other then Some n else number_of other live)
number_placed id n other [] = elim (cases_Bool (bytes_eq id other)) [
  | inl f ↦ here other (live_start id n) [] f ∙ sym (cond-true (bytes_eq id other) (Some n) None f)
  | inr f ↦ past other (live_start id n) [] f ∙ sym (cond-false (bytes_eq id other) (Some n) None f)
]
number_placed id n other (s ∷ rest) = elim (cases_Bool (has_id id s)) [
  | inl e ↦ ap (number_of other) (cond-true (has_id id s) (live_start id n ∷ rest) (s ∷ placed id n rest) e)
      ∙ (elim (cases_Bool (bytes_eq id other)) [
        | inl f ↦ here other (live_start id n) rest f ∙ sym (cond-true (bytes_eq id other) (Some n) (number_of other (s ∷ rest)) f)
        | inr f ↦ past other (live_start id n) rest f
            ∙ sym (cond-false (bytes_eq id other) (Some n) (number_of other (s ∷ rest)) f ∙ past other s rest (same_id id other s e ∙ f))
      ])
  | inr e ↦ ap (number_of other) (cond-false (has_id id s) (live_start id n ∷ rest) (s ∷ placed id n rest) e)
      ∙ (elim (cases_Bool (has_id other s)) [
        | inl g ↦ here other s (placed id n rest) g
            ∙ sym (cond-false (bytes_eq id other) (Some n) (number_of other (s ∷ rest)) (differ id other s e g) ∙ here other s rest g)
        | inr g ↦ past other s (placed id n rest) g
            ∙ (number_placed id n other rest ∙ ap (λ (o : Option ℕ). if bytes_eq id other then Some n else o) (sym (past other s rest g)))
      ])
]

free_none : (id : List ℕ) (live : List Live) → IsFree (has_id id) live → number_of id live ≡ None
free_none id [] h = refl
free_none id (s ∷ rest) h = past id s rest h.0 ∙ free_none id rest h.1

-- the numbers once a start is taken out
pub number_without : (id other : List ℕ) (live : List Live) → IsSingle (has_id other) live
    → number_of other (without (has_id id) live) ≡ (if bytes_eq id other then None else number_of other live)
number_without id other [] h = elim (cases_Bool (bytes_eq id other)) [
  | inl f ↦ sym (cond-true (bytes_eq id other) None None f)
  | inr f ↦ sym (cond-false (bytes_eq id other) None None f)
]
number_without id other (s ∷ rest) h = elim (cases_Bool (has_id id s)) [
  | inl e ↦ ap (number_of other) (cond-true (has_id id s) rest (s ∷ without (has_id id) rest) e)
      ∙ (elim (cases_Bool (bytes_eq id other)) [
        | inl f ↦ free_none other rest (h.0 (same_id id other s e ∙ f))
            ∙ sym (cond-true (bytes_eq id other) None (number_of other (s ∷ rest)) f)
        | inr f ↦ sym (cond-false (bytes_eq id other) None (number_of other (s ∷ rest)) f ∙ past other s rest (same_id id other s e ∙ f))
      ])
  | inr e ↦ ap (number_of other) (cond-false (has_id id s) rest (s ∷ without (has_id id) rest) e) ∙ (elim (cases_Bool (has_id other s)) [
    | inl g ↦ here other s (without (has_id id) rest) g
        ∙ sym (cond-false (bytes_eq id other) None (number_of other (s ∷ rest)) (differ id other s e g) ∙ here other s rest g)
    | inr g ↦ past other s (without (has_id id) rest) g
        ∙ (number_without id other rest h.1 ∙ ap (λ (o : Option ℕ). if bytes_eq id other then None else o) (sym (past other s rest g)))
  ])
]

-- a tree that sets an id, or takes it out, and keeps the others
abbrev pub Sets : BTreeMap (String Global) ℕ → BTreeMap (String Global) ℕ → List ℕ → Option ℕ → Type 0
Sets m n id w = (other : List ℕ) → tree.get_by_text n other ≡ cond (bytes_eq id other) w (tree.get_by_text m other)

pub numbers_placed : (m n : BTreeMap (String Global) ℕ) (live later : List Live) (id : List ℕ) (number : ℕ) → HasNumbers m live
    → Sets m n id (Some number) → later ≡ placed id number live → HasNumbers n later
numbers_placed m n live later id number has sets e other = sets other
    ∙ (ap (λ (o : Option ℕ). if bytes_eq id other then Some number else o) (has other)
    ∙ sym (ap (number_of other) e ∙ number_placed id number other live))

pub numbers_without : (m n : BTreeMap (String Global) ℕ) (live later : List Live) (id : List ℕ) → HasNumbers m live → AreSingle live
    → Sets m n id None → later ≡ without (has_id id) live → HasNumbers n later
numbers_without m n live later id has single sets e other = sets other
    ∙ (ap (λ (o : Option ℕ). if bytes_eq id other then None else o) (has other)
    ∙ sym (ap (number_of other) e ∙ number_without id other live (single other)))

pub single_placed : (live later : List Live) (id : List ℕ) (number : ℕ) → AreSingle live → later ≡ placed id number live → AreSingle later
single_placed live later id number single e i = subst (IsSingle (has_id i)) (sym e) (single_ids_placed i id number live (single i))

pub single_taken : (t : Live → Bool) (live later : List Live) → AreSingle live → later ≡ without t live → AreSingle later
single_taken t live later single e i = subst (IsSingle (has_id i)) (sym e) (single_without (has_id i) t live (single i))

-- where nothing is found, nothing is taken out
pub without_none : (t : Live → Bool) (live : List Live) → found t live ≡ None → without t live ≡ live
without_none t [] e = refl
without_none t (s ∷ rest) e = elim (cases_Bool (t s)) [
  | inl b ↦ absurd (Prim.search (rules, sym (cond-true (t s) (Some s) (found t rest) b) ∙ e))
  | inr b ↦ cond-false (t s) rest (s ∷ without t rest) b
      ∙ ap (λ xs. s ∷ xs) (without_none t rest (sym (cond-false (t s) (Some s) (found t rest) b) ∙ e))
]

pub numbers_kept : (m : BTreeMap (String Global) ℕ) (t : Live → Bool) (live later : List Live) → HasNumbers m live → found t live ≡ None
    → later ≡ without t live → HasNumbers m later
numbers_kept m t live later has none e = subst (HasNumbers m) (sym (e ∙ without_none t live none)) has

free_found : (t u : Live → Bool) (live : List Live) (s : Live) → IsFree t live → found u live ≡ Some s → t s ≡ false
free_found t u [] s h e = absurd (Prim.search (rules, e))
free_found t u (x ∷ rest) s h e = elim (cases_Bool (u x)) [
  | inl b ↦ subst (λ y. t y ≡ false) (some_same (sym (cond-true (u x) (Some x) (found u rest) b) ∙ e)) h.0
  | inr b ↦ free_found t u rest s h.1 (sym (cond-false (u x) (Some x) (found u rest) b) ∙ e)
]

-- the one that is found is the one of its id
same_without : (u : Live → Bool) (live : List Live) (s : Live) → found u live ≡ Some s → IsSingle (has_id s.id) live
    → without u live ≡ without (has_id s.id) live
same_without u [] s e h = refl
same_without u (x ∷ rest) s e h = elim (cases_Bool (u x)) [
  | inl b ↦
      let is : x ≡ s = some_same (sym (cond-true (u x) (Some x) (found u rest) b) ∙ e) in
      cond-true (u x) rest (x ∷ without u rest) b
      ∙ sym (cond-true (has_id s.id x) rest (x ∷ without (has_id s.id) rest) (ap (λ (y : Live). bytes_eq y.id s.id) is ∙ bytes_same s.id))
  | inr b ↦
      let later : found u rest ≡ Some s = sym (cond-false (u x) (Some x) (found u rest) b) ∙ e in
      let other : has_id s.id x ≡ false = (elim (cases_Bool (has_id s.id x)) [
        | inl c ↦ absurd (both_ways (has_id s.id s) (free_found (has_id s.id) u rest s (h.0 c) later) (bytes_same s.id))
        | inr c ↦ c
      ]) in
      cond-false (u x) rest (x ∷ without u rest) b
      ∙ (ap (λ xs. x ∷ xs) (same_without u rest s later h.1)
      ∙ sym (cond-false (has_id s.id x) rest (x ∷ without (has_id s.id) rest) other))
]

pub numbers_found : (m n : BTreeMap (String Global) ℕ) (u : Live → Bool) (live later : List Live) (s : Live) → HasNumbers m live
    → AreSingle live
    → found u live ≡ Some s → Sets m n s.id None → later ≡ without u live → HasNumbers n later
numbers_found m n u live later s has single e sets rest =
    numbers_without m n live later s.id has single sets (rest ∙ same_without u live s e (single s.id))

free_at : (t : Live → Bool) (live : List Live) (k : ℕ) (s : Live) → IsFree t live → slice_get live k ≡ Some s → t s ≡ false
free_at t [] k s h e = absurd (Prim.search (rules, e))
free_at t (x ∷ rest) zero s h e = subst (λ (y : Live). t y ≡ false) (some_same e) h.0
free_at t (x ∷ rest) (suc k) s h e = free_at t rest k s h.1 e

-- the starts before one are of other ids
earlier_none : (id : List ℕ) (live : List Live) (k : ℕ) (s : Live) → IsSingle (has_id id) live → slice_get live k ≡ Some s
    → has_id id s ≡ true → number_of id (take k live) ≡ None
earlier_none id [] k s h e b = absurd (Prim.search (rules, e))
earlier_none id (x ∷ rest) zero s h e b = refl
earlier_none id (x ∷ rest) (suc k) s h e b = elim (cases_Bool (has_id id x)) [
  | inl c ↦ absurd (both_ways (has_id id s) (free_at (has_id id) rest k s (h.0 c) e) b)
  | inr c ↦ past id x (take k rest) c ∙ earlier_none id rest k s h.1 e b
]

take_next : (live : List Live) (k : ℕ) (s : Live) → slice_get live k ≡ Some s → take (suc k) live ≡ take k live ++ s ∷ []
take_next [] k s e = absurd (Prim.search (rules, e))
take_next (x ∷ rest) zero s e = ap (λ y. y ∷ []) (some_same e)
take_next (x ∷ rest) (suc k) s e = ap (λ xs. x ∷ xs) (take_next rest k s e)

-- starts that are placed one after another are the list that they come from
pub placed_next : (live : List Live) (k : ℕ) (s : Live) → AreSingle live → slice_get live k ≡ Some s
    → placed s.id s.number (take k live) ≡ take (k + 1) live
placed_next live k s single e =
    let next : suc k ≡ k + 1 = omega arith in
    placed_none s.id s.number (take k live) (sym (earlier_none s.id live k s (single s.id) e (bytes_same s.id)))
    ∙ (sym (take_next live k s e) ∙ ap (λ (n : ℕ). take n live) next)
