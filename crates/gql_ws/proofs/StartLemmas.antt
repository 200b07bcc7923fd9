-- Lists of live starts: which (number, id) a list has, once a start is placed or taken out.
use Rattle.std.proofs.Common.{◌≡◌, ℕ, ◌<◌, ◌+◌, Bool, true, false, not, ◌&&◌, ◌||◌, List, [], ◌∷◌, refl, sym, ap, ◌∙◌, subst, ◌⊎◌, inl}
use Rattle.std.proofs.Common.{inr, arith, rules}
use Rattle.std.specs.Prelude.{◌==◌, Some, bytes_eq}
use Rattle.std.specs.Cmp.Lexicographic.{nat_list_eq_equiv}
use Rattle.std.proofs.lemmas.Slice.Eq.{bytes_eq-Decides as bytes_decides}
use Rattle.std.proofs.lemmas.Bool.{and_parts, cases_Bool, cond-true, cond-false, eq-eqb, ne_eqb, eqb-true, both_ways, cases_eq}
use Rattle.gql_ws.specs.declared.live.Live.{Live}
use Rattle.gql_ws.proofs.FoundLemmas.{and_false, some_same, bytes_equal}
use Rattle.gql_ws.specs.Lives.{IsFree, IsSingle}
use Rattle.gql_ws.specs.Found.{is_start, has_id, has_number, found, without, placed, live_start}

abbrev pub has : ℕ → List ℕ → List Live → Bool
has number id [] = false
has number id (start ∷ rest) = is_start number id start || has number id rest

abbrev pub IsBelow : ℕ → List Live → Type 0
IsBelow k [] = Unit {0}
IsBelow k (s ∷ rest) = (s.number < k) × IsBelow k rest

-- bools
pub or_false : (b : Bool) → (b || false) ≡ b
or_false true = refl
or_false false = refl

pub or_true : (b : Bool) → (b || true) ≡ true
or_true true = refl
or_true false = refl

same_start : (s : Live) (i : List ℕ) (n : ℕ) → (s.number ≡ n) × (s.id ≡ i) → s ≡ live_start i n
same_start s i n h = ap (λ (k : ℕ). live_start s.id k) h.0 ∙ ap (λ (j : List ℕ). live_start j n) h.1

swap_or : (p q h b : Bool) → (b ≡ true → q ≡ false) → (q || (p || (not b && h))) ≡ (p || (not b && (q || h)))
swap_or p false h true e = refl
swap_or p true h true e = absurd (both_ways true (e refl) refl)
swap_or p false h false e = refl
swap_or false true h false e = refl
swap_or true true h false e = refl

pub bytes_turn : (xs ys : List ℕ) → bytes_eq xs ys ≡ bytes_eq ys xs
bytes_turn xs ys = nat_list_eq_equiv.symm xs ys

pub nat_turn : (m n : ℕ) → (m == n) ≡ (n == m)
nat_turn m n = elim (cases_eq m n) [
  | inl e ↦ eq-eqb m n e ∙ sym (eq-eqb n m (sym e))
  | inr e ↦ ne_eqb m n e ∙ sym (ne_eqb n m (λ q. e (sym q)))
]

pub is_start_parts : (n : ℕ) (i : List ℕ) (s : Live) → is_start n i s ≡ true → (s.number ≡ n) × (s.id ≡ i)
is_start_parts n i s h = let both : ((s.number == n) ≡ true) × (bytes_eq s.id i ≡ true) = and_parts _ _ h in
    (eqb-true s.number n both.0, bytes_equal s.id i both.1)

pub is_start_here : (n : ℕ) (i : List ℕ) (s : Live) → s.number ≡ n → s.id ≡ i → is_start n i s ≡ true
is_start_here n i s e f = ap (λ b. b && bytes_eq s.id i) (eq-eqb s.number n e) ∙ (bytes_decides s.id i).1 f

-- a test says of each start of this number and id the same
abbrev pub Tests : (Live → Bool) → ℕ → List ℕ → Bool → Type 0
Tests t n i b = (s : Live) → is_start n i s ≡ true → t s ≡ b

pub tests_id : (id : List ℕ) (n : ℕ) (i : List ℕ) → Tests (has_id id) n i (bytes_eq id i)
tests_id id n i s h = ap (λ x. bytes_eq x id) (is_start_parts n i s h).1 ∙ bytes_turn i id

pub tests_number : (k : ℕ) (n : ℕ) (i : List ℕ) → Tests (has_number k) n i (k == n)
tests_number k n i s h = ap (λ x. x == k) (is_start_parts n i s h).0 ∙ nat_turn n k

pub has_free : (t : Live → Bool) (n : ℕ) (i : List ℕ) (live : List Live) → Tests t n i true → IsFree t live → has n i live ≡ false
has_free t n i [] agree h = refl
has_free t n i (s ∷ rest) agree h = elim (cases_Bool (is_start n i s)) [
  | inl e ↦ absurd (both_ways (t s) h.0 (agree s e))
  | inr e ↦ ap (λ b. b || has n i rest) e ∙ has_free t n i rest agree h.1
]

pub has_without : (t : Live → Bool) (n : ℕ) (i : List ℕ) (b : Bool) (live : List Live) → Tests t n i b → IsSingle t live
    → has n i (without t live) ≡ (not b && has n i live)
has_without t n i b [] agree h = sym (and_false (not b))
has_without t n i true (s ∷ rest) agree h = elim (cases_Bool (t s)) [
  | inl e ↦ ap (has n i) (cond-true (t s) rest (s ∷ without t rest) e) ∙ has_free t n i rest agree (h.0 e)
  | inr e ↦ ap (has n i) (cond-false (t s) rest (s ∷ without t rest) e) ∙ (elim (cases_Bool (is_start n i s)) [
    | inl f ↦ absurd (both_ways (t s) e (agree s f))
    | inr f ↦ ap (λ c. c || has n i (without t rest)) f ∙ has_without t n i true rest agree h.1
  ])
]
has_without t n i false (s ∷ rest) agree h = elim (cases_Bool (t s)) [
  | inl e ↦ ap (has n i) (cond-true (t s) rest (s ∷ without t rest) e) ∙ (elim (cases_Bool (is_start n i s)) [
    | inl f ↦ absurd (both_ways (t s) (agree s f) e)
    | inr f ↦ sym (ap (λ c. c || has n i rest) f)
  ])
  | inr e ↦ ap (has n i) (cond-false (t s) rest (s ∷ without t rest) e)
      ∙ ap (λ c. is_start n i s || c) (has_without t n i false rest agree h.1)
]

pub has_placed : (id : List ℕ) (k n : ℕ) (i : List ℕ) (live : List Live) → IsSingle (has_id id) live
    → has n i (placed id k live) ≡ (((k == n) && bytes_eq id i) || (not (bytes_eq id i) && has n i live))
has_placed id k n i [] h = ap (λ c. ((k == n) && bytes_eq id i) || c) (sym (and_false (not (bytes_eq id i))))
has_placed id k n i (s ∷ rest) h = elim (cases_Bool (has_id id s)) [
  | inl e ↦ ap (has n i) (cond-true (has_id id s) (live_start id k ∷ rest) (s ∷ placed id k rest) e)
      ∙ ap (λ c. ((k == n) && bytes_eq id i) || c) (same e)
  | inr e ↦ ap (has n i) (cond-false (has_id id s) (live_start id k ∷ rest) (s ∷ placed id k rest) e)
      ∙ (ap (λ c. is_start n i s || c) (has_placed id k n i rest h.1)
      ∙ swap_or ((k == n) && bytes_eq id i) (is_start n i s) (has n i rest) (bytes_eq id i) (other e))
]
  where
    other : has_id id s ≡ false → bytes_eq id i ≡ true → is_start n i s ≡ false
    other e f = elim (cases_Bool (is_start n i s)) [
      | inl g ↦ absurd (both_ways (has_id id s) e (tests_id id n i s g ∙ f))
      | inr g ↦ g
    ]

    same_case : has_id id s ≡ true → (bytes_eq id i ≡ true) ⊎ (bytes_eq id i ≡ false)
        → has n i rest ≡ (not (bytes_eq id i) && (is_start n i s || has n i rest))
    same_case e (inl f) = has_free (has_id id) n i rest (λ x g. tests_id id n i x g ∙ f) (h.0 e)
        ∙ sym (ap (λ c. not c && (is_start n i s || has n i rest)) f)
    same_case e (inr f) =
        let past : is_start n i s ≡ false = elim (cases_Bool (is_start n i s)) [
          | inl g ↦ absurd (both_ways (has_id id s) (tests_id id n i s g ∙ f) e)
          | inr g ↦ g
        ] in
        sym (ap (λ c. not c && (is_start n i s || has n i rest)) f ∙ ap (λ c. c || has n i rest) past)

    same : has_id id s ≡ true → has n i rest ≡ (not (bytes_eq id i) && (is_start n i s || has n i rest))
    same e = same_case e (cases_Bool (bytes_eq id i))

-- found
pub found_has : (t : Live → Bool) (live : List Live) (x : Live) → found t live ≡ Some x → (has x.number x.id live ≡ true) × (t x ≡ true)
found_has t [] x h = absurd (Prim.search (rules, h))
found_has t (s ∷ rest) x h = elim (cases_Bool (t s)) [
  | inl e ↦
      let is : s ≡ x = some_same (sym (cond-true (t s) (Some s) (found t rest) e) ∙ h) in (
        ap (λ b. b || has x.number x.id rest) (is_start_here x.number x.id s (ap (λ y. y.number) is) (ap (λ y. y.id) is)),
        sym (ap t is)
            ∙ e,
      )
  | inr e ↦
      let rest_has : (has x.number x.id rest ≡ true) × (t x ≡ true) =
      found_has t rest x (sym (cond-false (t s) (Some s) (found t rest) e) ∙ h) in
      (ap (λ b. is_start x.number x.id s || b) rest_has.0 ∙ or_true (is_start x.number x.id s), rest_has.1)
]

pub has_found : (t : Live → Bool) (n : ℕ) (i : List ℕ) (live : List Live) → Tests t n i true → IsSingle t live → has n i live ≡ true
    → found t live ≡ Some (live_start i n)
has_found t n i [] agree single h = absurd (both_ways false refl h)
has_found t n i (s ∷ rest) agree single h = elim (cases_Bool (t s)) [
  | inl e ↦ cond-true (t s) (Some s) (found t rest) e ∙ ap Some (here e)
  | inr e ↦ cond-false (t s) (Some s) (found t rest) e ∙ has_found t n i rest agree single.1 (later e)
]
  where
    here : t s ≡ true → s ≡ live_start i n
    here e = elim (cases_Bool (is_start n i s)) [
      | inl g ↦ same_start s i n (is_start_parts n i s g)
      | inr g ↦ absurd (both_ways true (sym h ∙ (ap (λ b. b || has n i rest) g ∙ has_free t n i rest agree (single.0 e))) refl)
    ]

    later : t s ≡ false → has n i rest ≡ true
    later e = elim (cases_Bool (is_start n i s)) [
      | inl g ↦ absurd (both_ways (t s) e (agree s g))
      | inr g ↦ sym (ap (λ b. b || has n i rest) g) ∙ h
    ]

-- what keeps a list single, free and below
pub free_without : (t u : Live → Bool) (live : List Live) → IsFree t live → IsFree t (without u live)
free_without t u [] h = tt
free_without t u (s ∷ rest) h = elim (cases_Bool (u s)) [
  | inl e ↦ subst (IsFree t) (sym (cond-true (u s) rest (s ∷ without u rest) e)) h.1
  | inr e ↦ subst (IsFree t) (sym (cond-false (u s) rest (s ∷ without u rest) e)) (h.0, free_without t u rest h.1)
]

pub single_without : (t u : Live → Bool) (live : List Live) → IsSingle t live → IsSingle t (without u live)
single_without t u [] h = tt
single_without t u (s ∷ rest) h = elim (cases_Bool (u s)) [
  | inl e ↦ subst (IsSingle t) (sym (cond-true (u s) rest (s ∷ without u rest) e)) h.1
  | inr e ↦
      subst (IsSingle t) (sym (cond-false (u s) rest (s ∷ without u rest) e))
      ((λ f. free_without t u rest (h.0 f)), single_without t u rest h.1)
]

pub below_without : (k : ℕ) (u : Live → Bool) (live : List Live) → IsBelow k live → IsBelow k (without u live)
below_without k u [] h = tt
below_without k u (s ∷ rest) h = elim (cases_Bool (u s)) [
  | inl e ↦ subst (IsBelow k) (sym (cond-true (u s) rest (s ∷ without u rest) e)) h.1
  | inr e ↦ subst (IsBelow k) (sym (cond-false (u s) rest (s ∷ without u rest) e)) (h.0, below_without k u rest h.1)
]

below_more : (k : ℕ) (live : List Live) → IsBelow k live → IsBelow (k + 1) live
below_more k [] h = tt
below_more k (s ∷ rest) h = ((let a : s.number < k = h.0 in omega arith), below_more k rest h.1)

pub below_placed : (id : List ℕ) (k : ℕ) (live : List Live) → IsBelow k live → IsBelow (k + 1) (placed id k live)
below_placed id k [] h = (omega arith, tt)
below_placed id k (s ∷ rest) h = elim (cases_Bool (has_id id s)) [
  | inl e ↦
      subst (IsBelow (k + 1)) (sym (cond-true (has_id id s) (live_start id k ∷ rest) (s ∷ placed id k rest) e))
      (omega arith, below_more k rest h.1)
  | inr e ↦
      subst (IsBelow (k + 1)) (sym (cond-false (has_id id s) (live_start id k ∷ rest) (s ∷ placed id k rest) e))
      ((let a : s.number < k = h.0 in omega arith), below_placed id k rest h.1)
]

free_below : (k m : ℕ) (live : List Live) → IsBelow k live → k ≡ m → IsFree (has_number m) live
free_below k m [] h e = tt
free_below k m (s ∷ rest) h e = (ne_eqb s.number m (λ f. let a : s.number < k = h.0 in omega arith), free_below k m rest h.1 e)

-- of a test that the placed start fails, and of any test of ids
free_placed : (t : Live → Bool) (id : List ℕ) (k : ℕ) (live : List Live) → t (live_start id k) ≡ false → IsFree t live
    → IsFree t (placed id k live)
free_placed t id k [] e h = (e, tt)
free_placed t id k (s ∷ rest) e h = elim (cases_Bool (has_id id s)) [
  | inl f ↦ subst (IsFree t) (sym (cond-true (has_id id s) (live_start id k ∷ rest) (s ∷ placed id k rest) f)) (e, h.1)
  | inr f ↦
      subst (IsFree t) (sym (cond-false (has_id id s) (live_start id k ∷ rest) (s ∷ placed id k rest) f))
      (h.0, free_placed t id k rest e h.1)
]

pub single_ids_placed : (j id : List ℕ) (k : ℕ) (live : List Live) → IsSingle (has_id j) live → IsSingle (has_id j) (placed id k live)
single_ids_placed j id k [] h = ((λ e. tt), tt)
single_ids_placed j id k (s ∷ rest) h = elim (cases_Bool (has_id id s)) [
  | inl f ↦ subst (IsSingle (has_id j)) (sym (cond-true (has_id id s) (live_start id k ∷ rest) (s ∷ placed id k rest) f))
      ((λ e. h.0 (ap (λ x. bytes_eq x j) (bytes_equal s.id id f) ∙ e)), h.1)
  | inr f ↦ subst (IsSingle (has_id j)) (sym (cond-false (has_id id s) (live_start id k ∷ rest) (s ∷ placed id k rest) f))
      ((λ e. free_placed (has_id j) id k rest (other f e) (h.0 e)), single_ids_placed j id k rest h.1)
]
  where
    other : has_id id s ≡ false → has_id j s ≡ true → bytes_eq id j ≡ false
    other f e = elim (cases_Bool (bytes_eq id j)) [
      | inl g ↦ absurd (both_ways (has_id id s) f ((bytes_decides s.id id).1 (bytes_equal s.id j e ∙ sym (bytes_equal id j g))))
      | inr g ↦ g
    ]

pub single_numbers_placed : (m : ℕ) (id : List ℕ) (k : ℕ) (live : List Live) → IsBelow k live → IsSingle (has_number m) live
    → IsSingle (has_number m) (placed id k live)
single_numbers_placed m id k [] b h = ((λ e. tt), tt)
single_numbers_placed m id k (s ∷ rest) b h = elim (cases_Bool (has_id id s)) [
  | inl f ↦ subst (IsSingle (has_number m)) (sym (cond-true (has_id id s) (live_start id k ∷ rest) (s ∷ placed id k rest) f))
      ((λ e. free_below k m rest b.1 (eqb-true k m e)), h.1)
  | inr f ↦ subst (IsSingle (has_number m)) (sym (cond-false (has_id id s) (live_start id k ∷ rest) (s ∷ placed id k rest) f))
      ((λ e. free_placed (has_number m) id k rest (other e) (h.0 e)), single_numbers_placed m id k rest b.1 h.1)
]
  where
    other : has_number m s ≡ true → (k == m) ≡ false
    other e = ne_eqb k m (λ q. let a : s.number < k = b.0 in let c : s.number ≡ m = eqb-true s.number m e in omega arith)
