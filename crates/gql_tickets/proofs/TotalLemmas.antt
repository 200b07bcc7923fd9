-- Sums over views, and numbers among parts.
use Rattle.std.proofs.Common.{◌≡◌, ◌≢◌, ◌<◌, ◌≤◌, ◌+◌, ◌*◌, ◌++◌, ℕ, List, [], ◌∷◌, length, set, ◌==◌, eq-eqb, ne_eqb, refl, sym, ap}
use Rattle.std.proofs.Common.{zero, suc, arith}
use mathlib.Core.Option.{some-injective, some-ne-none}
use Rattle.gql_tickets.specs.declared.view.Part.{Part}
use Rattle.gql_tickets.specs.declared.view.View.{View}
use native.Mathlib.Decide.{ℕ_discrete}
use Rattle.gql_tickets.specs.Turns.{At, from, mark, times, total}

module _ {O E : Type 0} where
  -- the total after a change of one view
  pub total_set : (f : View O E → ℕ) (views : List (View O E)) (id : ℕ) (v w : View O E) → At views id v
      → total f (set views id w) + f v ≡ total f views + f w
  total_set f [] id v w at = absurd (some-ne-none v (sym at))
  total_set f (x ∷ xs) zero v w at = let e : f x ≡ f v = ap f (some-injective x v at) in omega arith
  total_set f (x ∷ xs) (suc id) v w at = let e = total_set f xs id v w at in omega arith

  pub total_snoc : (f : View O E → ℕ) (views : List (View O E)) (v : View O E) → total f (views ++ v ∷ []) ≡ total f views + f v
  total_snoc f [] v = omega arith
  total_snoc f (x ∷ xs) v = let e = total_snoc f xs v in omega arith

  pub total_least : (f : View O E → ℕ) (views : List (View O E)) (id : ℕ) (v : View O E) → At views id v → f v ≤ total f views
  total_least f [] id v at = absurd (some-ne-none v (sym at))
  total_least f (x ∷ xs) zero v at = let e : f x ≡ f v = ap f (some-injective x v at) in omega arith
  total_least f (x ∷ xs) (suc id) v at = let e = total_least f xs id v at in omega arith

  pub total_two : (f : View O E → ℕ) (views : List (View O E)) (i j : ℕ) (v w : View O E) → i ≢ j → At views i v → At views j w
      → f v + f w ≤ total f views
  total_two f [] i j v w other at at' = absurd (some-ne-none v (sym at))
  total_two f (x ∷ xs) zero zero v w other at at' = absurd (other refl)
  total_two f (x ∷ xs) zero (suc j) v w other at at' = let e : f x ≡ f v = ap f (some-injective x v at) in
      let l = total_least f xs j w at' in omega arith
  total_two f (x ∷ xs) (suc i) zero v w other at at' = let e : f x ≡ f w = ap f (some-injective x w at') in
      let l = total_least f xs i v at in omega arith
  total_two f (x ∷ xs) (suc i) (suc j) v w other at at' = let l = total_two f xs i j v w (λ e. other (ap suc e)) at at' in omega arith

  -- where f is at most so many times g of each view
  pub total_most : (f g : View O E → ℕ) (views : List (View O E)) → ((id : ℕ) (v : View O E) → At views id v
      → f v ≤ g v * 4294967296) → total f views ≤ total g views * 4294967296
  total_most f g [] all = omega arith
  total_most f g (x ∷ xs) all = let a = all 0 x refl in let b = total_most f g xs (λ id v at. all (suc id) v at) in omega arith

  pub set_at : (views : List (View O E)) (id : ℕ) (v w : View O E) → At views id v → At (set views id w) id w
  set_at [] id v w at = absurd (some-ne-none v (sym at))
  set_at (x ∷ xs) zero v w at = refl
  set_at (x ∷ xs) (suc id) v w at = set_at xs id v w at

  pub times_append : (n : ℕ) (ps qs : List (Part O E)) → times n (ps ++ qs) ≡ times n ps + times n qs
  times_append n [] qs = omega arith
  times_append n (p ∷ ps) qs = let e = times_append n ps qs in omega arith

  pub times_own : (p : Part O E) (ps : List (Part O E)) (n : ℕ) → p.number ≡ n → 1 ≤ times n (p ∷ ps)
  times_own p ps n own = let e : mark (p.number == n) ≡ 1 = ap mark (eq-eqb p.number n own) in omega arith

  pub times_other : (p : Part O E) (n : ℕ) → p.number ≢ n → times n (p ∷ []) ≡ 0
  times_other p n other = let e : mark (p.number == n) ≡ 0 = ap mark (ne_eqb p.number n other) in omega arith

module _ {O : Type 0} (E : Type 0) where
  -- a number stands once among those from one on
  pub from_before : (origin : O) (n start count : ℕ) → n < start → times n (from {O = O} {E = E} origin start count) ≡ 0
  from_before origin n start zero before = refl
  from_before origin n start (suc count) before = let other : start ≢ n = (λ e. let f : start ≡ n = e in omega arith) in
      let e : mark (start == n) ≡ 0 = ap mark (ne_eqb start n other) in
      let l = from_before origin n (start + 1) count (omega arith) in omega arith

  from_case : (origin : O) (n start count : ℕ) → times n (from {O = O} {E = E} origin (start + 1) count) ≤ 1 → Dec (start ≡ n)
      → times n (from {O = O} {E = E} origin start (suc count)) ≤ 1
  from_case origin n start count less (yes e) = let l = from_before origin n (start + 1) count (omega arith) in
      let k : mark (start == n) ≡ 1 = ap mark (eq-eqb start n e) in omega arith
  from_case origin n start count less (no d) = let k : mark (start == n) ≡ 0 = ap mark (ne_eqb start n d) in omega arith

  pub from_once : (origin : O) (n start count : ℕ) → times n (from {O = O} {E = E} origin start count) ≤ 1
  from_once origin n start zero = omega arith
  from_once origin n start (suc count) = from_case origin n start count (from_once origin n (start + 1) count) (ℕ_discrete start n)

  pub from_length : (origin : O) (start count : ℕ) → length (from {O = O} {E = E} origin start count) ≡ count
  from_length origin start zero = refl
  from_length origin start (suc count) = ap suc (from_length origin (start + 1) count)
