-- Entries in the strict order of their marks.
use Rattle.std.proofs.Common.{◌≡◌, ◌⊎◌, inl, inr, ℕ, zero, suc, ◌+◌, ◌<◌, List, [], ◌∷◌, length, Some, slice_get, refl, ap, sym, ◌∙◌, arith}
use Rattle.gql_lists.proofs.SliceLemmas.{get_within}
use Rattle.gql_conflicts.specs.Classes.{HasKeysOnce}
use Rattle.gql_conflicts.specs.Marks.{mark_of}
use Rattle.gql_conflicts.specs.Proposals.{ascends_at, mark_at}
use Rattle.gql_conflicts.specs.declared.entry.Entry.{Entry}
use Rattle.gql_conflicts.proofs.BelowLemmas.{contains_at}

-- an item before another
get_before : {A : Type 0} (xs : List A) (n : ℕ) (x : A) → slice_get xs (suc n) ≡ Some x → (y : A) × (slice_get xs n ≡ Some y)
get_before [] n x at = cc
get_before (y ∷ ys) zero x at = (y, refl)
get_before (y ∷ ys) (suc n) x at = get_before ys n x at

three_ways : (i j : ℕ) → ((d : ℕ) × (j ≡ suc (d + i))) ⊎ ((i ≡ j) ⊎ ((d : ℕ) × (i ≡ suc (d + j))))
three_ways zero zero = inr (inl refl)
three_ways zero (suc j) = inl (j, omega arith)
three_ways (suc i) zero = inr (inr (i, omega arith))
three_ways (suc i) (suc j) =
    elim (three_ways i j) [
      | inl h ↦ inl (h.0, omega (arith, h.1))
      | inr h ↦ inr (elim h [ inl e ↦ inl (ap suc e) | inr l ↦ inr (l.0, omega (arith, l.1)) ])
    ]

module _ (entries : List Entry) (ascends : (at : ℕ) → at < length entries → ascends_at entries at) where
  rises : (i d : ℕ) (one other : Entry) → slice_get entries i ≡ Some one → slice_get entries (suc (d + i)) ≡ Some other → mark_at one < mark_at other
  rises i zero one other at after = ascends i (get_within entries i one at) one other at (ap (slice_get entries) (let same : suc i ≡ suc (0 + i) = omega arith in same) ∙ after)
  rises i (suc d) one other at after =
      let (between, stands) = get_before entries (suc (d + i)) other (ap (slice_get entries) (let same : suc (suc (d + i)) ≡ suc (suc d + i) = omega arith in same) ∙ after) in
      let first = rises i d one between at stands in
      let second = ascends (suc (d + i)) (get_within entries (suc (d + i)) between stands) between other stands (ap (slice_get entries) (let same : suc (suc (d + i)) ≡ suc (suc d + i) = omega arith in same) ∙ after) in
      omega (arith, first, second)

  differ : (i j d : ℕ) (one other : Entry) → slice_get entries i ≡ Some one → slice_get entries j ≡ Some other → j ≡ suc (d + i) → mark_at one ≡ mark_at other → ⊥
  differ i j d one other at after later same =
      let less : mark_at one < mark_at other = rises i d one other at (ap (slice_get entries) (sym later) ∙ after) in
      omega (arith, less, same)

  pub keys_once : HasKeysOnce entries
  keys_once = λ one other has there class key.
      let (i, at) = contains_at entries one has in
      let (j, after) = contains_at entries other there in
      let marks : mark_at one ≡ mark_at other = λ k. mark_of (class k) (key k) in
      elim (three_ways i j) as (λ _. one ≡ other) [
        | inl h ↦ absurd (differ i j h.0 one other at after h.1 marks)
        | inr h ↦ elim h as (λ _. one ≡ other) [
          | inl e ↦ let both : Some one ≡ Some other = sym at ∙ ap (slice_get entries) e ∙ after in cc
          | inr l ↦ absurd (differ j i l.0 other one after at l.1 (sym marks))
        ]
      ]
