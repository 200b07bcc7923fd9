-- Each turn brings the execution nearer to its end.
use Rattle.std.proofs.Common.{ℕ, zero, suc, ◌≡◌, ◌+◌, ◌-◌, ◌*◌, ◌^◌, ◌<◌, ◌≤◌, List, [], ◌∷◌, ◌++◌, length, refl, sym, ap, subst, ◌∙◌, arith}
use Rattle.std.proofs.lemmas.List.{length-append}
use Rattle.std.specs.Prelude.{Some, slice_get, slice_set, true, false}
use Rattle.gql_tasks.specs.declared.arena.State.{State}
use Rattle.gql_tasks.specs.declared.arena.State.TheVariants as state
use Rattle.gql_tasks.specs.Arena.{fresh_states, total, events_of, polls_of, Nearer}
use Rattle.gql_tasks.specs.Turn.{StartsWaiting, KeepsWaiting}
use Rattle.gql_lists.proofs.SliceLemmas.{length_set}

module _ (F : Type 0) where
  pub total_set : (weight : State F → ℕ) (states : List (State F)) (i : ℕ) (old new : State F) → slice_get states i ≡ Some old
      → total weight (slice_set states i new) + weight old ≡ total weight states + weight new
  total_set weight [] i old new is = absurd (cc)
  total_set weight (s ∷ states) zero old new is = (let e : s ≡ old = cc in let f : weight s ≡ weight old = ap weight e in omega arith)
  total_set weight (s ∷ states) (suc i) old new is = let h = total_set weight states i old new is in omega arith

  pub total_append : (weight : State F → ℕ) (one other : List (State F)) → total weight (one ++ other) ≡ total weight one + total weight other
  total_append weight [] other = omega arith
  total_append weight (s ∷ one) other = let h = total_append weight one other in omega arith

  total_fresh : (n : ℕ) → total {F = F} events_of (fresh_states n) ≡ 2 * n
  total_fresh zero = refl
  total_fresh (suc n) = let h = total_fresh n in omega arith

  length_fresh : (n : ℕ) → length (fresh_states {F = F} n) ≡ n
  length_fresh zero = refl
  length_fresh (suc n) = ap suc (length_fresh n)

  open_events : (s : State F) → (s ≡ state.Done → ⊥) → 0 < events_of s
  open_events state.Fresh differs = omega arith
  open_events (state.Waiting f) differs = omega arith
  open_events state.Done differs = absurd (differs refl)

  pub nearer_settled : (number : F → ℕ) (states : List (State F)) (i count : ℕ) (old : State F) → slice_get states i ≡ Some old → (old ≡ state.Done → ⊥)
      → length (slice_set states i state.Done ++ fresh_states count) ≤ 2 ^ 64
      → Nearer number true states (slice_set states i state.Done ++ fresh_states count)
  nearer_settled number states i count old is differs room =
      let a = total_set events_of states i old state.Done is in
      let b = total_append events_of (slice_set states i state.Done) (fresh_states count) in
      let d = total_fresh count in
      let e = length_set states i state.Done in
      let f = length-append (slice_set states i state.Done) (fresh_states {F = F} count) in
      let g = length_fresh count in
      let h = open_events old differs in
      numbers (length states) count (length (slice_set states i state.Done ++ fresh_states {F = F} count)) (total events_of states) (total events_of (slice_set states i state.Done ++ fresh_states count)) (events_of old)
      (omega arith) room h (omega arith)
    where
      numbers : (l count l' e e' o : ℕ) → l' ≡ l + count → l' ≤ 2 ^ 64 → 0 < o → e' + o ≡ e + 2 * count → 3 * (2 ^ 64 - l') + e' < 3 * (2 ^ 64 - l) + e
      numbers l count l' e e' o is room some total_is = omega arith

  -- a turn without an answer: the task has begun, or its future's number fell
  pub nearer_begun : (C : Type 0) (is_for : F → C → Type 0) (call : C) (number : F → ℕ) (states : List (State F)) (i : ℕ) (old new : State F) → slice_get states i ≡ Some old
      → StartsWaiting is_for call old new → Nearer number true states (slice_set states i new)
  nearer_begun C is_for call number states i state.Fresh (state.Waiting f) is turned =
      let a = total_set events_of states i state.Fresh (state.Waiting f) is in let e = length_set states i (state.Waiting f) in
      numbers (length states) (length (slice_set states i (state.Waiting f))) (total events_of states) (total events_of (slice_set states i (state.Waiting f))) e (omega arith)
    where
      numbers : (l l' e e' : ℕ) → l' ≡ l → e' + 1 ≡ e → 3 * (2 ^ 64 - l') + e' < 3 * (2 ^ 64 - l) + e
      numbers l l' e e' is total_is = subst (λ k. 3 * (2 ^ 64 - k) + e' < 3 * (2 ^ 64 - l) + e) (sym is) (omega arith)
  nearer_begun C is_for call number states i state.Fresh state.Fresh is turned = absurd turned
  nearer_begun C is_for call number states i state.Fresh state.Done is turned = absurd turned
  nearer_begun C is_for call number states i (state.Waiting f) new is turned = absurd turned
  nearer_begun C is_for call number states i state.Done new is turned = absurd turned

  pub nearer_pending : (C : Type 0) (is_for : F → C → Type 0) (call : C) (number : F → ℕ) (states : List (State F)) (i : ℕ) (old new : State F) → slice_get states i ≡ Some old
      → KeepsWaiting is_for number call old new → Nearer number false states (slice_set states i new)
  nearer_pending C is_for call number states i (state.Waiting f) (state.Waiting g) is turned =
      let a = total_set events_of states i (state.Waiting f) (state.Waiting g) is in let e = length_set states i (state.Waiting g) in
      let p = total_set (polls_of number) states i (state.Waiting f) (state.Waiting g) is in let fell = turned.1 in
      (numbers (length states) (length (slice_set states i (state.Waiting g))) (total events_of states) (total events_of (slice_set states i (state.Waiting g))) e (omega arith), omega arith)
    where
      numbers : (l l' e e' : ℕ) → l' ≡ l → e' ≡ e → 3 * (2 ^ 64 - l') + e' ≡ 3 * (2 ^ 64 - l) + e
      numbers l l' e e' is same = ap (λ k. 3 * (2 ^ 64 - k) + e') is ∙ ap (λ k. 3 * (2 ^ 64 - l) + k) same
  nearer_pending C is_for call number states i (state.Waiting f) state.Fresh is turned = absurd turned
  nearer_pending C is_for call number states i (state.Waiting f) state.Done is turned = absurd turned
  nearer_pending C is_for call number states i state.Fresh new is turned = absurd turned
  nearer_pending C is_for call number states i state.Done new is turned = absurd turned
