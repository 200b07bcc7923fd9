-- Steps that are counted, one stretch after another.
use Rattle.std.proofs.Common.{ℕ, zero, suc, ◌≡◌, ◌+◌, List, [], ◌∷◌, ◌++◌, length, refl, sym, ap, ◌∙◌, arith}
use Rattle.std.proofs.lemmas.List.{length-append}
use Rattle.std.specs.Prelude.{Option, Some, slice_get, slice_set}
use Rattle.gql_resolve.specs.Record.{with_more}
use Rattle.gql_tasks.specs.declared.arena.State.{State}
use Rattle.gql_tasks.specs.declared.arena.State.TheVariants as state
use Rattle.gql_tasks.specs.Arena.{fresh_states, started, total}
use Rattle.gql_tasks.specs.Steps.{IsCounted}
use Rattle.gql_tasks.specs.Turn.{begins_now}
use Rattle.gql_tasks.proofs.NearerLemmas.{total_set, total_append}
use Rattle.gql_tasks.proofs.RecordLemmas.{with_more_none, with_more_append}

-- nothing began
pub none_counted : (begun begun' : Option (List ℕ)) (steps steps' : ℕ) → begun' ≡ begun → steps' ≡ steps
    → IsCounted begun begun' steps steps'
none_counted begun begun' steps steps' same still = record {
  started = [];
  begun_is = same ∙ sym (with_more_none begun);
  steps_is = omega (arith, still);
}

-- a task began
pub one_counted : (begun begun' : Option (List ℕ)) (task steps steps' : ℕ) → begun' ≡ with_more begun (task ∷ [])
    → steps' ≡ steps + 1 → IsCounted begun begun' steps steps'
one_counted begun begun' task steps steps' one more =
    record { started = task ∷ []; begun_is = one; steps_is = omega (arith, more) }

pub counted_on : {begun middle begun' : Option (List ℕ)} {steps between steps' : ℕ} → IsCounted begun middle steps between
    → IsCounted middle begun' between steps' → IsCounted begun begun' steps steps'
counted_on {begun = begun} one other = record {
  started = one.started ++ other.started;
  begun_is = other.begun_is ∙ ap (λ b. with_more b other.started) one.begun_is ∙ with_more_append begun one.started other.started;
  steps_is =
      let first = one.steps_is in
      let second = other.steps_is in
      let both = length-append one.started other.started in
      omega arith;
}

module _ (F : Type 0) where
  pub started_fresh : (n : ℕ) → total {F = F} started (fresh_states n) ≡ 0
  started_fresh zero = refl
  started_fresh (suc n) = let h = started_fresh n in omega arith

  -- a task that was open has begun after its turn
  one_more : (task : ℕ) (was now : State F) → (was ≡ state.Done → ⊥) → started now ≡ 1
      → started now ≡ started was + length (begins_now task was)
  one_more task state.Fresh now undone is = is
  one_more task (state.Waiting f) now undone is = is
  one_more task state.Done now undone is = absurd (undone refl)

  pub stepped_waits : (states : List (State F)) (number task : ℕ) (was now : State F) (steps steps' : ℕ)
      → slice_get states number ≡ Some was → (was ≡ state.Done → ⊥) → started now ≡ 1
      → steps' ≡ steps + length (begins_now task was)
      → steps' + total started states ≡ steps + total started (slice_set states number now)
  stepped_waits states number task was now steps steps' was_is undone now_is more =
      let a = total_set F started states number was now was_is in
      let b = one_more task was now undone now_is in
      omega (arith, more)

  pub stepped_answer : (states : List (State F)) (number task count : ℕ) (was : State F) (steps steps' : ℕ)
      → slice_get states number ≡ Some was → (was ≡ state.Done → ⊥)
      → steps' ≡ steps + length (begins_now task was)
      → steps' + total started states ≡ steps + total started (slice_set states number state.Done ++ fresh_states count)
  stepped_answer states number task count was steps steps' was_is undone more =
      let a = stepped_waits states number task was state.Done steps steps' was_is undone refl more in
      let b = total_append F started (slice_set states number state.Done) (fresh_states count) in
      let d = started_fresh count in
      omega arith

  -- where each task has its answer, each has begun
  pub all_started : (states : List (State F)) → ((k : ℕ) (s : State F) → slice_get states k ≡ Some s → state.Done ≡ s)
      → total started states ≡ length states
  all_started [] all = refl
  all_started (s ∷ states) all =
      let a : 1 ≡ started s = ap (started {F = F}) (all 0 s refl) in
      let b = all_started states (λ k t is. all (suc k) t is) in
      omega arith
