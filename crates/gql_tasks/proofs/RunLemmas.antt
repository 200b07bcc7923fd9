-- From the first turn to the last: fresh tasks, and what stands when none waits.
use Rattle.std.proofs.Common.{ℕ, zero, suc, ◌≡◌, List, [], ◌∷◌, length, refl, sym, ap, subst, ◌∙◌, arith}
use Rattle.std.specs.Prelude.{Some, slice_get}
use Rattle.gql_resolve.specs.declared.answer.Answer.{Answer}
use Rattle.gql_tasks.specs.declared.arena.State.{State}
use Rattle.gql_tasks.specs.declared.arena.State.TheVariants as state
use Rattle.gql_tasks.specs.declared.given.Given.{Given}
use Rattle.gql_tasks.specs.Arena.{mark_of, marks_of, made_of, fresh_states, Fits, IsRight}
use Rattle.gql_tasks.specs.Parts.{Parts, Moment}
use Rattle.gql_tasks.specs.Progress.{IsSound}
use Rattle.gql_tasks.specs.Record.{Mark, untold, begun, ready, Made, waiting_from, untold_marks, fresh}
use Rattle.gql_lists.proofs.SliceLemmas.{get_map, get_at, get_within}

module _ (V Task F : Type 0) where
  fresh_length : (n : ℕ) → length (fresh_states {F = F} n) ≡ n
  fresh_length zero = refl
  fresh_length (suc n) = ap suc (fresh_length n)

  fresh_at : (n k : ℕ) (s : State F) → slice_get (fresh_states n) k ≡ Some s → state.Fresh ≡ s
  fresh_at zero k s is = absurd (cc)
  fresh_at (suc n) zero s is = cc
  fresh_at (suc n) (suc k) s is = fresh_at n k s is

  pub first_right : (answers : Task → Answer V) (holds : ℕ → Given V → Type 0) (tasks : List Task) (states : List (State F)) (n : ℕ) → states ≡ fresh_states n → IsRight 0 answers holds tasks states
  first_right answers holds tasks states n is = subst (IsRight 0 answers holds tasks) (sym is)
      (record { kept = λ number task above task_is state_is. absurd (let e : state.Fresh ≡ state.Done = fresh_at n number state.Done state_is in cc) })

  first_marks : (tasks : List Task) → marks_of (fresh_states {F = F} (length tasks)) ≡ untold_marks tasks
  first_marks [] = refl
  first_marks (t ∷ tasks) = ap (λ ms. untold ∷ ms) (first_marks tasks)

  pub first_made : (tasks : List Task) (states : List (State F)) (n : ℕ) → states ≡ fresh_states n → n ≡ length tasks → made_of tasks states ≡ fresh tasks
  first_made tasks states n is n_is = ap (λ ms. let m : Made Task = record { tasks = tasks; marks = ms } in m) (ap marks_of (is ∙ ap fresh_states n_is) ∙ first_marks tasks)

  -- where none waits, each task has its answer
  all_ready : (first : ℕ) (marks : List Mark) (k : ℕ) (m : Mark) → waiting_from first marks ≡ [] → slice_get marks k ≡ Some m → ready ≡ m
  all_ready first [] k m none is = absurd (cc)
  all_ready first (untold ∷ marks) k m none is = absurd (cc)
  all_ready first (begun ∷ marks) k m none is = absurd (cc)
  all_ready first (ready ∷ marks) zero m none is = cc
  all_ready first (ready ∷ marks) (suc k) m none is = all_ready (suc first) marks k m none is

  done_mark : (s : State F) → ready ≡ mark_of s → state.Done ≡ s
  done_mark state.Fresh is = cc
  done_mark (state.Waiting f) is = cc
  done_mark state.Done is = refl

  pub all_done : (states : List (State F)) → waiting_from 0 (marks_of states) ≡ [] → (k : ℕ) (s : State F) → slice_get states k ≡ Some s → state.Done ≡ s
  all_done states none k s is = done_mark s (all_ready 0 (marks_of states) k (mark_of s) none (get_map mark_of states k s is))

-- where there is no task, none waits
pub none_waits : {Task F : Type 0} (waiting : List ℕ) (states : List (State F)) (n : ℕ) (tasks : List Task) → waiting ≡ waiting_from 0 (marks_of states) → states ≡ fresh_states n
    → n ≡ length tasks → tasks ≡ [] → waiting ≡ []
none_waits waiting states n tasks waits states_is n_is none =
    waits ∙ ap (λ ss. waiting_from 0 (marks_of ss)) (states_is ∙ ap fresh_states (n_is ∙ ap length none))

-- fresh tasks stand
module _ {R Own World Future L H P : Type 0} {e : Parts R Own World Future L H P} where
  pub first_sound : (m : Moment R Future L H P) (n : ℕ) → m.states ≡ fresh_states n → n ≡ length (e.plan.tasks m.plan) → m.waiting ≡ waiting_from 0 (marks_of m.states)
      → ((number : ℕ) (task : e.plan.Task) → slice_get (e.plan.tasks m.plan) number ≡ Some task → (e.plan.asks task).call.is_root ≡ e.root)
      → IsSound e m
  first_sound m n states_is n_is waits roots = record {
    lengths = ap length states_is ∙ fresh_length Own e.plan.Task Future n ∙ n_is;
    waits = waits;
    fits = λ number task s task_is state_is.
        subst (Fits e.root e.set.is_for (e.plan.holds m.plan number) (e.plan.asks task).call)
        (fresh_at Own e.plan.Task Future n number s (ap (λ ss. slice_get ss number) (sym states_is) ∙ state_is)) (roots number task task_is);
  }

  -- where none waits, each task has its answer
  pub all_answered : {m : Moment R Future L H P} → IsSound e m → m.waiting ≡ [] → (k : ℕ) (task : e.plan.Task) → slice_get (e.plan.tasks m.plan) k ≡ Some task
      → slice_get m.states k ≡ Some state.Done
  all_answered {m = m} sound none k task is =
      let within = get_within (e.plan.tasks m.plan) k task is in
      let lengths = sound.lengths in
      let at = get_at m.states k (omega arith) in
      at.1 ∙ ap Some (sym (all_done Own e.plan.Task Future m.states (sym sound.waits ∙ none) k at.0 at.1))
