-- What a turn does to the tasks and their states.
use Rattle.std.proofs.Common.{ℕ, zero, suc, ◌≡◌, ◌<◌, List, ◌++◌, length, refl, sym, ap, subst, ◌∙◌, arith, inl, inr}
use Rattle.std.proofs.lemmas.Bool.{cases_eq}
use Rattle.std.proofs.lemmas.List.{length-map, length-append}
use Rattle.std.specs.Prelude.{Some, slice_get, slice_set, Bool}
use Rattle.gql_resolve.specs.Call.{Call}
use Rattle.gql_resolve.specs.declared.answer.Answer.{Answer}
use Rattle.gql_tasks.specs.declared.arena.State.{State}
use Rattle.gql_tasks.specs.declared.arena.State.TheVariants as state
use Rattle.gql_tasks.specs.Record.{Mark, ready, waiting_from}
use Rattle.gql_tasks.specs.Arena.{mark_of, marks_of, fresh_states, Subject, Fits, IsRight}
use Rattle.gql_tasks.specs.declared.given.Given.{Given}
use Rattle.gql_tasks.specs.declared.given.Given.TheVariants.{Answered}
use Rattle.gql_tasks.specs.Turn.{IsOpen}
use Rattle.gql_lists.proofs.SliceLemmas.{map_set, get_map, get_within, get_set_same, get_set_other, get_append, length_set}
use Rattle.gql_tasks.proofs.ArenaLemmas.{IsUnanswered, waits_at, waiting_kept}

-- what stands between two turns, of plain lists
pub record Stands {V Task F : Type 0} (root : Bool) (is_for : F → Call V → Type 0) (subject : Subject V Task) (holds : ℕ → Given V → Type 0)
    (tasks : List Task) (states : List (State F)) (waiting : List ℕ) : Type 0 where
  pub lengths : length states ≡ length tasks
  pub waits : waiting ≡ waiting_from 0 (marks_of states)
  pub fits : (number : ℕ) (task : Task) (s : State F) → slice_get tasks number ≡ Some task → slice_get states number ≡ Some s → Fits root is_for (holds number) (subject.call task) s

module _ (V Task F : Type 0) (root : Bool) (is_for : F → Call V → Type 0) (subject : Subject V Task) where
  -- the number that is chosen is that of a task, which may be taken up
  pub chosen_within : (holds : ℕ → Given V → Type 0) (tasks : List Task) (states : List (State F)) (waiting : List ℕ) (at number : ℕ)
      → Stands root is_for subject holds tasks states waiting → slice_get waiting at ≡ Some number → number < length states
  chosen_within holds tasks states waiting at number sound is =
      let w = waits_at 0 (marks_of states) at number (ap (λ ns. slice_get ns at) (sym sound.waits) ∙ is) in
      let e = w.number_is in
      let h = get_within (marks_of states) w.place w.mark w.stands in
      let l = length-map states mark_of in
      omega arith

  unanswered : (s : State F) (m : Mark) → Some (mark_of s) ≡ Some m → IsUnanswered m → (s ≡ state.Done → ⊥)
  unanswered s m is un done = subst IsUnanswered (let e : m ≡ ready = (let f : mark_of s ≡ ready = ap mark_of done in cc) in e) un

  pub chosen_open : (holds : ℕ → Given V → Type 0) (tasks : List Task) (states : List (State F)) (waiting : List ℕ) (at number : ℕ) (task : Task) (s : State F)
      → Stands root is_for subject holds tasks states waiting → slice_get waiting at ≡ Some number
      → slice_get tasks number ≡ Some task → slice_get states number ≡ Some s
      → ((subject.call task).is_root ≡ root) × IsOpen is_for (subject.call task) s
  chosen_open holds tasks states waiting at number task s sound is task_is state_is =
      let w = waits_at 0 (marks_of states) at number (ap (λ ns. slice_get ns at) (sym sound.waits) ∙ is) in
      let place_is : w.place ≡ number = (let e = w.number_is in omega arith) in
      let marked : Some (mark_of s) ≡ Some w.mark = sym (get_map mark_of states number s state_is) ∙ ap (slice_get (marks_of states)) (sym place_is) ∙ w.stands in
      by_cases s (sound.fits number task s task_is state_is) (unanswered s w.mark marked w.open_)
    where
      by_cases : (s : State F) → Fits root is_for (holds number) (subject.call task) s → (s ≡ state.Done → ⊥)
          → ((subject.call task).is_root ≡ root) × IsOpen is_for (subject.call task) s
      by_cases state.Fresh fits differs = (fits, tt)
      by_cases (state.Waiting future) fits differs = (fits.0, fits.1)
      by_cases state.Done fits differs = absurd (differs refl)

  pub fits_kept : (held held' : Given V → Type 0) → ((a : Given V) → held a → held' a)
      → (call : Call V) (s : State F) → Fits root is_for held call s → Fits root is_for held' call s
  fits_kept held held' keeps call state.Fresh fits = fits
  fits_kept held held' keeps call (state.Waiting future) fits = fits
  fits_kept held held' keeps call state.Done fits = (fits.0, keeps fits.0 fits.1)

  fresh_at : (n k : ℕ) (s : State F) → slice_get (fresh_states n) k ≡ Some s → state.Fresh ≡ s
  fresh_at zero k s is = absurd (cc)
  fresh_at (suc n) zero s is = cc
  fresh_at (suc n) (suc k) s is = fresh_at n k s is

  length_fresh : (n : ℕ) → length (fresh_states {F = F} n) ≡ n
  length_fresh zero = refl
  length_fresh (suc n) = ap suc (length_fresh n)

  -- a task is answered, and tasks are made under it
  pub sound_settled : (root' : Bool) (holds holds' : ℕ → Given V → Type 0) (tasks more : List Task) (states : List (State F)) (waiting waiting' : List ℕ) (number : ℕ) (given : Given V)
      → Stands root is_for subject holds tasks states waiting
      → ((other : ℕ) (a : Given V) → (other ≡ number → ⊥) → holds other a → holds' other a) → holds' number given
      → ((k : ℕ) (t : Task) → slice_get more k ≡ Some t → (subject.call t).is_root ≡ root')
      → ((n : ℕ) (t : Task) (s : State F) → (n ≡ number → ⊥) → slice_get states n ≡ Some s
      → Fits root is_for (holds' n) (subject.call t) s → Fits root' is_for (holds' n) (subject.call t) s)
      → waiting' ≡ waiting_from 0 (marks_of (slice_set states number state.Done ++ fresh_states (length more)))
      → Stands root' is_for subject holds' (tasks ++ more) (slice_set states number state.Done ++ fresh_states (length more)) waiting'
  sound_settled root' holds holds' tasks more states waiting waiting' number given sound keeps holding calls others waits = record {
    lengths = length-append (slice_set states number state.Done) (fresh_states (length more))
        ∙ (let a = length_set states number state.Done in let b = length_fresh (length more) in let d = length-append tasks more in let e = sound.lengths in omega arith);
    waits = waits;
    fits = λ n t s task_is state_is. elim (get_append tasks more n t task_is) [
      | inl at ↦ elim (get_append (slice_set states number state.Done) (fresh_states (length more)) n s state_is) [
        | inl st ↦ old n t s at st
        | inr st ↦ absurd (let h = get_within tasks n t at in let e = st.1 in let l = sound.lengths in let m = length_set states number state.Done in omega arith)
      ]
      | inr at ↦ elim (get_append (slice_set states number state.Done) (fresh_states (length more)) n s state_is) [
        | inl st ↦ absurd (let h = get_within (slice_set states number state.Done) n s st in let e = at.1 in let l = sound.lengths in let m = length_set states number state.Done in omega arith)
        | inr st ↦ subst (Fits root' is_for (holds' n) (subject.call t)) (fresh_at (length more) st.0 s st.2) (calls at.0 t at.2)
      ]
    ];
  }
    where
      old : (n : ℕ) (t : Task) (s : State F) → slice_get tasks n ≡ Some t → slice_get (slice_set states number state.Done) n ≡ Some s → Fits root' is_for (holds' n) (subject.call t) s
      old n t s at st = elim (cases_eq n number) [
        | inl same ↦ subst (Fits root' is_for (holds' n) (subject.call t)) (done n s same st (let h = get_within tasks n t at in let l = sound.lengths in omega arith)) (given, subst (λ k. holds' k given) (sym same) holding)
        | inr differs ↦ (let was = sym (get_set_other states number n state.Done differs) ∙ st in
            others n t s differs was (fits_kept (holds n) (holds' n) (λ a. keeps n a differs) (subject.call t) s (sound.fits n t s at was)))
      ]
        where
          done : (n : ℕ) (s : State F) → n ≡ number → slice_get (slice_set states number state.Done) n ≡ Some s → n < length states → state.Done ≡ s
          done n s same st within =
              let e = get_set_same states number state.Done (omega arith) in
              let f : slice_get (slice_set states number state.Done) number ≡ Some s = subst (λ k. slice_get (slice_set states number state.Done) k ≡ Some s) same st in
              cc

  pub right_settled : (base : ℕ) (answers : Task → Answer V) (holds holds' : ℕ → Given V → Type 0) (tasks more : List Task) (states : List (State F)) (number : ℕ) (task : Task)
      → length states ≡ length tasks
      → IsRight base answers holds tasks states → slice_get tasks number ≡ Some task
      → ((other : ℕ) (a : Given V) → (other ≡ number → ⊥) → holds other a → holds' other a) → holds' number (Answered (answers task))
      → IsRight base answers holds' (tasks ++ more) (slice_set states number state.Done ++ fresh_states (length more))
  right_settled base answers holds holds' tasks more states number task lengths right task_at keeps holding = record {
    kept = λ n t above task_is state_is. elim (get_append tasks more n t task_is) [
      | inl at ↦ elim (get_append (slice_set states number state.Done) (fresh_states (length more)) n state.Done state_is) [
        | inl st ↦ elim (cases_eq n number) [
          | inl same ↦ subst (λ k. holds' k (Answered (answers t))) (sym same) (subst (λ u. holds' number (Answered (answers u))) (let e : slice_get tasks number ≡ Some t = subst (λ k. slice_get tasks k ≡ Some t) same at in cc) holding)
          | inr differs ↦ keeps n (Answered (answers t)) differs (right.kept n t above at (sym (get_set_other states number n state.Done differs) ∙ st))
        ]
        | inr st ↦ absurd (let e : state.Fresh ≡ state.Done = fresh_at (length more) st.0 state.Done st.2 in cc)
      ]
      | inr at ↦ elim (get_append (slice_set states number state.Done) (fresh_states (length more)) n state.Done state_is) [
        | inl st ↦ absurd (let h = get_within (slice_set states number state.Done) n state.Done st in let e = at.1 in let m = length_set states number state.Done in omega arith)
        | inr st ↦ absurd (let e : state.Fresh ≡ state.Done = fresh_at (length more) st.0 state.Done st.2 in cc)
      ]
    ];
  }

  -- a future waits at a task
  pub sound_waits : (holds : ℕ → Given V → Type 0) (tasks : List Task) (states : List (State F)) (waiting : List ℕ) (number : ℕ) (task : Task) (old : State F) (future : F)
      → Stands root is_for subject holds tasks states waiting → slice_get tasks number ≡ Some task → slice_get states number ≡ Some old → (old ≡ state.Done → ⊥)
      → (subject.call task).is_root ≡ root → is_for future (subject.call task)
      → Stands root is_for subject holds tasks (slice_set states number (state.Waiting future)) waiting
  sound_waits holds tasks states waiting number task old future sound task_at old_at differs_done is_root fits = record {
    lengths = length_set states number (state.Waiting future) ∙ sound.lengths;
    waits = sound.waits ∙ sym (waiting_kept 0 (marks_of states) number (mark_of old) (get_map mark_of states number old old_at) (open_mark old differs_done))
        ∙ ap (waiting_from 0) (sym (map_set mark_of states number (state.Waiting future)));
    fits = λ n t s task_is state_is. elim (cases_eq n number) [
      | inl same ↦ here n t s same task_is state_is
      | inr differs ↦ sound.fits n t s task_is (sym (get_set_other states number n (state.Waiting future) differs) ∙ state_is)
    ];
  }
    where
      open_mark : (s : State F) → (s ≡ state.Done → ⊥) → IsUnanswered (mark_of s)
      open_mark state.Fresh differs = tt
      open_mark (state.Waiting f) differs = tt
      open_mark state.Done differs = absurd (differs refl)

      here : (n : ℕ) (t : Task) (s : State F) → n ≡ number → slice_get tasks n ≡ Some t → slice_get (slice_set states number (state.Waiting future)) n ≡ Some s → Fits root is_for (holds n) (subject.call t) s
      here n t s same task_is state_is =
          let e = get_set_same states number (state.Waiting future) (get_within states number old old_at) in
          let f : slice_get (slice_set states number (state.Waiting future)) number ≡ Some s = subst (λ k. slice_get (slice_set states number (state.Waiting future)) k ≡ Some s) same state_is in
          let i : state.Waiting future ≡ s = cc in
          let k : slice_get tasks number ≡ Some t = subst (λ k. slice_get tasks k ≡ Some t) same task_is in
          let u : task ≡ t = cc in
          subst (Fits root is_for (holds n) (subject.call t)) i (subst (λ u. (subject.call u).is_root ≡ root) u is_root, subst (λ u. is_for future (subject.call u)) u fits)

  pub right_waits : (base : ℕ) (answers : Task → Answer V) (holds : ℕ → Given V → Type 0) (tasks : List Task) (states : List (State F)) (number : ℕ) (future : F)
      → number < length states
      → IsRight base answers holds tasks states → IsRight base answers holds tasks (slice_set states number (state.Waiting future))
  right_waits base answers holds tasks states number future within right = record {
    kept = λ n t above task_is state_is. elim (cases_eq n number) [
      | inl same ↦ absurd (let e = get_set_same states number (state.Waiting future) within in
          let f : slice_get (slice_set states number (state.Waiting future)) number ≡ Some state.Done = subst (λ k. slice_get (slice_set states number (state.Waiting future)) k ≡ Some state.Done) same state_is in cc)
      | inr differs ↦ right.kept n t above task_is (sym (get_set_other states number n (state.Waiting future) differs) ∙ state_is)
    ];
  }
