-- One turn: what it does to the tasks, their states, the record and the pace.
use Rattle.std.proofs.Common.{ℕ, ◌≡◌, ◌+◌, ◌^◌, ◌≤◌, List, [], ◌∷◌, ◌++◌, length, get_or, refl, sym, ap, subst, ◌∙◌, arith, inl, inr}
use Rattle.std.specs.Prelude.{Some, option_map, slice_get, slice_set, true, false, Result, Ok, Err, OnErr, OnOk, map}
use Rattle.std.specs.Option.{ForSome}
use Rattle.gql_request.specs.declared.resolve_info.ResolveInfo.{ResolveInfo}
use Rattle.gql_resolve.specs.Call.{Call, call_of}
use Rattle.gql_resolve.specs.Record.{with_more, entry_of}
use Rattle.gql_resolve.specs.declared.answer.Answer.{Answer}
use Rattle.gql_resolve.specs.declared.resolver_context.ResolverContext.{ResolverContext}
use Rattle.gql_tasks.specs.declared.arena.State.{State}
use Rattle.gql_tasks.specs.declared.arena.State.TheVariants as state
use Rattle.gql_tasks.specs.declared.given.Given.{Given}
use Rattle.gql_tasks.specs.declared.given.Given.TheVariants.{Answered, Put}
use Rattle.gql_tasks.specs.Arena.{marks_of, made_of, fresh_states, started, total, IsRight, Nearer}
use Rattle.gql_tasks.specs.Given.{beneath_given}
use Rattle.gql_tasks.specs.Keeps.{Lent}
use Rattle.gql_tasks.specs.Pace.{to_come}
use Rattle.gql_tasks.specs.Parts.{Parts, Moment, choice_by, due_by, delay_by, stage, subject}
use Rattle.gql_tasks.specs.Plan.{IsContextOf, IsInfoOf}
use Rattle.gql_tasks.specs.Progress.{IsSound, Agrees, Passed, Progress, Went, Ended, story_of}
use Rattle.gql_tasks.specs.Record.{Ran, waiting_from}
use Rattle.gql_tasks.specs.Rounds.{event_of}
use Rattle.gql_tasks.specs.Turn.{StartsWaiting, KeepsWaiting, begins_now, enters_now, BeginsAtMost, EntersAtMost}
use Rattle.gql_lists.proofs.SliceLemmas.{get_append_left, get_set_other, set_set}
use Rattle.gql_tasks.proofs.NearerLemmas.{nearer_settled}
use Rattle.gql_tasks.proofs.PaceLemmas.{pays_answer, pays_waiting}
use Rattle.gql_tasks.proofs.PickLemmas.{Pick, picked, open_undone}
use Rattle.gql_tasks.proofs.RecordLemmas.{with_more_none}
use Rattle.gql_tasks.proofs.RoundLemmas.{enters_waiting, enters_answer, so_far_entered, so_far_enters}
use Rattle.gql_tasks.proofs.StepLemmas.{stepped_waits, stepped_answer}
use Rattle.gql_tasks.proofs.SoFarLemmas.{so_far_answer, so_far_none}
use Rattle.gql_tasks.proofs.SoundLemmas.{Stands, sound_settled, right_settled, sound_waits, right_waits}
use Rattle.gql_tasks.proofs.TurnLemmas.{begins_untold, entries_after, one_begins, staged, Chosen, ran_pending, ran_ready, stopped_after}

-- a clause over a result that is handed on
pub on_ok : {T E : Type 0} (r : Result T E) (P : Type 0) → P → OnOk r P
on_ok (Ok x) P p = p
on_ok (Err e) P p = tt

pub on_err : {T E : Type 0} (r : Result T E) (P : Type 0) → P → OnErr r P
on_err (Ok x) P p = tt
on_err (Err e) P p = p

module _ {R Own World Future L H P : Type 0} (e : Parts R Own World Future L H P) where
  -- a task is taken up, by the choice of the turns
  pub record Taken (old : Moment R Future L H P) (turns : P) (number : ℕ) (was : State Future) (context : ResolverContext Own) (info : ResolveInfo) : Type 0 where
    pub sound : IsSound e old
    pub pick : Pick e.root e.set.is_for (subject e) (e.plan.tasks old.plan) old.states number was
    pub context_is : IsContextOf number (e.plan.asks pick.task) context
    pub info_is : IsInfoOf (e.plan.asks pick.task) info
    pub chosen : ForSome (e.turns.state old.turns) (λ s. slice_get (waiting_from 0 (marks_of old.states)) (e.turns.choice s (length (waiting_from 0 (marks_of old.states)))) ≡ Some number)
    pub turns_is : e.turns.state turns ≡ option_map (λ s. e.turns.after s (length (waiting_from 0 (marks_of old.states)))) (e.turns.state old.turns)

  -- a future that waits after a turn
  record Waits (call : Call Own) (new : State Future) : Type 0 where
    future : Future
    new_is : state.Waiting future ≡ new
    fits : e.set.is_for future call

module _ {R Own World Future L H P : Type 0} {e : Parts R Own World Future L H P} where
  -- what is sound, of plain lists
  pub stands : {m : Moment R Future L H P} → IsSound e m
      → Stands e.root e.set.is_for (subject e) (e.plan.holds m.plan) (e.plan.tasks m.plan) m.states m.waiting
  stands sound = record { lengths = sound.lengths; waits = sound.waits; fits = sound.fits }

  pub sound_of : (m : Moment R Future L H P) → Stands e.root e.set.is_for (subject e) (e.plan.holds m.plan) (e.plan.tasks m.plan) m.states m.waiting → IsSound e m
  sound_of m s = record { lengths = s.lengths; waits = s.waits; fits = s.fits }

  pub taken : {old : Moment R Future L H P} (turns : P) (place number : ℕ) (was : State Future) (context : ResolverContext Own) (info : ResolveInfo)
      → IsSound e old → slice_get old.waiting place ≡ Some number → was ≡ get_or old.states number was
      → ((task : e.plan.Task) → slice_get (e.plan.tasks old.plan) number ≡ Some task → IsContextOf number (e.plan.asks task) context)
      → ((task : e.plan.Task) → slice_get (e.plan.tasks old.plan) number ≡ Some task → IsInfoOf (e.plan.asks task) info)
      → ForSome (e.turns.state old.turns) (λ s. place ≡ e.turns.choice s (length old.waiting))
      → e.turns.state turns ≡ option_map (λ s. e.turns.after s (length old.waiting)) (e.turns.state old.turns)
      → Taken e old turns number was context info
  taken {old = old} turns place number was context info sound stood read contexts infos choices turns_is =
      let pick = picked place number was (stands sound) stood read in
      let count : length old.waiting ≡ length (waiting_from 0 (marks_of old.states)) = ap length sound.waits in
      record {
        sound = sound;
        pick = pick;
        context_is = contexts pick.task pick.task_is;
        info_is = infos pick.task pick.task_is;
        chosen = λ s is. subst (λ ns. slice_get ns (e.turns.choice s (length (waiting_from 0 (marks_of old.states)))) ≡ Some number) sound.waits
            (subst (λ k. slice_get old.waiting (e.turns.choice s k) ≡ Some number) count (subst (λ p. slice_get old.waiting p ≡ Some number) (choices s is) stood));
        turns_is = turns_is ∙ ap (λ k. option_map (λ s. e.turns.after s k) (e.turns.state old.turns)) count;
      }

  starts : (call : Call Own) (old new : State Future) → StartsWaiting e.set.is_for call old new → Waits e call new
  starts call state.Fresh (state.Waiting f) is = record { future = f; new_is = refl; fits = is }
  starts call state.Fresh state.Fresh is = absurd is
  starts call state.Fresh state.Done is = absurd is
  starts call (state.Waiting f) new is = absurd is
  starts call state.Done new is = absurd is

  keeps_on : (call : Call Own) (old new : State Future) → KeepsWaiting e.set.is_for e.set.number call old new → Waits e call new
  keeps_on call (state.Waiting f) (state.Waiting h) is = record { future = h; new_is = refl; fits = is.0 }
  keeps_on call (state.Waiting f) state.Fresh is = absurd is
  keeps_on call (state.Waiting f) state.Done is = absurd is
  keeps_on call state.Fresh new is = absurd is
  keeps_on call state.Done new is = absurd is

  module _ {old : Moment R Future L H P} {turns : P} {number : ℕ} {was : State Future} {context : ResolverContext Own} {info : ResolveInfo} (t : Taken e old turns number was context info) where
    pub undone : was ≡ state.Done → ⊥
    undone = open_undone e.set.is_for (e.plan.asks t.pick.task).call was t.pick.open_is

    -- a task that has its answer isn't the one that is taken up
    elsewhere : (n : ℕ) → n ≡ number → slice_get old.states n ≡ Some state.Done → ⊥
    elsewhere n same is =
        let there : slice_get old.states number ≡ Some state.Done = subst (λ k. slice_get old.states k ≡ Some state.Done) same is in
        let was_is = t.pick.old_is in
        let done : was ≡ state.Done = cc in
        undone done

    chosen_by : Chosen Own e.plan.Task Future e.turns.State (choice_by e.turns) e.plan.asks
        (e.turns.state old.turns) (e.turns.state turns) (e.plan.tasks old.plan) old.states number t.pick.task was context
    chosen_by = record {
      picked = t.chosen;
      turns_is = t.turns_is;
      task_is = t.pick.task_is;
      old_is = t.pick.old_is;
      open_is = undone;
      context_is = t.context_is;
    }

    -- the moment after a turn without an answer
    abbrev pub pending : R → H → ℕ → Lent → State Future → Moment R Future L H P
    pending set hooks steps lent new = record {
      plan = old.plan;
      states = slice_set old.states number new;
      waiting = old.waiting;
      set = set;
      hooks = hooks;
      turns = turns;
      steps = steps;
      lent = lent;
    }

    -- what the hooks and the steps show of a turn that ended well
    pub record Shows (hooks : H) (steps : ℕ) : Type 0 where
      pub told_is : e.hooks.told hooks ≡ with_more (e.hooks.told old.hooks) (map (event_of e.hooks) (enters_now context info was))
      pub stepped : e.hooks.are_quiet old.hooks → steps ≡ old.steps + length (begins_now context.task was)

    went_waiting : (set : R) (hooks : H) (steps : ℕ) (lent : Lent) (new : State Future) → Shows hooks steps → Waits e (call_of context) new
        → (e.set.is_paced old.set → e.hooks.are_quiet old.hooks → to_come e.set.number (delay_by e.set old.set context.resolver) was
        ≡ false ∷ to_come e.set.number (delay_by e.set old.set context.resolver) new)
        → (e.hooks.are_quiet old.hooks → e.set.told set ≡ with_more (e.set.told old.set) (entry_of context false ∷ []))
        → (e.hooks.are_quiet old.hooks → e.set.begun set ≡ with_more (e.set.begun old.set) (begins_now context.task was))
        → Went e old (pending set hooks steps lent new)
    went_waiting set hooks steps lent new shows w paid told_is begun_is = subst (λ s. Went e old (pending set hooks steps lent s)) w.new_is
        (record {
          sound = sound_of (pending set hooks steps lent (state.Waiting w.future))
              (sound_waits Own e.plan.Task Future e.root e.set.is_for (subject e) (e.plan.holds old.plan) (e.plan.tasks old.plan) old.states old.waiting number t.pick.task was w.future
              (stands t.sound) t.pick.task_is t.pick.old_is undone t.pick.not_root (subst (e.set.is_for w.future) t.context_is.call_is w.fits));
          passed = record {
            stays = λ n is. record {
              done = get_set_other old.states number n (state.Waiting w.future) (λ same. elsewhere n same is) ∙ is;
              held = λ given held. held;
            };
            enters = enters_waiting old number t.pick.task was context info t.pick.task_is t.pick.old_is t.context_is t.info_is
                (pending set hooks steps lent (state.Waiting w.future)) w.future shows.told_is refl refl;
            stepped = λ calm. stepped_waits Future old.states number context.task was (state.Waiting w.future) old.steps steps t.pick.old_is undone refl (shows.stepped calm);
            progress = λ law calm answers agrees. record {
              right = λ base. right_waits Own e.plan.Task Future e.root e.set.is_for (subject e) base answers (e.plan.holds old.plan) (e.plan.tasks old.plan) old.states number w.future t.pick.within;
              ran = ran_pending Own e.plan.Task Future e.turns.State (choice_by e.turns) e.plan.asks e.plan.beneath answers
                  (e.turns.state old.turns) (e.turns.state turns) (e.plan.tasks old.plan) old.states number t.pick.task was context chosen_by
                  (e.set.told old.set) (e.set.told set) (e.set.begun old.set) (e.set.begun set) (begun_is calm) w.future (told_is calm);
            };
            paces = λ pace calm. pays_waiting old (pending set hooks steps lent (state.Waiting w.future)) number t.pick.task was (state.Waiting w.future) context
                t.pick.task_is t.pick.old_is t.context_is (told_is calm)
                (subst (λ s. to_come e.set.number (delay_by e.set old.set context.resolver) was ≡ false ∷ to_come e.set.number (delay_by e.set old.set context.resolver) s) (sym w.new_is) (paid pace calm))
                refl refl;
          };
        })

    pub went_begun : (set : R) (hooks : H) (steps : ℕ) (lent : Lent) (new : State Future) → Shows hooks steps → StartsWaiting e.set.is_for (call_of context) was new
        → (e.set.is_paced old.set → e.hooks.are_quiet old.hooks → to_come e.set.number (delay_by e.set old.set context.resolver) was
        ≡ false ∷ to_come e.set.number (delay_by e.set old.set context.resolver) new)
        → (e.hooks.are_quiet old.hooks → e.set.told set ≡ with_more (e.set.told old.set) (entry_of context false ∷ []))
        → (e.hooks.are_quiet old.hooks → e.set.begun set ≡ with_more (e.set.begun old.set) (begins_now context.task was))
        → Went e old (pending set hooks steps lent new)
    went_begun set hooks steps lent new shows turned = went_waiting set hooks steps lent new shows (starts (call_of context) was new turned)

    pub went_pending : (set : R) (hooks : H) (steps : ℕ) (lent : Lent) (new : State Future) → Shows hooks steps → KeepsWaiting e.set.is_for e.set.number (call_of context) was new
        → (e.set.is_paced old.set → e.hooks.are_quiet old.hooks → to_come e.set.number (delay_by e.set old.set context.resolver) was
        ≡ false ∷ to_come e.set.number (delay_by e.set old.set context.resolver) new)
        → (e.hooks.are_quiet old.hooks → e.set.told set ≡ with_more (e.set.told old.set) (entry_of context false ∷ []))
        → (e.hooks.are_quiet old.hooks → e.set.begun set ≡ with_more (e.set.begun old.set) (begins_now context.task was))
        → Went e old (pending set hooks steps lent new)
    went_pending set hooks steps lent new shows turned = went_waiting set hooks steps lent new shows (keeps_on (call_of context) was new turned)

    -- what a plan has done with what the task was given
    pub record Completed (plan : L) (given : Given Own) (count : ℕ) : Type 0 where
      pub made : e.plan.tasks plan ≡ e.plan.tasks old.plan ++ beneath_given e.plan.beneath t.pick.task given
      pub count_is : count ≡ length (beneath_given e.plan.beneath t.pick.task given)
      pub holding : e.plan.holds plan number given
      pub keeps : (other : ℕ) (g : Given Own) → (other ≡ number → ⊥) → e.plan.holds old.plan other g → e.plan.holds plan other g

    pub completed_with : (plan : L) (given : Given Own)
        → ((task : e.plan.Task) → slice_get (e.plan.tasks old.plan) number ≡ Some task
        → e.plan.tasks plan ≡ e.plan.tasks old.plan ++ beneath_given e.plan.beneath task given)
        → e.plan.holds plan number given
        → ((other : ℕ) (g : Given Own) → (other ≡ number → ⊥) → e.plan.holds old.plan other g → e.plan.holds plan other g)
        → Completed plan given (length (beneath_given e.plan.beneath t.pick.task given))
    completed_with plan given made holding keeps =
        record { made = made t.pick.task t.pick.task_is; count_is = refl; holding = holding; keeps = keeps }

    -- the tasks under are no roots of a mutation
    abbrev pub NeverRoots : Type 0
    NeverRoots = (task : e.plan.Task) (answer : Answer Own) (place : ℕ) (below : e.plan.Task)
        → slice_get (e.plan.beneath task answer) place ≡ Some below → (e.plan.asks below).call.is_root ≡ false

    pub no_roots : NeverRoots → (given : Given Own) (place : ℕ) (below : e.plan.Task)
        → slice_get (beneath_given e.plan.beneath t.pick.task given) place ≡ Some below → (e.plan.asks below).call.is_root ≡ false
    no_roots never (Answered answer) place below is = never t.pick.task answer place below is
    no_roots never (Put put) place below is = absurd (cc)

    -- the states after an answer, whatever state the task itself had come to
    pub settled_states : (states : List (State Future)) (new : State Future) (count : ℕ) (more : List e.plan.Task) → count ≡ length more
        → states ≡ slice_set (slice_set old.states number new) number state.Done ++ fresh_states count
        → slice_set old.states number state.Done ++ fresh_states (length more) ≡ states
    settled_states states new count more count_is is =
        sym (is ∙ ap (λ ss. ss ++ fresh_states count) (set_set old.states number new state.Done) ∙ ap (λ k. slice_set old.states number state.Done ++ fresh_states k) count_is)

    progress_answered : (new : Moment R Future L H P) (now : State Future) (given : Given Own) (count : ℕ) → Completed new.plan given count
        → new.states ≡ slice_set (slice_set old.states number now) number state.Done ++ fresh_states count
        → e.turns.state new.turns ≡ e.turns.state turns
        → given ≡ Answered (due_by e.set old.set (call_of context))
        → e.set.told new.set ≡ with_more (e.set.told old.set) (entry_of context true ∷ [])
        → e.set.begun new.set ≡ with_more (e.set.begun old.set) (begins_now context.task was)
        → (answers : e.plan.Task → Answer Own) → Agrees (subject e) e.root (due_by e.set old.set) answers → Progress e old new answers
    progress_answered new now given count made states_is turns_is given_is told_is begun_is answers agrees =
        let more = beneath_given e.plan.beneath t.pick.task given in
        let form = settled_states new.states now count more made.count_is states_is in
        let due_is : given ≡ Answered (answers t.pick.task) = given_is ∙ ap Answered (ap (due_by e.set old.set) t.context_is.call_is ∙ sym (agrees.agrees t.pick.task t.pick.not_root)) in
        record {
          right = λ base right. subst (λ ts. IsRight base answers (e.plan.holds new.plan) ts new.states) (sym made.made)
              (subst (λ ss. IsRight base answers (e.plan.holds new.plan) (e.plan.tasks old.plan ++ more) ss) form
              (right_settled Own e.plan.Task Future e.root e.set.is_for (subject e) base answers (e.plan.holds old.plan) (e.plan.holds new.plan) (e.plan.tasks old.plan) more old.states number t.pick.task
              t.sound.lengths right t.pick.task_is made.keeps (subst (e.plan.holds new.plan number) due_is made.holding)));
          ran = ran_answered new more form made.made turns_is told_is begun_is answers (ap (beneath_given e.plan.beneath t.pick.task) due_is);
        }
      where
        ran_answered : (new : Moment R Future L H P) (more : List e.plan.Task) → slice_set old.states number state.Done ++ fresh_states (length more) ≡ new.states
            → e.plan.tasks new.plan ≡ e.plan.tasks old.plan ++ more → e.turns.state new.turns ≡ e.turns.state turns
            → e.set.told new.set ≡ with_more (e.set.told old.set) (entry_of context true ∷ [])
            → e.set.begun new.set ≡ with_more (e.set.begun old.set) (begins_now context.task was)
            → (answers : e.plan.Task → Answer Own) → more ≡ e.plan.beneath t.pick.task (answers t.pick.task)
            → Ran (choice_by e.turns) (story_of (subject e) answers) (stage e old) (stage e new)
        ran_answered new more form made turns_is told_is begun_is answers more_is =
            subst (λ ss. Ran (choice_by e.turns) (story_of (subject e) answers) (stage e old) (staged (made_of (e.plan.tasks new.plan) ss) (e.set.told new.set) (e.set.begun new.set) (e.turns.state new.turns))) form
            (subst (λ ts. Ran (choice_by e.turns) (story_of (subject e) answers) (stage e old)
            (staged (made_of ts (slice_set old.states number state.Done ++ fresh_states (length more))) (e.set.told new.set) (e.set.begun new.set) (e.turns.state new.turns))) (sym made)
            (subst (λ s. Ran (choice_by e.turns) (story_of (subject e) answers) (stage e old)
            (staged (made_of (e.plan.tasks old.plan ++ more) (slice_set old.states number state.Done ++ fresh_states (length more))) (e.set.told new.set) (e.set.begun new.set) s)) (sym turns_is)
            (ran_ready Own e.plan.Task Future e.turns.State (choice_by e.turns) e.plan.asks e.plan.beneath answers
            (e.turns.state old.turns) (e.turns.state turns) (e.plan.tasks old.plan) old.states number t.pick.task was context chosen_by
            (e.set.told old.set) (e.set.told new.set) (e.set.begun old.set) (e.set.begun new.set) begun_is more told_is more_is)))

    -- a task has its answer
    pub passed_answered : (new : Moment R Future L H P) → Shows new.hooks new.steps → (now : State Future) (given : Given Own) (count : ℕ) → Completed new.plan given count
        → new.states ≡ slice_set (slice_set old.states number now) number state.Done ++ fresh_states count
        → e.turns.state new.turns ≡ e.turns.state turns
        → (e.set.is_lawful old.set → e.hooks.are_quiet old.hooks → given ≡ Answered (due_by e.set old.set (call_of context)))
        → (e.set.is_paced old.set → e.hooks.are_quiet old.hooks → to_come e.set.number (delay_by e.set old.set context.resolver) was ≡ true ∷ [])
        → (e.hooks.are_quiet old.hooks → e.set.told new.set ≡ with_more (e.set.told old.set) (entry_of context true ∷ []))
        → (e.hooks.are_quiet old.hooks → e.set.begun new.set ≡ with_more (e.set.begun old.set) (begins_now context.task was))
        → Passed e old new
    passed_answered new shows now given count made states_is turns_is given_is paid told_is begun_is = record {
      enters = enters_answer old number t.pick.task was context info t.pick.task_is t.pick.old_is t.context_is t.info_is new (beneath_given e.plan.beneath t.pick.task given) count
          shows.told_is made.made (states_is ∙ ap (λ ss. ss ++ fresh_states count) (set_set old.states number now state.Done));
      stepped = λ calm. subst (λ ss. new.steps + total started old.states ≡ old.steps + total started ss)
          (sym (states_is ∙ ap (λ ss. ss ++ fresh_states count) (set_set old.states number now state.Done)))
          (stepped_answer Future old.states number context.task count was old.steps new.steps t.pick.old_is undone (shows.stepped calm));
      stays = λ n is. record {
        done = ap (λ ss. slice_get ss n) (states_is ∙ ap (λ ss. ss ++ fresh_states count) (set_set old.states number now state.Done))
            ∙ get_append_left (slice_set old.states number state.Done) (fresh_states count) n state.Done
            (get_set_other old.states number n state.Done (λ same. elsewhere n same is) ∙ is);
        held = λ g held. made.keeps n g (λ same. elsewhere n same is) held;
      };
      progress = λ law calm. progress_answered new now given count made states_is turns_is (given_is law calm) (told_is calm) (begun_is calm);
      paces = λ pace calm. pays_answer old new number t.pick.task was context (beneath_given e.plan.beneath t.pick.task given) count t.pick.task_is t.pick.old_is t.context_is
          (told_is calm) (paid pace calm) made.made (states_is ∙ ap (λ ss. ss ++ fresh_states count) (set_set old.states number now state.Done));
    }

    -- memory ran out before the entry of the turn
    pub ended_before : (new : Moment R Future L H P)
        → EntersAtMost (map (event_of e.hooks) (enters_now context info was)) (e.hooks.told old.hooks) (e.hooks.told new.hooks)
        → (e.hooks.are_quiet old.hooks → e.set.told new.set ≡ with_more (e.set.told old.set) [])
        → (e.hooks.are_quiet old.hooks → BeginsAtMost (begins_now context.task was) (e.set.begun old.set) (e.set.begun new.set))
        → Ended e old new
    ended_before new most told_is begins = record {
      enters = so_far_enters old number t.pick.task was context info t.pick.task_is t.pick.old_is t.context_is t.info_is new.hooks most;
      progress = λ law calm answers agrees. elim (begins calm) [
        | inl same ↦ so_far_none old new answers [] (told_is calm ∙ with_more_none (e.set.told old.set)) (omega arith) tt
            (same ∙ sym (with_more_none (e.set.begun old.set)))
        | inr one ↦ so_far_none old new answers (begins_now context.task was) (told_is calm ∙ with_more_none (e.set.told old.set)) (one_begins context.task was)
            (begins_untold (e.plan.tasks old.plan) old.states number context.task was t.context_is.task_is t.pick.old_is) one
      ];
    }

    -- memory ran out after it
    pub ended_after : (new : Moment R Future L H P)
        → e.hooks.told new.hooks ≡ with_more (e.hooks.told old.hooks) (map (event_of e.hooks) (enters_now context info was))
        → (e.set.is_paced old.set → e.hooks.are_quiet old.hooks → to_come e.set.number (delay_by e.set old.set context.resolver) was ≡ true ∷ [])
        → (e.hooks.are_quiet old.hooks → e.set.told new.set ≡ with_more (e.set.told old.set) (entry_of context true ∷ []))
        → (e.hooks.are_quiet old.hooks → e.set.begun new.set ≡ with_more (e.set.begun old.set) (begins_now context.task was))
        → Ended e old new
    ended_after new entered_is paid told_is begun_is = record {
      enters = so_far_entered old number t.pick.task was context info t.pick.task_is t.pick.old_is t.context_is t.info_is new.hooks entered_is;
      progress = λ law calm answers agrees. so_far_answer old new number t.pick.task was context answers t.pick.task_is t.pick.old_is t.context_is
          (stopped_after Own e.plan.Task Future e.turns.State (choice_by e.turns) e.plan.asks e.plan.beneath answers
          (e.turns.state old.turns) (e.turns.state turns) (e.plan.tasks old.plan) old.states number t.pick.task was context chosen_by
          (e.set.told old.set) (e.set.told new.set) (e.set.begun old.set) (e.set.begun new.set) (begun_is calm) true (told_is calm))
          (entries_after Own e.plan.Task Future e.turns.State (choice_by e.turns) e.plan.asks e.plan.beneath answers
          (e.turns.state old.turns) (e.turns.state turns) (e.plan.tasks old.plan) old.states number t.pick.task was context chosen_by
          (e.set.told old.set) (e.set.told new.set) (e.set.begun old.set) (e.set.begun new.set) (begun_is calm) true (told_is calm))
          (λ pace. paid pace calm);
    }

    pub nearer_answered : (states : List (State Future)) (new : State Future) (count : ℕ)
        → states ≡ slice_set (slice_set old.states number new) number state.Done ++ fresh_states count → length states ≤ 2 ^ 64
        → Nearer e.set.number true old.states states
    nearer_answered states new count is room =
        let form : slice_set old.states number state.Done ++ fresh_states count ≡ states = sym (is ∙ ap (λ ss. ss ++ fresh_states count) (set_set old.states number new state.Done)) in
        subst (λ ss. Nearer e.set.number true old.states ss) form
        (nearer_settled Future e.set.number old.states number count was t.pick.old_is undone (subst (λ ss. length ss ≤ 2 ^ 64) (sym form) room))
