-- Phases one after another.
use Rattle.std.proofs.Common.{ℕ, zero, suc, ◌≡◌, ◌+◌, ◌<◌, ◌≤◌, List, [], ◌∷◌, ◌++◌, length, take, refl, sym, ap, subst, ◌∙◌, arith, inl, inr, length-append}
use Rattle.std.proofs.lemmas.List.{append-nil, length-map, map-append}
use Rattle.std.proofs.lemmas.List.Elements.{All-nil}
use Rattle.std.specs.Prelude.{Option, Some, None, ◌⊎◌, slice_get}
use Rattle.std.specs.Option.{ForSome}
use Rattle.gql_base.specs.declared.no_memory.NoMemory.{NoMemory}
use Rattle.gql_request.specs.Path.{IsFront}
use Rattle.gql_resolve.specs.Record.{with_more}
use Rattle.gql_resolve.specs.declared.answer.Answer.{Answer}
use Rattle.gql_resolve.specs.declared.record_entry.RecordEntry.{RecordEntry}
use Rattle.gql_resolve.specs.declared.resolver_set.ResolverSet.{Ghosts as Resolving}
use Rattle.gql_tasks.specs.declared.arena.State.{State}
use Rattle.gql_tasks.specs.declared.arena.State.TheVariants as state
use Rattle.gql_tasks.specs.Arena.{Fits, Subject, fresh_states, mark_of, marks_of, started, total}
use Rattle.gql_tasks.proofs.NearerLemmas.{total_append}
use Rattle.gql_tasks.specs.Pace.{pending_then_ready, to_come_at, told_of}
use Rattle.gql_tasks.specs.Parts.{Parts, Moment, choice_by, delay_at, stage, subject}
use Rattle.gql_tasks.specs.Phases.{CutBefore, CutInTurn, InTurn, IsCutPhase, IsPhase, IsRootOf, NextRoot, PacedSince, PacedSinceSoFar, PhaseCut, PhaseOver, Phases, Serving, serving_of, serving_with, story_in, with_root, world_past}
use Rattle.gql_tasks.specs.Progress.{Enters, IsSound, Paces, ProgressSoFar, Steady, story_of}
use Rattle.gql_tasks.specs.Record.{Choice, Mark, Ran, Stage, Stopped, begun, ready, tasks_at, untold, waiting_from}
use Rattle.gql_tasks.specs.Rounds.{IsOneOf, to_enter_at}
use Rattle.gql_lists.proofs.SliceLemmas.{get_append, get_append_left, get_at, get_within}
use Rattle.gql_tasks.proofs.PaceLemmas.{come_more}
use Rattle.gql_tasks.proofs.ProgressLemmas.{steady_none, steady_trans}
use Rattle.gql_tasks.proofs.RecordLemmas.{made_keeps, some_is, told_once, with_more_none}
use Rattle.gql_tasks.proofs.RoundLemmas.{enter_more, enters_none, enters_trans, so_far_enters_trans, so_far_enters_whole}
use Rattle.gql_tasks.proofs.RunLemmas.{all_answered, all_done}
use Rattle.gql_tasks.proofs.SoFarLemmas.{front_rest}

-- one more of those that wait, after the others
waiting_more : (first : ℕ) (marks : List Mark) → waiting_from first marks ≡ [] → waiting_from first (marks ++ untold ∷ []) ≡ (first + length marks) ∷ []
waiting_more first [] none = ap (λ n. n ∷ []) (let e : first ≡ first + 0 = omega arith in e)
waiting_more first (untold ∷ marks) none = absurd (cc)
waiting_more first (begun ∷ marks) none = absurd (cc)
waiting_more first (ready ∷ marks) none =
    waiting_more (suc first) marks none ∙ ap (λ n. n ∷ []) (let e : suc first + length marks ≡ first + suc (length marks) = omega arith in e)

get_last : {X : Type 0} (xs : List X) (x : X) → slice_get (xs ++ x ∷ []) (length xs) ≡ Some x
get_last [] x = refl
get_last (y ∷ xs) x = get_last xs x

module _ {V W Task : Type 0} (serving : Serving V W) (subject : Subject V Task) where
  -- one root key more
  pub past_more : (world : W) (done : List Task) (root : Task)
      → world_past serving subject world (done ++ root ∷ []) ≡ serving.effect (subject.call root) (world_past serving subject world done)
  past_more world [] root = refl
  past_more world (one ∷ done) root = past_more (serving.effect (subject.call one) world) done root

  module _ {State_ : Type 0} (choice : Choice State_) where
    pub phases_more : (world : W) (done : List Task) (root : Task) (old middle new : Stage Task State_) → Phases serving subject choice world done old middle
        → IsPhase serving subject choice (world_past serving subject world done) root middle new
        → Phases serving subject choice world (done ++ root ∷ []) old new
    phases_more world [] root old middle new phases phase =
        (new, subst (λ s. IsPhase serving subject choice world root s new) phases phase, refl)
    phases_more world (one ∷ done) root old middle new phases phase =
        (phases.0, phases.1, phases_more (serving.effect (subject.call one) world) done root phases.0 middle new phases.2 phase)

-- the same rules, and a pace that is known to be kept
module _ {R Own World Future Task State_ : Type 0} (set : Resolving R Own World Future) (subject : Subject Own Task) (choice : Choice State_) (kept given : Type 0)
    (keeps : given → kept) (world : World) (root : Task) (old : Stage Task State_) where
  same_phase : (rules rules' : set.Rules) (new : Stage Task State_) → rules ≡ rules' → IsPhase (serving_with set rules kept) subject choice world root old new
      → IsPhase (serving_with set rules' given) subject choice world root old new
  same_phase rules rules' new same phase =
      subst (λ r. IsPhase (serving_with set r given) subject choice world root old new) same
      (record { ran = phase.ran; whole = phase.whole; paces = λ pace. phase.paces (keeps pace) })

  same_cut : (rules rules' : set.Rules) (told : Option (List RecordEntry)) (starts : Option (List ℕ)) → rules ≡ rules'
      → IsCutPhase (serving_with set rules kept) subject choice world root old told starts
      → IsCutPhase (serving_with set rules' given) subject choice world root old told starts
  same_cut rules rules' told starts same phase =
      subst (λ r. IsCutPhase (serving_with set r given) subject choice world root old told starts) same
      (record { stopped = phase.stopped; paces = λ pace. phase.paces (keeps pace) })

module _ {R Own World Future L H P : Type 0} {e : Parts R Own World Future L H P} where
  -- before the first root key
  pub in_turn_none : (m : Moment R Future L H P) → m.states ≡ [] → e.plan.tasks m.plan ≡ [] → m.waiting ≡ waiting_from 0 (marks_of m.states) → InTurn e m m []
  in_turn_none m no_states no_tasks waits = record {
    steady = steady_none m;
    lengths = ap length no_states ∙ sym (ap length no_tasks);
    waits = waits;
    none = waits ∙ ap (λ ss. waiting_from 0 (marks_of ss)) no_states;
    enters = enters_none m m refl refl refl;
    stepped = λ calm. refl;
    phases = λ law calm. refl;
    world = λ law calm. refl;
  }

  module _ {now next : Moment R Future L H P} {root : e.plan.Task} (opens : NextRoot e now next root) where
    next_steady : Steady e now next
    next_steady = record {
      lent_is = opens.lent_is;
      rules_is = ap e.set.rules opens.set_is;
      lawful_is = λ law. subst e.set.is_lawful (sym opens.set_is) law;
      paced_is = λ pace. subst e.set.is_paced (sym opens.set_is) pace;
      quiet_is = λ calm. subst e.hooks.are_quiet (sym opens.hooks_is) calm;
      counted = record {
        started = [];
        begun_is = ap e.set.begun opens.set_is ∙ sym (with_more_none (e.set.begun now.set));
        steps_is = (let s = opens.steps_is in omega arith);
      };
    }

    next_enters : Enters e now next
    next_enters = record {
      stays = λ k task is. ap (λ ts. slice_get ts k) opens.tasks_is ∙ get_append_left (e.plan.tasks now.plan) (root ∷ []) k task is;
      rounds = record {
        entered = [];
        told_is = ap e.hooks.told opens.hooks_is ∙ sym (with_more_none (e.hooks.told now.hooks));
        own = All-nil (IsOneOf e.plan.asks (e.plan.tasks next.plan));
      };
      once = λ k.
          let a = enter_more Future now.states 1 k in
          let b = ap (λ ss. to_enter_at (slice_get ss k)) opens.states_is in
          omega arith;
    }

    -- what the record sees
    next_stage : stage e next ≡ with_root (stage e now) root
    next_stage = λ i. record {
      made = record { tasks = opens.tasks_is i; marks = (ap marks_of opens.states_is ∙ map-append mark_of now.states (fresh_states 1)) i };
      told = e.set.told (opens.set_is i);
      starts = e.set.begun (opens.set_is i);
      turns = e.turns.state (opens.turns_is i);
    }

    module _ {old : Moment R Future L H P} {done : List e.plan.Task} (turn : InTurn e old now done) where
      next_waits : next.waiting ≡ length (e.plan.tasks now.plan) ∷ []
      next_waits = opens.waits ∙ ap (waiting_from 0) (ap marks_of opens.states_is ∙ map-append mark_of now.states (fresh_states 1))
          ∙ waiting_more 0 (marks_of now.states) (sym turn.waits ∙ turn.none)
          ∙ ap (λ n. n ∷ []) ((let z : 0 + length (marks_of now.states) ≡ length (marks_of now.states) = omega arith in z) ∙ length-map now.states mark_of ∙ turn.lengths)

      pub next_alone : length next.waiting ≡ 1
      next_alone = ap length next_waits

      pub next_root : IsRootOf e next root
      next_root = record {
        number = length (e.plan.tasks now.plan);
        alone = next_waits;
        there = ap (λ ts. slice_get ts (length (e.plan.tasks now.plan))) opens.tasks_is ∙ get_last (e.plan.tasks now.plan) root;
      }

      -- where none waited, the root key is the only open task
      pub next_sound : IsSound e next
      next_sound = record {
        lengths = (let a = ap length opens.states_is in let b = ap length opens.tasks_is in let c = turn.lengths in
            let d = length-append now.states (fresh_states 1) in let f = length-append (e.plan.tasks now.plan) (root ∷ []) in omega arith);
        waits = opens.waits;
        fits = λ number task s task_is state_is.
            by number task s (get_append (e.plan.tasks now.plan) (root ∷ []) number task (ap (λ ts. slice_get ts number) (sym opens.tasks_is) ∙ task_is))
            (ap (λ ss. slice_get ss number) (sym opens.states_is) ∙ state_is);
      }
        where
          old_one : (number : ℕ) (task : e.plan.Task) (s : State Future) → number < length (e.plan.tasks now.plan) → slice_get (now.states ++ fresh_states 1) number ≡ Some s
              → Fits e.root e.set.is_for (e.plan.holds next.plan number) (e.plan.asks task).call s
          old_one number task s within is =
              let lengths = turn.lengths in
              let at = get_at now.states number (omega arith) in
              let done : state.Done ≡ at.0 = all_done Own e.plan.Task Future now.states (sym turn.waits ∙ turn.none) number at.0 at.1 in
              let same : at.0 ≡ s = (let f : Some at.0 ≡ Some s = sym (get_append_left now.states (fresh_states 1) number at.0 at.1) ∙ is in cc) in
              subst (Fits e.root e.set.is_for (e.plan.holds next.plan number) (e.plan.asks task).call) (done ∙ same) (opens.held number within)

          new_one : (number : ℕ) (task : e.plan.Task) (s : State Future) → number ≡ length (e.plan.tasks now.plan) → root ≡ task → slice_get (now.states ++ fresh_states 1) number ≡ Some s
              → Fits e.root e.set.is_for (e.plan.holds next.plan number) (e.plan.asks task).call s
          new_one number task s place one is =
              let lengths = turn.lengths in
              let last : slice_get (now.states ++ fresh_states 1) number ≡ Some state.Fresh
              = ap (slice_get (now.states ++ fresh_states 1)) (place ∙ sym lengths) ∙ get_last now.states state.Fresh in
              let same : state.Fresh ≡ s = (let f : Some state.Fresh ≡ Some s = sym last ∙ is in cc) in
              subst (Fits e.root e.set.is_for (e.plan.holds next.plan number) (e.plan.asks task).call) same
              (ap (λ (t : e.plan.Task). (e.plan.asks t).call.is_root) (sym one) ∙ opens.root_is)

          last_one : (number k : ℕ) (task : e.plan.Task) (s : State Future) → number ≡ length (e.plan.tasks now.plan) + k → slice_get (root ∷ []) k ≡ Some task
              → slice_get (now.states ++ fresh_states 1) number ≡ Some s → Fits e.root e.set.is_for (e.plan.holds next.plan number) (e.plan.asks task).call s
          last_one number zero task s place one is = new_one number task s (omega (arith, place)) (cc) is
          last_one number (suc k) task s place one is = absurd (cc)

          by : (number : ℕ) (task : e.plan.Task) (s : State Future)
              → (slice_get (e.plan.tasks now.plan) number ≡ Some task) ⊎ ((k : ℕ) × (number ≡ length (e.plan.tasks now.plan) + k) × (slice_get (root ∷ []) k ≡ Some task))
              → slice_get (now.states ++ fresh_states 1) number ≡ Some s → Fits e.root e.set.is_for (e.plan.holds next.plan number) (e.plan.asks task).call s
          by number task s (inl before) is = old_one number task s (get_within (e.plan.tasks now.plan) number task before) is
          by number task s (inr last) is = last_one number last.0 task s last.1 last.2 is

get_behind : {X : Type 0} (xs : List X) (k : ℕ) → length xs ≤ k → slice_get xs k ≡ None
get_behind [] k behind = refl
get_behind (x ∷ xs) zero behind = absurd (omega arith)
get_behind (x ∷ xs) (suc k) behind = get_behind xs k (omega arith)

no_front : {X : Type 0} (xs ys : List X) → [] ≡ xs ++ ys → xs ≡ []
no_front [] ys none = refl
no_front (x ∷ xs) ys none = absurd (cc)

take_front : {X : Type 0} (xs ys : List X) → take (length xs) (xs ++ ys) ≡ xs
take_front [] ys = refl
take_front (x ∷ xs) ys = ap (λ zs. x ∷ zs) (take_front xs ys)

take_more : {X : Type 0} (xs : List X) (y : X) (ys : List X) → take (suc (length xs)) (xs ++ y ∷ ys) ≡ xs ++ y ∷ []
take_more [] y ys = refl
take_more (x ∷ xs) y ys = ap (λ zs. x ∷ zs) (take_more xs y ys)

module _ {R Own World Future L H P : Type 0} (e : Parts R Own World Future L H P) (next : Moment R Future L H P) (root : e.plan.Task) (first : ℕ)
    (told : Option (List RecordEntry)) (starts : Option (List ℕ)) where
  -- what a phase has told that was cut, from a stage on
  record CutFrom (from : Stage e.plan.Task e.turns.State) : Type 0 where
    stopped : Stopped (choice_by e.turns) (story_in (serving_of e next) (subject e) (e.set.world next.set) root) from told starts
    paces : e.set.is_paced next.set → ForSome from.told (λ before. PacedSinceSoFar first (delay_at e next)
        (tasks_at (story_in (serving_of e next) (subject e) (e.set.world next.set) root) from.made stopped.entries) stopped.entries)

module _ {R Own World Future L H P : Type 0} {e : Parts R Own World Future L H P} {old now next : Moment R Future L H P} {root : e.plan.Task} {done : List e.plan.Task}
    (turn : InTurn e old now done) (opens : NextRoot e now next root) where
  to_next : Steady e old next
  unfolding next_steady
  to_next = steady_trans turn.steady (next_steady opens)

  -- an earlier task has nothing to come
  none_to_come : (k due : ℕ) → k < length (e.plan.tasks now.plan) → to_come_at e.set.number due (slice_get next.states k) ≡ []
  none_to_come k due within =
      let lengths = turn.lengths in
      let at = get_at now.states k (omega arith) in
      let answered : state.Done ≡ at.0 = all_done Own e.plan.Task Future now.states (sym turn.waits ∙ turn.none) k at.0 at.1 in
      ap (λ ss. to_come_at e.set.number due (slice_get ss k)) opens.states_is
      ∙ ap (to_come_at e.set.number due) (get_append_left now.states (fresh_states 1) k at.0 at.1 ∙ ap Some (sym answered))

  -- a task since has all its entries to come
  all_to_come : (k due : ℕ) → length (e.plan.tasks now.plan) ≤ k → to_come_at e.set.number due (slice_get next.states k) ≡ pending_then_ready due
  all_to_come k due behind =
      let lengths = turn.lengths in
      ap (λ ss. to_come_at e.set.number due (slice_get ss k)) opens.states_is ∙ sym (come_more e.set.number now.states 1 k due)
      ∙ ap (to_come_at e.set.number due) (get_behind now.states k (omega arith))

  -- what is due to a task that keeps its number
  delay_there : (made : List e.plan.Task) (k : ℕ) (task : e.plan.Task) → slice_get made k ≡ Some task
      → (other : e.plan.Task) → slice_get made k ≡ Some other → delay_at e next task ≡ delay_at e next other
  delay_there made k task is other at = ap (delay_at e next) (some_is (sym is ∙ at))

  paced_since : {new : Moment R Future L H P} → Paces e next new
      → ((k : ℕ) (task : e.plan.Task) → slice_get (e.plan.tasks new.plan) k ≡ Some task → slice_get new.states k ≡ Some state.Done)
      → (before entries : List RecordEntry) → e.set.told next.set ≡ Some before → e.set.told new.set ≡ with_more (e.set.told next.set) entries
      → PacedSince (length (e.plan.tasks now.plan)) (delay_at e next) (e.plan.tasks new.plan) entries
  paced_since {new = new} paces answered before entries some told_is = record {
    earlier = λ k within.
        let at = get_at (e.plan.tasks now.plan) k within in
        let stays = paces.stays k at.0 (ap (λ ts. slice_get ts k) opens.tasks_is ∙ get_append_left (e.plan.tasks now.plan) (root ∷ []) k at.0 at.1) in
        let paid = paces.splits k (delay_at e next at.0) (delay_there (e.plan.tasks new.plan) k at.0 stays) in
        ap (told_of k) same ∙ no_front (told_of k paces.entries) _ (sym (none_to_come k (delay_at e next at.0) within) ∙ paid);
    paced = λ k task behind is.
        let paid = paces.splits k (delay_at e next task) (delay_there (e.plan.tasks new.plan) k task is) in
        let last : to_come_at e.set.number (delay_at e next task) (slice_get new.states k) ≡ [] = ap (to_come_at e.set.number (delay_at e next task)) (answered k task is) in
        ap (told_of k) same
        ∙ sym (append-nil (told_of k paces.entries)) ∙ ap (λ fs. told_of k paces.entries ++ fs) (sym last) ∙ sym paid
        ∙ all_to_come k (delay_at e next task) behind;
  }
    where
      same : entries ≡ paces.entries
      same = told_once before entries paces.entries (e.set.told next.set) (e.set.told new.set) some told_is paces.told_is

  paced_so_far : {new : Moment R Future L H P} {answers : e.plan.Task → Answer Own} (so_far : ProgressSoFar e next new answers) → e.set.is_paced next.set
      → ForSome (e.set.told next.set) (λ before. PacedSinceSoFar (length (e.plan.tasks now.plan)) (delay_at e next)
      (tasks_at (story_of (subject e) answers) (stage e next).made so_far.stopped.entries) so_far.stopped.entries)
  paced_so_far {answers = answers} so_far pace before some = record {
    earlier = λ k within.
        let at = get_at (e.plan.tasks now.plan) k within in
        let there = ap (λ ts. slice_get ts k) opens.tasks_is ∙ get_append_left (e.plan.tasks now.plan) (root ∷ []) k at.0 at.1 in
        let due = to_come_at e.set.number (delay_at e next at.0) (slice_get next.states k) in
        let front = so_far.paces pace before some k at.0 (made_keeps (story_of (subject e) answers) (stage e next).made so_far.stopped.entries k at.0 there) in
        no_front (told_of k so_far.stopped.entries) _
        (sym (none_to_come k (delay_at e next at.0) within) ∙ front_rest (told_of k so_far.stopped.entries) due front);
    paced = λ k task behind is.
        subst (IsFront (told_of k so_far.stopped.entries)) (all_to_come k (delay_at e next task) behind) (so_far.paces pace before some k task is);
  }

  -- the world of the next root key
  next_world : e.set.is_lawful old.set → e.hooks.are_quiet old.hooks
      → e.set.world next.set ≡ world_past (serving_of e old) (subject e) (e.set.world old.set) done
  next_world law calm = ap e.set.world opens.set_is ∙ turn.world law calm

  -- what the set told since the root key was made is what it told since before
  told_since : {told' : Option (List RecordEntry)} (entries : List RecordEntry) → told' ≡ with_more (e.set.told now.set) entries
      → told' ≡ with_more (e.set.told next.set) entries
  told_since entries is = is ∙ ap (λ t. with_more t entries) (ap e.set.told (sym opens.set_is))

  -- the phase of the next root key, in the world that it is asked in
  module _ {new : Moment R Future L H P} (over : PhaseOver e next new) where
    over_ran : e.set.is_lawful old.set → e.hooks.are_quiet old.hooks
        → Ran (choice_by e.turns) (story_in (serving_of e next) (subject e) (e.set.world next.set) root) (with_root (stage e now) root) (stage e new)
    over_ran law calm =
        subst (λ s. Ran (choice_by e.turns) (story_in (serving_of e next) (subject e) (e.set.world next.set) root) s (stage e new)) (next_stage opens)
        (over.progress (to_next.lawful_is law) (to_next.quiet_is calm) root (next_root opens turn)).ran

    over_phase : e.set.is_lawful old.set → e.hooks.are_quiet old.hooks
        → IsPhase (serving_of e next) (subject e) (choice_by e.turns) (e.set.world next.set) root (stage e now) (stage e new)
    over_phase law calm =
        let ran = over_ran law calm in
        record {
          ran = ran;
          whole = sym over.sound.waits ∙ over.none;
          paces = λ pace before some. paced_since (over.paces pace (to_next.quiet_is calm)) (all_answered over.sound over.none) before ran.entries
              (ap e.set.told opens.set_is ∙ some) (told_since ran.entries ran.told_is);
        }

    -- one root key more
    pub in_turn_more : InTurn e old new (done ++ root ∷ [])
    unfolding next_enters next_steady
    in_turn_more = record {
      steady = steady_trans to_next over.steady;
      lengths = over.sound.lengths;
      waits = over.sound.waits;
      none = over.none;
      enters = enters_trans turn.enters (enters_trans (next_enters opens) over.enters);
      stepped = λ calm.
          let before = turn.stepped calm in
          let phase = over.stepped (to_next.quiet_is calm) in
          let opened = ap (total started) opens.states_is ∙ total_append Future started now.states (fresh_states 1) in
          let still = opens.steps_is in
          omega arith;
      phases = λ law calm. phases_more (serving_of e old) (subject e) (choice_by e.turns) (e.set.world old.set) done root (stage e old) (stage e now) (stage e new)
          (turn.phases law calm)
          (same_phase e.set (subject e) (choice_by e.turns) (e.set.is_paced next.set) (e.set.is_paced old.set) to_next.paced_is
          (world_past (serving_of e old) (subject e) (e.set.world old.set) done) root (stage e now) (e.set.rules next.set) (e.set.rules old.set) (stage e new) to_next.rules_is
          (subst (λ w. IsPhase (serving_of e next) (subject e) (choice_by e.turns) w root (stage e now) (stage e new)) (next_world law calm) (over_phase law calm)));
      world = λ law calm.
          let at = next_root opens turn in
          over.world (to_next.lawful_is law) (to_next.quiet_is calm) at.number root at.alone at.there
          ∙ ap (e.set.effect (e.set.rules next.set) (e.plan.asks root).call) (next_world law calm)
          ∙ ap (λ r. e.set.effect r (e.plan.asks root).call (world_past (serving_of e old) (subject e) (e.set.world old.set) done)) to_next.rules_is
          ∙ sym (past_more (serving_of e old) (subject e) (e.set.world old.set) done root);
    }

  -- memory ran out in that phase
  module _ {new : Moment R Future L H P} (want told : NoMemory) (cut : PhaseCut e next new want) where
    cut_phase : e.set.is_lawful old.set → e.hooks.are_quiet old.hooks
        → IsCutPhase (serving_of e next) (subject e) (choice_by e.turns) (e.set.world next.set) root (stage e now) (e.set.told new.set) (e.set.begun new.set)
    cut_phase law calm =
        let so_far = cut.progress (to_next.lawful_is law) (to_next.quiet_is calm) root (next_root opens turn) in
        let from : CutFrom e next root (length (e.plan.tasks now.plan)) (e.set.told new.set) (e.set.begun new.set) (with_root (stage e now) root)
        = subst (CutFrom e next root (length (e.plan.tasks now.plan)) (e.set.told new.set) (e.set.begun new.set)) (next_stage opens)
        (record { stopped = so_far.stopped; paces = paced_so_far so_far }) in
        record { stopped = from.stopped; paces = from.paces }

    -- the effect of the root key stands, or none of it does
    cut_world : (left : List e.plan.Task) → told.roots ≡ length done + want.roots → e.set.is_lawful old.set → e.hooks.are_quiet old.hooks
        → (told.roots ≤ length (done ++ root ∷ left))
        × (e.set.world new.set ≡ world_past (serving_of e old) (subject e) (e.set.world old.set) (take told.roots (done ++ root ∷ left)))
    cut_world left roots law calm =
        let at = next_root opens turn in
        let long = length-append done (root ∷ left) in
        elim (cut.world (to_next.lawful_is law) (to_next.quiet_is calm)) [
          | inl none ↦ (
            (let n = none.0 in omega (arith, roots)),
            none.1 ∙ next_world law calm
                ∙ ap (world_past (serving_of e old) (subject e) (e.set.world old.set))
                (sym (take_front done (root ∷ left)) ∙ ap (λ n. take n (done ++ root ∷ left)) (let n = none.0 in let f : length done ≡ told.roots = omega (arith, roots) in f)),
          )
          | inr some ↦ (
            (let n = some.0 in omega (arith, roots)),
            some.1 at.number root at.alone at.there
                ∙ ap (e.set.effect (e.set.rules next.set) (e.plan.asks root).call) (next_world law calm)
                ∙ ap (λ r. e.set.effect r (e.plan.asks root).call (world_past (serving_of e old) (subject e) (e.set.world old.set) done)) to_next.rules_is
                ∙ sym (past_more (serving_of e old) (subject e) (e.set.world old.set) done root)
                ∙ ap (world_past (serving_of e old) (subject e) (e.set.world old.set))
                (sym (take_more done root left) ∙ ap (λ n. take n (done ++ root ∷ left)) (let n = some.0 in let f : suc (length done) ≡ told.roots = omega (arith, roots) in f)),
          )
        ]

    pub cut_in_turn : (roots left : List e.plan.Task) → roots ≡ done ++ root ∷ left → told.roots ≡ length done + want.roots → CutInTurn e old new roots told
    unfolding next_enters next_steady
    cut_in_turn roots left split count = record {
      steady = steady_trans to_next cut.steady;
      enters = so_far_enters_trans turn.enters (so_far_enters_trans (next_enters opens) cut.enters);
      cut = λ law calm. record {
        done = done;
        left = root ∷ left;
        split = split;
        middle = stage e now;
        phases = turn.phases law calm;
        cut = same_cut e.set (subject e) (choice_by e.turns) (e.set.is_paced next.set) (e.set.is_paced old.set) to_next.paced_is
            (world_past (serving_of e old) (subject e) (e.set.world old.set) done) root (stage e now) (e.set.rules next.set) (e.set.rules old.set) (e.set.told new.set) (e.set.begun new.set) to_next.rules_is
            (subst (λ w. IsCutPhase (serving_of e next) (subject e) (choice_by e.turns) w root (stage e now) (e.set.told new.set) (e.set.begun new.set)) (next_world law calm) (cut_phase law calm));
      };
      stands = λ law calm. subst (λ rs. (told.roots ≤ length rs) × (e.set.world new.set ≡ world_past (serving_of e old) (subject e) (e.set.world old.set) (take told.roots rs)))
          (sym split) (cut_world left count law calm);
    }

-- nothing was told of root keys that weren't begun
pub none_before : {V W Task State_ : Type 0} (serving : Serving V W) (about : Subject V Task) (choice : Choice State_) (world : W) (left : List Task) (old : Stage Task State_)
    → CutBefore serving about choice world left old old.told old.starts
none_before serving about choice world [] old = (refl, refl)
none_before serving about choice world (root ∷ left) old = record {
  stopped = record {
    entries = [];
    told_is = sym (with_more_none old.told);
    waits = tt;
    last = [];
    at_most_one = omega arith;
    last_untold = tt;
    starts_is = sym (with_more_none old.starts);
    turned = λ s is. tt;
  };
  paces = λ pace before some. record { earlier = λ k within. refl; paced = λ k task behind is. refl };
}

module _ {R Own World Future L H P : Type 0} {e : Parts R Own World Future L H P} where
  -- memory ran out between two phases, or after the last one
  pub cut_between : {old now : Moment R Future L H P} {done : List e.plan.Task} (told : NoMemory) (roots left : List e.plan.Task) → InTurn e old now done
      → roots ≡ done ++ left → told.roots ≡ length done → CutInTurn e old now roots told
  cut_between {old = old} {now = now} {done = done} told roots left turn split count = record {
    steady = turn.steady;
    enters = so_far_enters_whole turn.enters;
    cut = λ law calm. record {
      done = done;
      left = left;
      split = split;
      middle = stage e now;
      phases = turn.phases law calm;
      cut = none_before (serving_of e old) (subject e) (choice_by e.turns) (world_past (serving_of e old) (subject e) (e.set.world old.set) done) left (stage e now);
    };
    stands = λ law calm. subst (λ rs. (told.roots ≤ length rs) × (e.set.world now.set ≡ world_past (serving_of e old) (subject e) (e.set.world old.set) (take told.roots rs)))
        (sym split) (
          (let long = length-append done left in omega (arith, count)),
          turn.world law calm ∙ ap (world_past (serving_of e old) (subject e) (e.set.world old.set)) (sym (ap (λ n. take n (done ++ left)) count ∙ take_front done left)),
        );
  }
