-- The root keys of a mutation, one after another.
use Rattle.std.proofs.Common.{◌≡◌, ℕ, zero, suc, ◌+◌, ◌-◌, ◌<◌, ◌≤◌, Bool, true, false, ltb, List, [], ◌∷◌, ◌++◌, take, drop, length, Option, Some, None, slice_get, inl, inr, refl, ap, sym, subst, ◌∙◌, arith, append_assoc, length-append, ltb-true, ltb-false}
use Rattle.std.specs.Prelude.{slice_set}
use Rattle.gql_base.specs.declared.no_memory.NoMemory.{NoMemory}
use Rattle.gql_tasks.proofs.AimLemmas.{with_plan}
use Rattle.gql_tasks.proofs.InTurnLemmas.{cut_between, cut_in_turn, in_turn_more, none_before}
use Rattle.gql_lists.proofs.SliceLemmas.{get_append, get_at, get_within}
use Rattle.gql_tasks.proofs.ProgressLemmas.{steady_none}
use Rattle.gql_tasks.proofs.RoundLemmas.{enters_none}
use Rattle.gql_tasks.proofs.RunLemmas.{all_done}
use Rattle.gql_tasks.proofs.StepLemmas.{all_started}
use Rattle.gql_tasks.specs.Arena.{fresh_states, IsRight as IsRightAt, started, total, Work}
use Rattle.gql_tasks.specs.Parts.{Moment, Parts, choice_by, stage, subject}
use Rattle.gql_tasks.specs.Phases.{answer_between, CutInTurn, HaltsInTurn, InTurn, none_made, serving_at, NextRoot, PhaseCut, PhaseOver, Phases, serving_of, world_past}
use Rattle.gql_tasks.specs.Progress.{Seen}
use Rattle.gql_tasks.specs.Record.{fresh, Mark, Stage}
use Rattle.gql_tasks.specs.Rounds.{IsOneOf}
use Rattle.gql_tasks.specs.declared.arena.State.{State}
use Rattle.gql_tasks.specs.declared.arena.State.TheVariants as state
use Rattle.gql_tasks.specs.declared.given.Given.{Given}
use Rattle.gql_place.specs.declared.piece.Piece.{Piece}
use Rattle.gql_resolve.specs.Call.{Call}
use Rattle.gql_resolve.specs.declared.record_entry.RecordEntry.{RecordEntry}
use Rattle.gql_resolve.specs.declared.turns.Turns.{Ghosts as Choosing}
use Rattle.gql_resolve.specs.declared.answer.Answer.{Answer}
use Rattle.gql_resolve.specs.declared.resolver_set.ResolverSet.{Ghosts as Resolving}
use Rattle.gql_objects.specs.Assembly.{AllHeldSince, ArePlaced, IsRight}
use Rattle.gql_engine.specs.PlanHolds.{HoldsSince}
use Rattle.gql_objects.specs.Jobs.{Job}
use Rattle.gql_engine.specs.RootKeys.{HasPlace, KeyCut, KeyOver, PutsLast}
use Rattle.gql_objects.specs.PlaceStore.{Store}
use Rattle.gql_objects.specs.Tasks.{IsDeep, job_of_task, jobs_in}
use Rattle.gql_objects.specs.declared.assembly.kept.Filled.{Filled}
use Rattle.gql_objects.specs.declared.task.Task.{Task}
use Rattle.gql_engine.proofs.QueryLemmas.{at_task, held_since, stored_due}

set_last : {X : Type 0} (xs : List X) (x y : X) → slice_set (xs ++ x ∷ []) (length (xs ++ x ∷ []) - 1) y ≡ xs ++ y ∷ []
set_last {X = X} xs x y = ap (λ n. slice_set (xs ++ x ∷ []) n y) (let e = length-append xs (x ∷ []) in let f : length (xs ++ x ∷ []) - 1 ≡ length xs = omega arith in f) ∙ by xs
  where
    by : (zs : List X) → slice_set (zs ++ x ∷ []) (length zs) y ≡ zs ++ y ∷ []
    by [] = refl
    by (z ∷ zs) = ap (λ ws. z ∷ ws) (by zs)

-- a moment with another plan, other states and other turns
abbrev pub moved : {R Future L H P : Type 0} → Moment R Future L H P → L → List (State Future) → List ℕ → P → Moment R Future L H P
moved m plan states waiting turns =
    record { plan = plan; states = states; waiting = waiting; set = m.set; hooks = m.hooks; turns = turns; steps = m.steps; lent = m.lent }

-- the last of tasks
pub last_there : {X : Type 0} (xs ys : List X) (x : X) → ys ≡ xs ++ x ∷ [] → slice_get ys (length xs) ≡ Some x
last_there {X = X} xs ys x is = ap (λ zs. slice_get zs (length xs)) is ∙ by xs
  where
    by : (zs : List X) → slice_get (zs ++ x ∷ []) (length zs) ≡ Some x
    by [] = refl
    by (z ∷ zs) = by zs

module _ {R Own World Future L H P : Type 0} {e : Parts R Own World Future L H P} where
  -- what stands between two phases stands after none
  pub in_turn_again : {first m : Moment R Future L H P} {done : List e.plan.Task} → InTurn e first m done → InTurn e m m []
  in_turn_again {m = m} turn = record {
    steady = steady_none m;
    lengths = turn.lengths;
    waits = turn.waits;
    none = turn.none;
    enters = enters_none m m refl refl refl;
    stepped = λ calm. refl;
    phases = λ law calm. refl;
    world = λ law calm. refl;
  }

  -- what a plan keeps doesn't matter between two phases
  pub in_turn_with : {first m : Moment R Future L H P} {done : List e.plan.Task} (plan : L) → e.plan.tasks plan ≡ e.plan.tasks m.plan → InTurn e first m done
      → InTurn e first (with_plan m plan) done
  in_turn_with {first = first} {m = m} {done = done} plan same turn = record {
    steady = record {
      lent_is = turn.steady.lent_is;
      rules_is = turn.steady.rules_is;
      lawful_is = turn.steady.lawful_is;
      paced_is = turn.steady.paced_is;
      quiet_is = turn.steady.quiet_is;
      counted = turn.steady.counted;
    };
    lengths = turn.lengths ∙ ap length (sym same);
    waits = turn.waits;
    none = turn.none;
    enters = record {
      stays = λ k task is. ap (λ ts. slice_get ts k) same ∙ turn.enters.stays k task is;
      rounds = record {
        entered = turn.enters.rounds.entered;
        told_is = turn.enters.rounds.told_is;
        own = subst (λ ts. Rattle.std.specs.Prelude.All (IsOneOf e.plan.asks ts) turn.enters.rounds.entered) (sym same) turn.enters.rounds.own;
      };
      once = turn.enters.once;
    };
    stepped = turn.stepped;
    phases = λ law calm. subst (λ ts. Phases (serving_of e first) (subject e) (choice_by e.turns) (e.set.world first.set) done (stage e first)
        (record { made = record { tasks = ts; marks = (stage e m).made.marks }; told = (stage e m).told; starts = (stage e m).starts; turns = (stage e m).turns })) (sym same) (turn.phases law calm);
    world = turn.world;
  }

  -- nor where memory ran out
  cut_moved : {first m : Moment R Future L H P} {roots : List e.plan.Task} {want : NoMemory} (plan : L) (states : List (State Future)) (waiting : List ℕ) (turns : P)
      → CutInTurn e first m roots want → CutInTurn e first (moved m plan states waiting turns) roots want
  cut_moved plan states waiting turns cut = record {
    steady = record {
      lent_is = cut.steady.lent_is;
      rules_is = cut.steady.rules_is;
      lawful_is = cut.steady.lawful_is;
      paced_is = cut.steady.paced_is;
      quiet_is = cut.steady.quiet_is;
      counted = cut.steady.counted;
    };
    enters = cut.enters;
    cut = cut.cut;
    stands = cut.stands;
  }

  -- another count of the root keys that stand, where it is the same one
  cut_told : {first new : Moment R Future L H P} {roots : List e.plan.Task} (want told : NoMemory) → (e.set.is_lawful first.set → e.hooks.are_quiet first.hooks → told.roots ≡ want.roots)
      → CutInTurn e first new roots want → CutInTurn e first new roots told
  cut_told {first = first} {new = new} {roots = roots} want told same cut = record {
    steady = cut.steady;
    enters = cut.enters;
    cut = cut.cut;
    stands = λ law calm. subst (λ n. (n ≤ length roots) × (e.set.world new.set
        ≡ world_past (serving_of e first) (subject e) (e.set.world first.set) (take n roots))) (sym (same law calm)) (cut.stands law calm);
  }

  module _ {old next : Moment R Future L H P} {root : e.plan.Task} (opens : NextRoot e old next root) (same_set : next.set ≡ old.set) (same_hooks : next.hooks ≡ old.hooks) where
    -- the root key is over, and so is all under it
    pub key_over : {new : Moment R Future L H P} (plan : L) → e.plan.tasks plan ≡ e.plan.tasks new.plan → PhaseOver e next new → KeyOver e old (with_plan new plan) root
    key_over plan same over = record { turn = λ first done turn. in_turn_with plan same (in_turn_more turn opens over) }

    -- memory ran out for what comes after it
    pub key_cut_behind : {new : Moment R Future L H P} (keys : ℕ) (told : NoMemory) (plan : L) → told.roots ≡ suc keys → PhaseOver e next new
        → KeyCut e old (moved new plan new.states new.waiting new.turns) root keys told
    key_cut_behind {new = new} keys told plan count over = record {
      cut = λ first done left turn many. cut_moved plan new.states new.waiting new.turns
          (cut_between told (done ++ root ∷ left) left (in_turn_more turn opens over) (sym (append_assoc done (root ∷ []) left))
          (let long = length-append done (root ∷ []) in omega (arith, count, many)));
    }

    -- or in its phase
    pub key_cut_within : {new : Moment R Future L H P} (keys : ℕ) (want told : NoMemory) → (want.roots ≡ 0 → told.roots ≡ keys) → (want.roots ≡ 1 → told.roots ≡ suc keys)
        → PhaseCut e next new want → KeyCut e old new root keys told
    key_cut_within {new = new} keys want told none one phase = record {
      cut = λ first done left turn many.
          let between : NoMemory = record { roots = length done + want.roots } in
          cut_told between told
          (λ law calm. count done many (phase.world (subst e.set.is_lawful (sym same_set) (turn.steady.lawful_is law)) (subst e.hooks.are_quiet (sym same_hooks) (turn.steady.quiet_is calm))))
          (cut_in_turn turn opens want between phase (done ++ root ∷ left) left refl refl);
    }
      where
        count : {A B : Type 0} (done : List e.plan.Task) → length done ≡ keys → Rattle.std.specs.Prelude.◌⊎◌ ((want.roots ≡ 0) × A) ((want.roots ≡ 1) × B) → told.roots ≡ length done + want.roots
        count done many (inl h) = (let a = none h.0 in let b = h.0 in omega (arith, many))
        count done many (inr h) = (let a = one h.0 in let b = h.0 in omega (arith, many))

  -- or before it
  pub key_cut_before : {old : Moment R Future L H P} (root : e.plan.Task) (keys : ℕ) (told : NoMemory) (plan : L) (states : List (State Future)) (waiting : List ℕ) → told.roots ≡ keys
      → KeyCut e old (moved old plan states waiting old.turns) root keys told
  key_cut_before {old = old} root keys told plan states waiting count = record {
    cut = λ first done left turn many. cut_moved plan states waiting old.turns
        (cut_between told (done ++ root ∷ left) (root ∷ left) turn refl (count ∙ sym many));
  }

-- nothing is kept yet of the tasks of a phase
pub right_first : {V F Task_ : Type 0} (answers : Task_ → Answer V) (holds : ℕ → Given V → Type 0) (tasks : List Task_) (states states' : List (State F)) (number : ℕ)
    → states' ≡ states ++ fresh_states 1 → number ≡ length states → IsRightAt number answers holds tasks states'
right_first {F = F} answers holds tasks states states' number is here = record {
  kept = λ k task above there done.
      elim (get_append states (fresh_states 1) k state.Done (ap (λ ss. slice_get ss k) (sym is) ∙ done)) [
        | inl early ↦ (let w = get_within states k state.Done early in absurd (omega (arith, here, above)))
        | inr late ↦ absurd (last late.0 late.2)
      ];
}
  where
    last : (k : ℕ) → slice_get (fresh_states {F = F} 1) k ≡ Some state.Done → ⊥
    last zero done = cc
    last (suc k) done = cc

-- what is due is stored of all tasks of a phase
pub phase_held : {V F : Type 0} (answer : Call V → Answer V) (base number : ℕ) (jobs : List (Job V)) (store : Store (Filled V) Piece) (states : List (State F))
    → IsRightAt number (λ (job : Job V). answer job.asking.call) (HoldsSince base jobs store) jobs states
    → ((k : ℕ) (job : Job V) → slice_get jobs k ≡ Some job → slice_get states k ≡ Some state.Done) → AllHeldSince answer number jobs store
phase_held answer base number jobs store states right done k job above is =
    stored_due answer jobs store k job is (held_since base jobs store k (answer job.asking.call) (right.kept k job above is (done k job is)))

-- the task of a root key is one of the first ones
pub key_within : {V : Type 0} (tasks : List (Task V)) (roots number : ℕ) (job : Job V) → slice_get (jobs_in tasks) number ≡ Some job → length job.path ≡ 1
    → ((k : ℕ) (task : Task V) → roots ≤ k → slice_get tasks k ≡ Some task → IsDeep (job_of_task task)) → number < roots
key_within tasks roots number job there short deep = by (ltb number roots) refl
  where
    by : (b : Bool) → ltb number roots ≡ b → number < roots
    by true test = ltb-true number roots test
    by false test =
        let above = ltb-false number roots test in
        let at = at_task tasks number job there in
        let long : 2 ≤ length job.path = subst IsDeep at.2 (deep number at.0 above at.1) in
        absurd (omega (arith, short))

-- the last place was room for that of the root key
pub has_place : {V : Type 0} (answer : Call V → Answer V) (root : Job V) (own before own' : List (Option Piece)) → before ≡ own ++ None ∷ [] → PutsLast answer root before own'
    → HasPlace answer root own own'
has_place answer root own before own' is puts = record {
  place = puts.place;
  added = puts.put ∙ ap (λ os. slice_set os (length os - 1) (Some puts.place)) is ∙ set_last own None (Some puts.place);
  right = puts.right;
}

-- the place of a root key is put at the end
pub puts_last : {V : Type 0} (answer : Call V → Answer V) (root : Job V) (jobs : List (Job V)) (places : List (Option Piece)) (number : ℕ) (o : Option Piece) (own own' : List (Option Piece))
    → ArePlaced answer number jobs places → slice_get jobs number ≡ Some root → slice_get places number ≡ Some o → own' ≡ slice_set own (length own - 1) o → PutsLast answer root own own'
puts_last answer root jobs places number o own own' placed there at puts =
    let here = placed.each number root o (omega arith) there at in
    record { place = here.0; put = puts ∙ ap (slice_set own (length own - 1)) here.1; right = here.2 }

-- one more of what was taken from a list
pub take_next : {X : Type 0} (n : ℕ) (xs : List X) (x : X) (rest : List X) → drop n xs ≡ x ∷ rest → take (n + 1) xs ≡ take n xs ++ x ∷ []
take_next {X = X} n xs x rest is = ap (λ k. take k xs) (let e : n + 1 ≡ suc n = omega arith in e) ∙ by n xs is
  where
    by : (k : ℕ) (ys : List X) → drop k ys ≡ x ∷ rest → take (suc k) ys ≡ take k ys ++ x ∷ []
    by zero [] e = absurd (cc)
    by zero (y ∷ ys) e = (let f : y ≡ x = cc in ap (λ z. z ∷ []) f)
    by (suc k) [] e = absurd (cc)
    by (suc k) (y ∷ ys) e = ap (λ zs. y ∷ zs) (by k ys e)

-- and what is left
pub drop_next : {X : Type 0} (n : ℕ) (xs : List X) (x : X) (rest : List X) → drop n xs ≡ x ∷ rest → drop (n + 1) xs ≡ rest
drop_next {X = X} n xs x rest is = ap (λ k. drop k xs) (let e : n + 1 ≡ suc n = omega arith in e) ∙ by n xs is
  where
    by : (k : ℕ) (ys : List X) → drop k ys ≡ x ∷ rest → drop (suc k) ys ≡ rest
    by zero [] e = absurd (cc)
    by zero (y ∷ ys) e = cc
    by (suc k) [] e = absurd (cc)
    by (suc k) (y ∷ ys) e = by k ys e

-- where nothing is left, all was taken
pub take_whole : {X : Type 0} (n : ℕ) (xs : List X) → drop n xs ≡ [] → take n xs ≡ xs
take_whole zero [] none = refl
take_whole zero (x ∷ xs) none = absurd (cc)
take_whole (suc n) [] none = refl
take_whole (suc n) (x ∷ xs) none = ap (λ ys. x ∷ ys) (take_whole n xs none)

-- all is what was taken, and what is left
pub take_drop : {X : Type 0} (n : ℕ) (xs left : List X) → drop n xs ≡ left → xs ≡ take n xs ++ left
take_drop zero xs left is = is
take_drop (suc n) [] left is = is
take_drop (suc n) (x ∷ xs) left is = ap (λ ys. x ∷ ys) (take_drop n xs left is)

-- a place that is right in the world of its phase
pub right_there : {R V W F : Type 0} (set : Resolving R V W F) (rules rules' : set.Rules) (world world' : W) (root : Job V) (place : Piece) → rules ≡ rules' → world ≡ world'
    → IsRight (answer_between (set.answer rules) world (set.effect rules root.asking.call world)) root place
    → IsRight (answer_between (set.answer rules') world' (set.effect rules' root.asking.call world')) root place
right_there set rules rules' world world' root place rules_is world_is right =
    subst (λ r. IsRight (answer_between (set.answer r) world' (set.effect r root.asking.call world')) root place) rules_is
    (subst (λ w. IsRight (answer_between (set.answer rules) w (set.effect rules root.asking.call w)) root place) world_is right)

pub take_many : {X : Type 0} (n : ℕ) (xs : List X) (x : X) (rest : List X) → drop n xs ≡ x ∷ rest → length (take n xs) ≡ n
take_many zero xs x rest is = refl
take_many (suc n) [] x rest is = absurd (cc)
take_many (suc n) (y ∷ xs) x rest is = ap suc (take_many n xs x rest is)

pub drop_within : {X : Type 0} (n : ℕ) (xs : List X) (x : X) (rest : List X) → drop n xs ≡ x ∷ rest → n < length xs
drop_within zero [] x rest is = absurd (cc)
drop_within zero (y ∷ xs) x rest is = omega arith
drop_within (suc n) [] x rest is = absurd (cc)
drop_within (suc n) (y ∷ xs) x rest is = (let h = drop_within n xs x rest is in omega arith)

pub drop_past : {X : Type 0} (n : ℕ) (xs : List X) → drop n xs ≡ [] → length xs ≤ n
drop_past n [] none = omega arith
drop_past zero (x ∷ xs) none = absurd (cc)
drop_past (suc n) (x ∷ xs) none = (let h = drop_past n xs none in omega arith)

-- before any task the record sees none
pub stage_none : {Task_ State_ : Type 0} (told : Option (List RecordEntry)) (starts : Option (List ℕ)) (turns : Option State_) (tasks : List Task_) (marks : List Mark) → tasks ≡ [] → marks ≡ []
    → (let s : Stage Task_ State_ = record { made = record { tasks = tasks; marks = marks }; told = told; starts = starts; turns = turns } in s)
    ≡ record { made = fresh []; told = told; starts = starts; turns = turns }
stage_none told starts turns tasks marks no_tasks no_marks = λ i. record { made = record { tasks = no_tasks i; marks = no_marks i }; told = told; starts = starts; turns = turns }

-- memory ran out before any root key was begun
pub halts_none : {R Own World Future P Task_ : Type 0} (set : Resolving R Own World Future) (turns : Choosing P) (work : Work Own Task_) (old : Seen R P) → HaltsInTurn set turns work old old
halts_none set turns work old = record {
  done = [];
  left = work.first;
  split = refl;
  middle = none_made set turns work old old;
  phases = refl;
  cut = none_before (serving_at set turns work old old) work.subject (choice_by turns) (set.world old.set) work.first (none_made set turns work old old);
}

-- between two phases each task has its answer
pub turn_answered : {R Own World Future L H P : Type 0} {e : Parts R Own World Future L H P} {first m : Moment R Future L H P} {done : List e.plan.Task} → InTurn e first m done
    → (k : ℕ) (task : e.plan.Task) → slice_get (e.plan.tasks m.plan) k ≡ Some task → slice_get m.states k ≡ Some state.Done
turn_answered {Own = Own} {Future = Future} {e = e} {m = m} turn k task is =
    let within = get_within (e.plan.tasks m.plan) k task is in
    let lengths = turn.lengths in
    let at = get_at m.states k (omega arith) in
    at.1 ∙ ap Some (sym (all_done Own e.plan.Task Future m.states (sym turn.waits ∙ turn.none) k at.0 at.1))

-- as many steps were taken as there are tasks
pub steps_in_turn : {R Own World Future L H P : Type 0} {e : Parts R Own World Future L H P} {first m : Moment R Future L H P} {done : List e.plan.Task} → InTurn e first m done
    → (steps steps' : ℕ) → total started first.states ≡ 0 → steps' + total started first.states ≡ steps + total started m.states
    → steps' ≡ steps + length (e.plan.tasks m.plan)
steps_in_turn {Own = Own} {Future = Future} {e = e} {m = m} turn steps steps' none stepped =
    let all = all_started Future m.states (λ k s is. all_done Own e.plan.Task Future m.states (sym turn.waits ∙ turn.none) k s is) in
    let long = turn.lengths in
    omega (arith, none, stepped, all, long)
