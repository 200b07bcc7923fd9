-- The rounds of the hooks, one stretch after another.
use Rattle.std.proofs.Common.{ℕ, zero, suc, ◌≡◌, ◌+◌, if◌then◌else◌, List, [], ◌∷◌, ◌++◌, map, refl, sym, ap, ◌∙◌, arith, inl, inr}
use Rattle.std.proofs.lemmas.Bool.{cases_eq, eq-eqb, ne_eqb}
use Rattle.std.proofs.lemmas.List.{map-append}
use Rattle.std.proofs.lemmas.List.Elements.{All-nil, All-cons, All-append, All-weaker}
use Rattle.std.specs.Prelude.{Some, slice_get, slice_set, Result, Ok, Err, IsErrAnd}
use Rattle.gql_resolve.specs.Record.{with_more}
use Rattle.gql_request.specs.declared.resolve_info.ResolveInfo.{ResolveInfo}
use Rattle.gql_resolve.specs.declared.resolver_context.ResolverContext.{ResolverContext}
use Rattle.gql_tasks.specs.declared.arena.State.{State}
use Rattle.gql_tasks.specs.declared.arena.State.TheVariants as state
use Rattle.gql_tasks.specs.declared.rounds.Rounds.{Ghosts as Hooking}
use Rattle.gql_tasks.specs.Arena.{fresh_states}
use Rattle.gql_tasks.specs.Parts.{Parts, Moment}
use Rattle.gql_tasks.specs.Plan.{Asking, IsContextOf, IsInfoOf}
use Rattle.gql_tasks.specs.Progress.{Enters, EntersSoFar}
use Rattle.gql_tasks.specs.Rounds.{IsOneOf, KeepNumbers, ToldRounds, RoundsOf, RoundsWhole, RoundsStopped, event_of, times, to_enter, to_enter_at}
use Rattle.gql_tasks.specs.Turn.{EntersAtMost, Round, enters_now}
use Rattle.gql_lists.proofs.SliceLemmas.{get_set_same, get_set_other, get_append_left, get_within}
use Rattle.gql_tasks.proofs.RecordLemmas.{with_more_none, with_more_append}

module _ (V : Type 0) where
  times_append : (k : ℕ) (one other : List (Round V)) → times k (one ++ other) ≡ times k one + times k other
  times_append k [] other = omega arith
  times_append k (r ∷ one) other = let h = times_append k one other in omega arith

  times_here : (k : ℕ) (r : Round V) → r.context.task ≡ k → times k (r ∷ []) ≡ 1
  times_here k r is = ap (λ b. (if b then 1 else 0) + 0) (eq-eqb r.context.task k is)

  times_elsewhere : (k : ℕ) (r : Round V) → (r.context.task ≡ k → ⊥) → times k (r ∷ []) ≡ 0
  times_elsewhere k r differs = ap (λ b. (if b then 1 else 0) + 0) (ne_eqb r.context.task k differs)

  -- the rounds of a turn are those that were to come of its task
  times_now : (F : Type 0) (k : ℕ) (c : ResolverContext V) (i : ResolveInfo) (s : State F) → c.task ≡ k → times k (enters_now c i s) ≡ to_enter s
  times_now F k c i state.Fresh is = times_here k (record { context = c; info = i }) is
  times_now F k c i (state.Waiting f) is = refl
  times_now F k c i state.Done is = refl

  times_other : (F : Type 0) (k : ℕ) (c : ResolverContext V) (i : ResolveInfo) (s : State F) → (c.task ≡ k → ⊥) → times k (enters_now c i s) ≡ 0
  times_other F k c i state.Fresh differs = times_elsewhere k (record { context = c; info = i }) differs
  times_other F k c i (state.Waiting f) differs = refl
  times_other F k c i state.Done differs = refl

-- of fresh tasks as much is to come as of those that aren't made yet
module _ (F : Type 0) where
  enter_fresh : (n k : ℕ) → to_enter_at (slice_get (fresh_states {F = F} n) k) ≡ 1
  enter_fresh zero zero = refl
  enter_fresh zero (suc k) = refl
  enter_fresh (suc n) zero = refl
  enter_fresh (suc n) (suc k) = enter_fresh n k

  pub enter_more : (states : List (State F)) (n k : ℕ) → to_enter_at (slice_get states k) ≡ to_enter_at (slice_get (states ++ fresh_states n) k)
  enter_more [] n zero = sym (enter_fresh n zero)
  enter_more [] n (suc k) = sym (enter_fresh n (suc k))
  enter_more (s ∷ states) n zero = refl
  enter_more (s ∷ states) n (suc k) = enter_more states n k

own_later : {V Task : Type 0} {asks : Task → Asking V} {made made' : List Task} → KeepNumbers made made' → (r : Round V)
    → IsOneOf asks made r → IsOneOf asks made' r
own_later stays r own = record { task = own.task; there = stays r.context.task own.task own.there; context_is = own.context_is; info_is = own.info_is }

module _ {V Task H : Type 0} {asks : Task → Asking V} {hooks : Hooking H} where
  rounds_none : (made : List Task) (old : H) → ToldRounds asks hooks made old old
  rounds_none made old = record { entered = []; told_is = sym (with_more_none (hooks.told old)); own = All-nil (IsOneOf asks made) }

  pub no_rounds : (tasks : List Task) (old : H) → RoundsStopped asks hooks tasks old old
  unfolding rounds_none
  no_rounds tasks old = record { made = tasks; stays = λ k task is. is; rounds = rounds_none tasks old; once = λ k. omega arith }

  -- memory ran out
  pub rounds_err : {T Want : Type 0} (Q : Want → Type 0) {tasks : List Task} {old new : H} (result : Result T Want) → IsErrAnd result Q → RoundsStopped asks hooks tasks old new
      → RoundsOf asks hooks tasks old new result
  rounds_err Q (Ok x) is stopped = absurd is
  rounds_err Q (Err want) is stopped = record { whole = tt; stopped = stopped }

  rounds_now : (F : Type 0) (made : List Task) (old new : H) (number : ℕ) (task : Task) (context : ResolverContext V) (info : ResolveInfo) (s : State F)
      → slice_get made number ≡ Some task → IsContextOf number (asks task) context → IsInfoOf (asks task) info
      → hooks.told new ≡ with_more (hooks.told old) (map (event_of hooks) (enters_now context info s)) → ToldRounds asks hooks made old new
  rounds_now F made old new number task context info s task_is context_is info_is told_is = record {
    entered = enters_now context info s;
    told_is = told_is;
    own = own s;
  }
    where
      one : IsOneOf asks made (record { context = context; info = info })
      one = record {
        task = task;
        there = ap (slice_get made) context_is.task_is ∙ task_is;
        context_is = record {
          call_is = context_is.call_is;
          task_is = refl;
          segments_is = context_is.segments_is;
          item_is = context_is.item_is;
          env_is = context_is.env_is;
        };
        info_is = info_is;
      }

      own : (s : State F) → Rattle.std.specs.Prelude.All (IsOneOf asks made) (enters_now context info s)
      own state.Fresh = All-cons (IsOneOf asks made) (record { context = context; info = info }) [] one (All-nil (IsOneOf asks made))
      own (state.Waiting f) = All-nil (IsOneOf asks made)
      own state.Done = All-nil (IsOneOf asks made)

  rounds_trans : {made made' : List Task} {old middle new : H} → KeepNumbers made made'
      → ToldRounds asks hooks made old middle → ToldRounds asks hooks made' middle new → ToldRounds asks hooks made' old new
  rounds_trans {made = made} {made' = made'} {old = old} stays one other = record {
    entered = one.entered ++ other.entered;
    told_is = other.told_is ∙ ap (λ t. with_more t (map (event_of hooks) other.entered)) one.told_is
        ∙ with_more_append (hooks.told old) (map (event_of hooks) one.entered) (map (event_of hooks) other.entered)
        ∙ ap (with_more (hooks.told old)) (sym (map-append (event_of hooks) one.entered other.entered));
    own = All-append (IsOneOf asks made') one.entered other.entered
        (All-weaker (IsOneOf asks made) (IsOneOf asks made') (own_later stays) one.entered one.own) other.own;
  }

module _ {R Own World Future L H P : Type 0} {e : Parts R Own World Future L H P} where
  pub enters_none : (old new : Moment R Future L H P) → e.plan.tasks new.plan ≡ e.plan.tasks old.plan
      → new.states ≡ old.states → new.hooks ≡ old.hooks → Enters e old new
  enters_none old new tasks_is states_is hooks_is = record {
    stays = λ k task is. ap (λ ts. slice_get ts k) tasks_is ∙ is;
    rounds = record {
      entered = [];
      told_is = ap e.hooks.told hooks_is ∙ sym (with_more_none (e.hooks.told old.hooks));
      own = All-nil (IsOneOf e.plan.asks (e.plan.tasks new.plan));
    };
    once = λ k. let a = ap (λ ss. to_enter_at (slice_get ss k)) (sym states_is) in omega arith;
  }

  pub enters_trans : {old middle new : Moment R Future L H P} → Enters e old middle → Enters e middle new → Enters e old new
  unfolding rounds_trans
  enters_trans {old = old} {middle = middle} {new = new} one other = record {
    stays = λ k task is. other.stays k task (one.stays k task is);
    rounds = rounds_trans other.stays one.rounds other.rounds;
    once = λ k.
        let first = one.once k in
        let second = other.once k in
        let both = times_append Own k one.rounds.entered other.rounds.entered in
        omega arith;
  }

  pub so_far_enters_trans : {old middle : Moment R Future L H P} {hooks : H} → Enters e old middle → EntersSoFar e middle hooks → EntersSoFar e old hooks
  unfolding rounds_trans
  so_far_enters_trans one other = record {
    made = other.made;
    stays = λ k task is. other.stays k task (one.stays k task is);
    rounds = rounds_trans other.stays one.rounds other.rounds;
    once = λ k.
        let first = one.once k in
        let second = other.once k in
        let both = times_append Own k one.rounds.entered other.rounds.entered in
        omega arith;
  }

  pub so_far_enters_none : (old : Moment R Future L H P) → EntersSoFar e old old.hooks
  unfolding rounds_none
  so_far_enters_none old = record {
    made = e.plan.tasks old.plan;
    stays = λ k task is. is;
    rounds = rounds_none (e.plan.tasks old.plan) old.hooks;
    once = λ k. omega arith;
  }

  module _ (old : Moment R Future L H P) (number : ℕ) (task : e.plan.Task) (was : State Future) (context : ResolverContext Own) (info : ResolveInfo)
      (task_is : slice_get (e.plan.tasks old.plan) number ≡ Some task) (was_is : slice_get old.states number ≡ Some was)
      (context_is : IsContextOf number (e.plan.asks task) context) (info_is : IsInfoOf (e.plan.asks task) info) where
    -- a turn enters the hooks of its task where they were to be entered, and those of no other
    pub one_enters : (new : Moment R Future L H P) (now : State Future)
        → e.hooks.told new.hooks ≡ with_more (e.hooks.told old.hooks) (map (event_of e.hooks) (enters_now context info was))
        → KeepNumbers (e.plan.tasks old.plan) (e.plan.tasks new.plan) → slice_get new.states number ≡ Some now → to_enter now ≡ 0
        → ((k : ℕ) → (k ≡ number → ⊥) → to_enter_at (slice_get old.states k) ≡ to_enter_at (slice_get new.states k))
        → Enters e old new
    unfolding rounds_now
    one_enters new now told_is stays now_is over others = record {
      stays = stays;
      rounds = rounds_now Future (e.plan.tasks new.plan) old.hooks new.hooks number task context info was (stays number task task_is) context_is info_is told_is;
      once = λ k. elim (cases_eq k number) [
        | inl same ↦ here k same
        | inr differs ↦ (let a = others k differs in let b = times_other Own Future k context info was (λ f. differs (sym f ∙ context_is.task_is)) in omega arith)
      ];
    }
      where
        here : (k : ℕ) → k ≡ number → to_enter_at (slice_get old.states k) ≡ times k (enters_now context info was) + to_enter_at (slice_get new.states k)
        here k same =
            let a : to_enter_at (slice_get old.states k) ≡ to_enter was = ap (λ j. to_enter_at (slice_get old.states j)) same ∙ ap to_enter_at was_is in
            let b : to_enter_at (slice_get new.states k) ≡ 0 = ap (λ j. to_enter_at (slice_get new.states j)) same ∙ ap to_enter_at now_is ∙ over in
            let d = times_now Own Future k context info was (context_is.task_is ∙ sym same) in
            omega arith

    pub enters_waiting : (new : Moment R Future L H P) (future : Future)
        → e.hooks.told new.hooks ≡ with_more (e.hooks.told old.hooks) (map (event_of e.hooks) (enters_now context info was))
        → e.plan.tasks new.plan ≡ e.plan.tasks old.plan → new.states ≡ slice_set old.states number (state.Waiting future)
        → Enters e old new
    enters_waiting new future told_is tasks_is states_is = one_enters new (state.Waiting future) told_is
        (λ k t is. ap (λ ts. slice_get ts k) tasks_is ∙ is)
        (ap (λ ss. slice_get ss number) states_is ∙ get_set_same old.states number (state.Waiting future) (get_within old.states number was was_is)) refl
        (λ k differs. ap to_enter_at (sym (get_set_other old.states number k (state.Waiting future) differs) ∙ ap (λ ss. slice_get ss k) (sym states_is)))

    pub enters_answer : (new : Moment R Future L H P) (more : List e.plan.Task) (count : ℕ)
        → e.hooks.told new.hooks ≡ with_more (e.hooks.told old.hooks) (map (event_of e.hooks) (enters_now context info was))
        → e.plan.tasks new.plan ≡ e.plan.tasks old.plan ++ more → new.states ≡ slice_set old.states number state.Done ++ fresh_states count
        → Enters e old new
    enters_answer new more count told_is tasks_is states_is = one_enters new state.Done told_is
        (λ k t is. ap (λ ts. slice_get ts k) tasks_is ∙ get_append_left (e.plan.tasks old.plan) more k t is)
        (ap (λ ss. slice_get ss number) states_is
        ∙ get_append_left (slice_set old.states number state.Done) (fresh_states count) number state.Done
        (get_set_same old.states number state.Done (get_within old.states number was was_is))) refl
        (λ k differs. ap to_enter_at (sym (get_set_other old.states number k state.Done differs))
        ∙ enter_more Future (slice_set old.states number state.Done) count k
        ∙ ap (λ ss. to_enter_at (slice_get ss k)) (sym states_is))

    -- where memory ran out after the round
    pub so_far_entered : (hooks : H) → e.hooks.told hooks ≡ with_more (e.hooks.told old.hooks) (map (event_of e.hooks) (enters_now context info was))
        → EntersSoFar e old hooks
    unfolding rounds_now
    so_far_entered hooks told_is = record {
      made = e.plan.tasks old.plan;
      stays = λ k t is. is;
      rounds = rounds_now Future (e.plan.tasks old.plan) old.hooks hooks number task context info was task_is context_is info_is told_is;
      once = λ k. elim (cases_eq k number) [
        | inl same ↦ (let a : to_enter_at (slice_get old.states k) ≡ to_enter was = ap (λ j. to_enter_at (slice_get old.states j)) same ∙ ap to_enter_at was_is in
            let d = times_now Own Future k context info was (context_is.task_is ∙ sym same) in omega arith)
        | inr differs ↦ (let b = times_other Own Future k context info was (λ f. differs (sym f ∙ context_is.task_is)) in omega arith)
      ];
    }

    -- where it was wanting in the round, or later in the turn
    pub so_far_enters : (hooks : H) → EntersAtMost (map (event_of e.hooks) (enters_now context info was)) (e.hooks.told old.hooks) (e.hooks.told hooks)
        → EntersSoFar e old hooks
    so_far_enters hooks most = elim most [
      | inl same ↦ record {
        made = e.plan.tasks old.plan;
        stays = λ k t is. is;
        rounds = record { entered = []; told_is = same ∙ sym (with_more_none (e.hooks.told old.hooks)); own = All-nil (IsOneOf e.plan.asks (e.plan.tasks old.plan)) };
        once = λ k. omega arith;
      }
      | inr one ↦ so_far_entered hooks one
    ]

  -- fresh tasks until all have their answers: one round for each
  pub whole_rounds : {old new : Moment R Future L H P} (n : ℕ) → Enters e old new → old.states ≡ fresh_states n
      → ((k : ℕ) (task : e.plan.Task) → slice_get (e.plan.tasks new.plan) k ≡ Some task → slice_get new.states k ≡ Some state.Done)
      → RoundsWhole e.plan.asks e.hooks (e.plan.tasks old.plan) old.hooks new.hooks
  whole_rounds {old = old} {new = new} n enters states_is done = record {
    made = e.plan.tasks new.plan;
    stays = enters.stays;
    rounds = enters.rounds;
    once = λ k task is.
        let a = enters.once k in
        let b : to_enter_at (slice_get old.states k) ≡ 1 = ap (λ ss. to_enter_at (slice_get ss k)) states_is ∙ enter_fresh Future n k in
        let d : to_enter_at (slice_get new.states k) ≡ 0 = ap to_enter_at (done k task is) in
        omega arith;
  }

  pub stopped_rounds : {old : Moment R Future L H P} {hooks : H} (n : ℕ) → EntersSoFar e old hooks → old.states ≡ fresh_states n
      → RoundsStopped e.plan.asks e.hooks (e.plan.tasks old.plan) old.hooks hooks
  stopped_rounds {old = old} n enters states_is = record {
    made = enters.made;
    stays = enters.stays;
    rounds = enters.rounds;
    once = λ k.
        let a = enters.once k in
        let b : to_enter_at (slice_get old.states k) ≡ 1 = ap (λ ss. to_enter_at (slice_get ss k)) states_is ∙ enter_fresh Future n k in
        omega arith;
  }

  pub so_far_enters_whole : {old new : Moment R Future L H P} → Enters e old new → EntersSoFar e old new.hooks
  so_far_enters_whole {new = new} enters = record {
    made = e.plan.tasks new.plan;
    stays = enters.stays;
    rounds = enters.rounds;
    once = λ k. let a = enters.once k in omega arith;
  }
