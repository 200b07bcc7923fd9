-- Each turn takes the first of the entries that are to come of its task.
use Rattle.std.proofs.Common.{ℕ, zero, suc, ◌≡◌, ◌==◌, Bool, true, false, if◌then◌else◌, List, [], ◌∷◌, ◌++◌, refl, sym, ap, subst, ◌∙◌, inl, inr, append_assoc}
use Rattle.std.proofs.lemmas.List.{append-nil}
use Rattle.std.proofs.lemmas.Bool.{cases_eq, eq-eqb, ne_eqb}
use Rattle.std.specs.Prelude.{Some, slice_get, slice_set}
use Rattle.gql_resolve.specs.Record.{with_more, entry_of}
use Rattle.gql_resolve.specs.declared.record_entry.RecordEntry.{RecordEntry}
use Rattle.gql_resolve.specs.declared.resolver_context.ResolverContext.{ResolverContext}
use Rattle.gql_tasks.specs.declared.arena.State.{State}
use Rattle.gql_tasks.specs.declared.arena.State.TheVariants as state
use Rattle.gql_tasks.specs.Arena.{fresh_states}
use Rattle.gql_tasks.specs.Pace.{pending_then_ready, to_come, to_come_at, told_of, EachPaced}
use Rattle.gql_tasks.specs.Parts.{Parts, Moment, delay_by, delay_at}
use Rattle.gql_tasks.specs.Plan.{IsContextOf}
use Rattle.gql_tasks.specs.Progress.{Paces}
use Rattle.gql_lists.proofs.SliceLemmas.{get_set_same, get_set_other, get_append_left, get_within}
use Rattle.gql_tasks.proofs.RecordLemmas.{some_is, told_once, with_more_none, with_more_append}

pub told_append : (k : ℕ) (one other : List RecordEntry) → told_of k (one ++ other) ≡ told_of k one ++ told_of k other
told_append k [] other = refl
told_append k (e ∷ one) other =
    ap (λ fs. (if e.task == k then e.ready ∷ [] else []) ++ fs) (told_append k one other)
    ∙ sym (append_assoc (if e.task == k then e.ready ∷ [] else []) (told_of k one) (told_of k other))

pub told_here : (k : ℕ) (e : RecordEntry) → e.task ≡ k → told_of k (e ∷ []) ≡ e.ready ∷ []
told_here k e is = ap (λ b. (if b then e.ready ∷ [] else []) ++ []) (eq-eqb e.task k is)

pub told_elsewhere : (k : ℕ) (e : RecordEntry) → (e.task ≡ k → ⊥) → told_of k (e ∷ []) ≡ []
told_elsewhere k e differs = ap (λ b. (if b then e.ready ∷ [] else []) ++ []) (ne_eqb e.task k differs)

-- of fresh tasks as much is to come as of those that aren't made yet
module _ {F : Type 0} (number_of : F → ℕ) where
  pub come_fresh : (n k due : ℕ) → to_come_at number_of due (slice_get (fresh_states n) k) ≡ pending_then_ready due
  come_fresh zero zero due = refl
  come_fresh zero (suc k) due = refl
  come_fresh (suc n) zero due = refl
  come_fresh (suc n) (suc k) due = come_fresh n k due

  pub come_more : (states : List (State F)) (n k due : ℕ) → to_come_at number_of due (slice_get states k) ≡ to_come_at number_of due (slice_get (states ++ fresh_states n) k)
  come_more [] n zero due = sym (come_fresh n zero due)
  come_more [] n (suc k) due = sym (come_fresh n (suc k) due)
  come_more (s ∷ states) n zero due = refl
  come_more (s ∷ states) n (suc k) due = come_more states n k due

module _ {R Own World Future L H P : Type 0} {e : Parts R Own World Future L H P} where
  pub paces_none : (m : Moment R Future L H P) → Paces e m m
  paces_none m = record {
    entries = [];
    told_is = sym (with_more_none (e.set.told m.set));
    stays = λ k task is. is;
    splits = λ k due is. refl;
  }

  pub paces_trans : {old middle new : Moment R Future L H P} → e.set.rules middle.set ≡ e.set.rules old.set → Paces e old middle → Paces e middle new → Paces e old new
  paces_trans {old = old} {middle = middle} {new = new} rules_is one other = record {
    entries = one.entries ++ other.entries;
    told_is = other.told_is ∙ ap (λ t. with_more t other.entries) one.told_is ∙ with_more_append (e.set.told old.set) one.entries other.entries;
    stays = λ k task is. other.stays k task (one.stays k task is);
    splits = λ k due is.
        one.splits k due (λ task at. is task (other.stays k task at))
        ∙ ap (λ fs. told_of k one.entries ++ fs) (other.splits k due (λ task at. is task at ∙ sym (same task)))
        ∙ sym (append_assoc (told_of k one.entries) (told_of k other.entries) (to_come_at e.set.number due (slice_get new.states k)))
        ∙ ap (λ fs. fs ++ to_come_at e.set.number due (slice_get new.states k)) (sym (told_append k one.entries other.entries));
  }
    where
      same : (task : e.plan.Task) → delay_at e middle task ≡ delay_at e old task
      same task = ap (λ r. e.set.delay r (e.plan.asks task).call.resolver) rules_is

  -- one entry, of the task that is taken up
  pub one_pays : (old new : Moment R Future L H P) (number : ℕ) (task : e.plan.Task) (was now : State Future) (context : ResolverContext Own) (is_ready : Bool)
      → slice_get (e.plan.tasks old.plan) number ≡ Some task → slice_get old.states number ≡ Some was → IsContextOf number (e.plan.asks task) context
      → e.set.told new.set ≡ with_more (e.set.told old.set) (entry_of context is_ready ∷ [])
      → to_come e.set.number (delay_by e.set old.set context.resolver) was ≡ is_ready ∷ to_come e.set.number (delay_by e.set old.set context.resolver) now
      → ((k : ℕ) (t : e.plan.Task) → slice_get (e.plan.tasks old.plan) k ≡ Some t → slice_get (e.plan.tasks new.plan) k ≡ Some t)
      → slice_get new.states number ≡ Some now
      → ((k due : ℕ) → (k ≡ number → ⊥) → to_come_at e.set.number due (slice_get old.states k) ≡ to_come_at e.set.number due (slice_get new.states k))
      → Paces e old new
  one_pays old new number task was now context is_ready task_is was_is context_is told_is paid stays now_is others = record {
    entries = entry_of context is_ready ∷ [];
    told_is = told_is;
    stays = stays;
    splits = λ k due is. elim (cases_eq k number) [
      | inl same ↦ here k due is same
      | inr differs ↦ others k due differs
          ∙ ap (λ fs. fs ++ to_come_at e.set.number due (slice_get new.states k)) (sym (told_elsewhere k (entry_of context is_ready) (λ f. differs (sym f ∙ context_is.task_is))))
    ];
  }
    where
      delay_is : delay_by e.set old.set context.resolver ≡ delay_at e old task
      delay_is = ap (λ call. delay_by e.set old.set call.resolver) context_is.call_is

      here : (k due : ℕ) → ((t : e.plan.Task) → slice_get (e.plan.tasks new.plan) k ≡ Some t → due ≡ delay_at e old t) → k ≡ number
          → to_come_at e.set.number due (slice_get old.states k) ≡ told_of k (entry_of context is_ready ∷ []) ++ to_come_at e.set.number due (slice_get new.states k)
      here k due is same =
          let d : due ≡ delay_by e.set old.set context.resolver = is task (subst (λ j. slice_get (e.plan.tasks new.plan) j ≡ Some task) (sym same) (stays number task task_is)) ∙ sym delay_is in
          let a : to_come_at e.set.number due (slice_get old.states k) ≡ to_come e.set.number (delay_by e.set old.set context.resolver) was =
          ap (λ j. to_come_at e.set.number due (slice_get old.states j)) same ∙ ap (to_come_at e.set.number due) was_is ∙ ap (λ u. to_come e.set.number u was) d in
          let b : to_come_at e.set.number due (slice_get new.states k) ≡ to_come e.set.number (delay_by e.set old.set context.resolver) now =
          ap (λ j. to_come_at e.set.number due (slice_get new.states j)) same ∙ ap (to_come_at e.set.number due) now_is ∙ ap (λ u. to_come e.set.number u now) d in
          a ∙ paid ∙ ap (λ fs. is_ready ∷ fs) (sym b)
          ∙ ap (λ fs. fs ++ to_come_at e.set.number due (slice_get new.states k)) (sym (told_here k (entry_of context is_ready) (context_is.task_is ∙ sym same)))

  pub pays_waiting : (old new : Moment R Future L H P) (number : ℕ) (task : e.plan.Task) (was now : State Future) (context : ResolverContext Own)
      → slice_get (e.plan.tasks old.plan) number ≡ Some task → slice_get old.states number ≡ Some was → IsContextOf number (e.plan.asks task) context
      → e.set.told new.set ≡ with_more (e.set.told old.set) (entry_of context false ∷ [])
      → to_come e.set.number (delay_by e.set old.set context.resolver) was ≡ false ∷ to_come e.set.number (delay_by e.set old.set context.resolver) now
      → e.plan.tasks new.plan ≡ e.plan.tasks old.plan → new.states ≡ slice_set old.states number now
      → Paces e old new
  pays_waiting old new number task was now context task_is was_is context_is told_is paid tasks_is states_is =
      one_pays old new number task was now context false task_is was_is context_is told_is paid
      (λ k t is. ap (λ ts. slice_get ts k) tasks_is ∙ is)
      (ap (λ ss. slice_get ss number) states_is ∙ get_set_same old.states number now (get_within old.states number was was_is))
      (λ k due differs. ap (to_come_at e.set.number due) (sym (get_set_other old.states number k now differs) ∙ ap (λ ss. slice_get ss k) (sym states_is)))

  pub pays_answer : (old new : Moment R Future L H P) (number : ℕ) (task : e.plan.Task) (was : State Future) (context : ResolverContext Own) (more : List e.plan.Task) (count : ℕ)
      → slice_get (e.plan.tasks old.plan) number ≡ Some task → slice_get old.states number ≡ Some was → IsContextOf number (e.plan.asks task) context
      → e.set.told new.set ≡ with_more (e.set.told old.set) (entry_of context true ∷ [])
      → to_come e.set.number (delay_by e.set old.set context.resolver) was ≡ true ∷ []
      → e.plan.tasks new.plan ≡ e.plan.tasks old.plan ++ more → new.states ≡ slice_set old.states number state.Done ++ fresh_states count
      → Paces e old new
  pays_answer old new number task was context more count task_is was_is context_is told_is paid tasks_is states_is =
      let within = get_within old.states number was was_is in
      one_pays old new number task was state.Done context true task_is was_is context_is told_is paid
      (λ k t is. ap (λ ts. slice_get ts k) tasks_is ∙ get_append_left (e.plan.tasks old.plan) more k t is)
      (ap (λ ss. slice_get ss number) states_is
      ∙ get_append_left (slice_set old.states number state.Done) (fresh_states count) number state.Done (get_set_same old.states number state.Done within))
      (λ k due differs. ap (to_come_at e.set.number due) (sym (get_set_other old.states number k state.Done differs))
      ∙ come_more e.set.number (slice_set old.states number state.Done) count k due
      ∙ ap (λ ss. to_come_at e.set.number due (slice_get ss k)) (sym states_is))

  -- in the end nothing is to come of any task
  pub each_paced : {old new : Moment R Future L H P} (before entries : List RecordEntry) (n : ℕ)
      → Paces e old new → e.set.told old.set ≡ Some before → e.set.told new.set ≡ with_more (e.set.told old.set) entries
      → old.states ≡ fresh_states n → ((k : ℕ) (task : e.plan.Task) → slice_get (e.plan.tasks new.plan) k ≡ Some task → slice_get new.states k ≡ Some state.Done)
      → EachPaced (delay_at e old) (e.plan.tasks new.plan) entries
  each_paced {old = old} {new = new} before entries n paces told_some told_is states_is done = record {
    paced = λ k task is.
        let same = told_once before entries paces.entries (e.set.told old.set) (e.set.told new.set) told_some told_is paces.told_is in
        let paid = paces.splits k (delay_at e old task) (λ t at. ap (delay_at e old) (some_is (sym is ∙ at))) in
        let first : to_come_at e.set.number (delay_at e old task) (slice_get old.states k) ≡ pending_then_ready (delay_at e old task)
        = ap (λ ss. to_come_at e.set.number (delay_at e old task) (slice_get ss k)) states_is ∙ come_fresh e.set.number n k (delay_at e old task) in
        let last : to_come_at e.set.number (delay_at e old task) (slice_get new.states k) ≡ [] = ap (to_come_at e.set.number (delay_at e old task)) (done k task is) in
        ap (told_of k) same
        ∙ sym (append-nil (told_of k paces.entries)) ∙ ap (λ fs. told_of k paces.entries ++ fs) (sym last) ∙ sym paid ∙ first;
  }
