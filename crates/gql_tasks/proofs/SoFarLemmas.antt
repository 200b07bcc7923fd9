-- Where memory ran out: the front of a turned record, and its pace so far.
use Rattle.std.proofs.Common.{ℕ, ◌≡◌, ◌≤◌, true, List, [], ◌∷◌, ◌++◌, length, take, drop, refl, sym, ap, subst, ◌∙◌, inl, inr, arith, append_assoc}
use Rattle.std.proofs.Math.Seq.{take-append_seam}
use Rattle.std.proofs.lemmas.Bool.{cases_eq}
use Rattle.std.proofs.lemmas.List.{take-append-drop}
use Rattle.std.specs.Prelude.{Some, slice_get}
use Rattle.std.specs.Option.{ForSome}
use Rattle.gql_request.specs.Path.{IsFront}
use Rattle.gql_resolve.specs.Record.{with_more, entry_of}
use Rattle.gql_resolve.specs.declared.answer.Answer.{Answer}
use Rattle.gql_resolve.specs.declared.record_entry.RecordEntry.{RecordEntry}
use Rattle.gql_resolve.specs.declared.resolver_context.ResolverContext.{ResolverContext}
use Rattle.gql_tasks.specs.declared.arena.State.{State}
use Rattle.gql_tasks.specs.Arena.{fresh_states}
use Rattle.gql_tasks.specs.Pace.{to_come, to_come_at, told_of, EachPacedSoFar}
use Rattle.gql_tasks.specs.Parts.{Parts, Moment, choice_by, delay_by, delay_at, stage, subject}
use Rattle.gql_tasks.specs.Plan.{IsContextOf}
use Rattle.gql_tasks.specs.Progress.{Paces, Progress, ProgressSoFar, story_of}
use Rattle.gql_tasks.specs.Record.{AreUntold, Stopped, made_at, tasks_at}
use Rattle.gql_tasks.proofs.PaceLemmas.{come_fresh, told_append, told_elsewhere, told_here}
use Rattle.gql_tasks.proofs.RecordLemmas.{made_at-append, made_keeps, some_is, stopped_trans, told_once, with_more_none}

-- a list begins with what stands before others in it
pub is_front : {X : Type 0} (front rest whole : List X) → whole ≡ front ++ rest → IsFront front whole
is_front front rest whole is = ap (take (length front)) is ∙ take-append_seam front rest

-- and what follows is what is left
pub front_rest : {X : Type 0} (front whole : List X) → IsFront front whole → whole ≡ front ++ drop (length front) whole
front_rest front whole is = sym (take-append-drop (length front) whole) ∙ ap (λ fs. fs ++ drop (length front) whole) is

module _ {R Own World Future L H P : Type 0} {e : Parts R Own World Future L H P} where
  -- memory ran out before an entry
  pub so_far_none : (old new : Moment R Future L H P) (answers : e.plan.Task → Answer Own) (last : List ℕ)
      → e.set.told new.set ≡ e.set.told old.set
      → length last ≤ 1 → AreUntold (stage e old).made last → e.set.begun new.set ≡ with_more (e.set.begun old.set) last
      → ProgressSoFar e old new answers
  so_far_none old new answers last told_is most untold_is begun_is = record {
    stopped = record {
      entries = [];
      told_is = told_is ∙ sym (with_more_none (e.set.told old.set));
      waits = tt;
      last = last;
      at_most_one = most;
      last_untold = untold_is;
      starts_is = begun_is;
      turned = λ s is. tt;
    };
    paces = λ pace before some k task is. refl;
  }

  -- or after that of an answer
  pub so_far_answer : (old new : Moment R Future L H P) (number : ℕ) (task : e.plan.Task) (was : State Future)
      (context : ResolverContext Own) (answers : e.plan.Task → Answer Own)
      → slice_get (e.plan.tasks old.plan) number ≡ Some task → slice_get old.states number ≡ Some was
      → IsContextOf number (e.plan.asks task) context
      → (stopped : Stopped (choice_by e.turns) (story_of (subject e) answers) (stage e old) (e.set.told new.set) (e.set.begun new.set))
      → stopped.entries ≡ entry_of context true ∷ []
      → (e.set.is_paced old.set → to_come e.set.number (delay_by e.set old.set context.resolver) was ≡ true ∷ [])
      → ProgressSoFar e old new answers
  so_far_answer old new number task was context answers task_is was_is context_is stopped entries_is paid = record {
    stopped = stopped;
    paces = λ pace before some k other is. elim (cases_eq k number) [
      | inl same ↦ here (paid pace) k other same is
      | inr differs ↦ (let due = to_come_at e.set.number (delay_at e old other) (slice_get old.states k) in
          is_front (told_of k stopped.entries) due due
          (ap (λ fs. fs ++ due)
          (sym (ap (told_of k) entries_is ∙ told_elsewhere k (entry_of context true) (λ f. differs (sym f ∙ context_is.task_is))))))
    ];
  }
    where
      here : to_come e.set.number (delay_by e.set old.set context.resolver) was ≡ true ∷ [] → (k : ℕ) (other : e.plan.Task) → k ≡ number
          → slice_get (tasks_at (story_of (subject e) answers) (stage e old).made stopped.entries) k ≡ Some other
          → IsFront (told_of k stopped.entries) (to_come_at e.set.number (delay_at e old other) (slice_get old.states k))
      here paid k other same is =
          let tasks = tasks_at (story_of (subject e) answers) (stage e old).made stopped.entries in
          let there : slice_get tasks number ≡ Some task
          = made_keeps (story_of (subject e) answers) (stage e old).made stopped.entries number task task_is in
          let one : other ≡ task = some_is (sym is ∙ ap (slice_get tasks) same ∙ there) in
          let delay_is : delay_at e old other ≡ delay_by e.set old.set context.resolver =
          ap (delay_at e old) one ∙ ap (λ call. delay_by e.set old.set call.resolver) (sym context_is.call_is) in
          let due = to_come_at e.set.number (delay_at e old other) (slice_get old.states k) in
          is_front (told_of k stopped.entries) [] due
          (ap (λ j. to_come_at e.set.number (delay_at e old other) (slice_get old.states j)) same
          ∙ ap (to_come_at e.set.number (delay_at e old other)) was_is
          ∙ ap (λ u. to_come e.set.number u was) delay_is ∙ paid
          ∙ ap (λ fs. fs ++ []) (sym (ap (told_of k) entries_is ∙ told_here k (entry_of context true) (context_is.task_is ∙ sym same))))

  -- after turns that ended well
  pub so_far_trans : {old middle new : Moment R Future L H P} {answers : e.plan.Task → Answer Own}
      → e.set.rules middle.set ≡ e.set.rules old.set
      → (e.set.is_paced old.set → e.set.is_paced middle.set) → Progress e old middle answers → (e.set.is_paced old.set → Paces e old middle)
      → ProgressSoFar e middle new answers → ProgressSoFar e old new answers
  so_far_trans {old = old} {middle = middle} {new = new} {answers = answers} rules_is keeps one paces other = record {
    stopped = stopped_trans e.plan.Task e.turns.State (choice_by e.turns) (story_of (subject e) answers) one.ran other.stopped;
    paces = λ pace before some k task is.
        let story = story_of (subject e) answers in
        let first = paces pace in
        let later = other.stopped.entries in
        let told_is : e.set.told middle.set ≡ Some (before ++ one.ran.entries)
        = one.ran.told_is ∙ ap (λ t. with_more t one.ran.entries) some in
        let made : made_at story (stage e middle).made later ≡ made_at story (stage e old).made (one.ran.entries ++ later)
        = ap (λ m. made_at story m later) one.ran.made_is
        ∙ sym (made_at-append e.plan.Task e.turns.State (choice_by e.turns) story (stage e old).made one.ran.entries later) in
        let there : slice_get (tasks_at story (stage e middle).made later) k ≡ Some task = ap (λ m. slice_get m.tasks k) made ∙ is in
        let same = told_once before one.ran.entries first.entries (e.set.told old.set) (e.set.told middle.set) some one.ran.told_is
        first.told_is in
        both later first same k task
        (λ t at. some_is (sym there ∙ made_keeps story (stage e middle).made later k t at))
        (other.paces (keeps pace) (before ++ one.ran.entries) told_is k task there);
  }
    where
      both : {entries : List RecordEntry} (later : List RecordEntry) (first : Paces e old middle) → entries ≡ first.entries
          → (k : ℕ) (task : e.plan.Task)
          → ((t : e.plan.Task) → slice_get (e.plan.tasks middle.plan) k ≡ Some t → task ≡ t)
          → IsFront (told_of k later) (to_come_at e.set.number (delay_at e middle task) (slice_get middle.states k))
          → IsFront (told_of k (entries ++ later)) (to_come_at e.set.number (delay_at e old task) (slice_get old.states k))
      both {entries = entries} later first same k task alone front =
          let due = to_come_at e.set.number (delay_at e old task) (slice_get middle.states k) in
          let still : IsFront (told_of k later) due
          = subst (λ d. IsFront (told_of k later) (to_come_at e.set.number d (slice_get middle.states k)))
          (ap (λ r. e.set.delay r (e.plan.asks task).call.resolver) rules_is) front in
          let rest = drop (length (told_of k later)) due in
          is_front (told_of k (entries ++ later)) rest (to_come_at e.set.number (delay_at e old task) (slice_get old.states k))
          (first.splits k (delay_at e old task) (λ t at. ap (delay_at e old) (alone t at))
          ∙ ap (λ es. told_of k es ++ due) (sym same)
          ∙ ap (λ fs. told_of k entries ++ fs) (front_rest (told_of k later) due still)
          ∙ sym (append_assoc (told_of k entries) (told_of k later) rest)
          ∙ ap (λ fs. fs ++ rest) (sym (told_append k entries later)))

  -- memory ran out after all turns
  pub so_far_whole : {old new : Moment R Future L H P} {answers : e.plan.Task → Answer Own}
      → e.set.rules new.set ≡ e.set.rules old.set
      → (e.set.is_paced old.set → e.set.is_paced new.set) → Progress e old new answers → (e.set.is_paced old.set → Paces e old new)
      → ProgressSoFar e old new answers
  so_far_whole {new = new} {answers = answers} rules_is keeps one paces =
      so_far_trans rules_is keeps one paces (so_far_none new new answers [] refl (omega arith) tt (sym (with_more_none (e.set.begun new.set))))

  -- fresh tasks have all their entries to come
  pub each_so_far : {old new : Moment R Future L H P} {answers : e.plan.Task → Answer Own} (n : ℕ)
      (so_far : ProgressSoFar e old new answers) → old.states ≡ fresh_states n
      → e.set.is_paced old.set → ForSome (e.set.told old.set) (λ before. EachPacedSoFar (delay_at e old)
      (tasks_at (story_of (subject e) answers) (stage e old).made so_far.stopped.entries) so_far.stopped.entries)
  each_so_far {old = old} n so_far states_is pace before some = record {
    paced = λ k task is. subst (IsFront (told_of k so_far.stopped.entries))
        (ap (λ ss. to_come_at e.set.number (delay_at e old task) (slice_get ss k)) states_is
        ∙ come_fresh e.set.number n k (delay_at e old task))
        (so_far.paces pace before some k task is);
  }
