-- What one turn adds to the record.
use Rattle.std.proofs.Common.{ℕ, ◌≡◌, ◌≤◌, List, [], ◌∷◌, ◌++◌, length, refl, sym, ap, subst, ◌∙◌, arith}
use Rattle.std.proofs.lemmas.List.{append-nil, map-append}
use Rattle.std.specs.Prelude.{Option, Some, option_map, slice_get, slice_set, true, false, Bool}
use Rattle.std.specs.Option.{ForSome}
use Rattle.gql_resolve.specs.Record.{with_more, entry_of}
use Rattle.gql_resolve.specs.declared.answer.Answer.{Answer}
use Rattle.gql_resolve.specs.declared.record_entry.RecordEntry.{RecordEntry}
use Rattle.gql_resolve.specs.declared.resolver_context.ResolverContext.{ResolverContext}
use Rattle.gql_tasks.specs.declared.arena.State.{State}
use Rattle.gql_tasks.specs.declared.arena.State.TheVariants as state
use Rattle.gql_tasks.specs.Record.{AreUntold, Choice, untold, ready, Story, Made, waiting_from, untold_marks, beneath_of, after_ready, after_mark, NamesTask, Stage, begins, begun_at, IsOpenAt, Ran, Stopped}
use Rattle.gql_base.specs.PathSegment.{path_text}
use Rattle.gql_tasks.specs.Arena.{mark_of, marks_of, made_of, fresh_states, subject_of}
use Rattle.gql_tasks.specs.Plan.{Asking, IsContextOf}
use Rattle.gql_tasks.specs.Progress.{story_of}
use Rattle.gql_tasks.specs.Turn.{begins_now}
use Rattle.gql_lists.proofs.SliceLemmas.{map_set, get_map}

-- what the record sees, of plain lists
abbrev pub staged : {Task State_ : Type 0} → Made Task → Option (List RecordEntry) → Option (List ℕ) → Option State_ → Stage Task State_
staged made told starts turns = record { made = made; told = told; starts = starts; turns = turns }

module _ (V Task F State_ : Type 0) (choice : Choice State_) (asks : Task → Asking V) where
  -- the entry of a turn is of the task that the turns chose
  pub record Chosen (turns turns' : Option State_) (tasks : List Task) (states : List (State F)) (number : ℕ) (task : Task) (old : State F) (context : ResolverContext V) : Type 0 where
    pub picked : ForSome turns (λ s. slice_get (waiting_from 0 (marks_of states)) (choice.place s (length (waiting_from 0 (marks_of states)))) ≡ Some number)
    pub turns_is : turns' ≡ option_map (λ s. choice.after s (length (waiting_from 0 (marks_of states)))) turns
    pub task_is : slice_get tasks number ≡ Some task
    pub old_is : slice_get states number ≡ Some old
    pub open_is : old ≡ state.Done → ⊥
    pub context_is : IsContextOf number (asks task) context

module _ (V Task F State_ : Type 0) (choice : Choice State_) (asks : Task → Asking V) (beneath : Task → Answer V → List Task) (answers : Task → Answer V) where
  abbrev story : Story Task
  story = story_of (subject_of asks beneath) answers

  marks_fresh : (tasks : List Task) → marks_of (fresh_states {F = F} (length tasks)) ≡ untold_marks tasks
  marks_fresh [] = refl
  marks_fresh (t ∷ tasks) = ap (λ ms. untold ∷ ms) (marks_fresh tasks)

  begins_is : (number : ℕ) (s : State F) → begins number (Some (mark_of s)) ≡ begins_now number s
  begins_is number state.Fresh = refl
  begins_is number (state.Waiting f) = refl
  begins_is number state.Done = refl

  open_mark : (s : State F) → (s ≡ state.Done → ⊥) → IsOpenAt (Some (mark_of s))
  open_mark state.Fresh undone = tt
  open_mark (state.Waiting f) undone = tt
  open_mark state.Done undone = absurd (undone refl)

  module _ (turns turns' : Option State_) (tasks : List Task) (states : List (State F)) (number : ℕ) (task : Task) (old : State F) (context : ResolverContext V)
      (chosen : Chosen V Task F State_ choice asks turns turns' tasks states number task old context) (told told' : Option (List RecordEntry)) (starts starts' : Option (List ℕ))
      (starts_is : starts' ≡ with_more starts (begins_now context.task old)) where
    names : (is_ready : Bool) → NamesTask story (slice_get tasks context.task) (entry_of context is_ready)
    names is_ready = subst (λ t. NamesTask story t (entry_of context is_ready)) (sym (ap (slice_get tasks) chosen.context_is.task_is ∙ chosen.task_is))
        (ap (λ c. c.resolver) chosen.context_is.call_is, ap path_text chosen.context_is.segments_is)

    one_entry : (is_ready : Bool) (made' : Made Task) → told' ≡ with_more told (entry_of context is_ready ∷ [])
        → made' ≡ after_mark story (made_of tasks states) number is_ready
        → Ran choice story (staged (made_of tasks states) told starts turns) (staged made' told' starts' turns')
    one_entry is_ready made' told_is made_is = record {
      entries = entry_of context is_ready ∷ [];
      told_is = told_is;
      starts_is = starts_is ∙ ap (with_more starts)
          (ap (λ n. begins_now n old) chosen.context_is.task_is ∙ sym (begins_is number old)
          ∙ ap (begins number) (sym (get_map mark_of states number old chosen.old_is))
          ∙ ap (λ n. begins n (slice_get (marks_of states) n)) (sym chosen.context_is.task_is)
          ∙ sym (append-nil (begins context.task (slice_get (marks_of states) context.task))));
      waits = (
        subst IsOpenAt (sym (ap (slice_get (marks_of states)) chosen.context_is.task_is ∙ get_map mark_of states number old chosen.old_is))
            (open_mark old chosen.open_is),
        tt,
      );
      turned = λ s is. (chosen.picked s is ∙ ap Some (sym chosen.context_is.task_is), names is_ready, tt);
      state_is = chosen.turns_is;
      made_is = made_is ∙ ap (λ n. after_mark story (made_of tasks states) n is_ready) (sym chosen.context_is.task_is);
    }

    pub ran_pending : (future : F) → told' ≡ with_more told (entry_of context false ∷ [])
        → Ran choice story (staged (made_of tasks states) told starts turns) (staged (made_of tasks (slice_set states number (state.Waiting future))) told' starts' turns')
    ran_pending future told_is = one_entry false (made_of tasks (slice_set states number (state.Waiting future))) told_is
        (ap (λ ms. let made : Made Task = record { tasks = tasks; marks = ms } in made) (map_set mark_of states number (state.Waiting future)))

    pub ran_ready : (more : List Task) → told' ≡ with_more told (entry_of context true ∷ []) → more ≡ beneath task (answers task)
        → Ran choice story (staged (made_of tasks states) told starts turns)
        (staged (made_of (tasks ++ more) (slice_set states number state.Done ++ fresh_states (length more))) told' starts' turns')
    ran_ready more told_is more_is = one_entry true (made_of (tasks ++ more) (slice_set states number state.Done ++ fresh_states (length more))) told_is
        (ap (λ ms. let made : Made Task = record { tasks = tasks ++ more; marks = ms } in made)
        (map-append mark_of (slice_set states number state.Done) (fresh_states (length more))
        ∙ ap (λ ms. ms ++ marks_of (fresh_states {F = F} (length more))) (map_set mark_of states number state.Done)
        ∙ ap (λ ms. slice_set (marks_of states) number ready ++ ms) (marks_fresh more))
        ∙ ap (λ ts. after_ready (made_of tasks states) number ts)
        (more_is ∙ ap (beneath_of story) (sym chosen.task_is)))

    -- a turn that ended out of memory after its entry
    pub stopped_after : (is_ready : Bool) → told' ≡ with_more told (entry_of context is_ready ∷ [])
        → Stopped choice story (staged (made_of tasks states) told starts turns) told' starts'
    stopped_after is_ready told_is =
        let ran = one_entry is_ready (after_mark story (made_of tasks states) number is_ready) told_is refl in
        record {
          entries = ran.entries;
          told_is = ran.told_is;
          waits = ran.waits;
          last = [];
          at_most_one = omega arith;
          last_untold = tt;
          starts_is = ran.starts_is ∙ ap (with_more starts) (sym (append-nil (begun_at story (made_of tasks states) ran.entries)));
          turned = ran.turned;
        }

    pub entries_after : (is_ready : Bool) (told_is : told' ≡ with_more told (entry_of context is_ready ∷ [])) → (stopped_after is_ready told_is).entries ≡ entry_of context is_ready ∷ []
    unfolding stopped_after one_entry
    entries_after is_ready told_is = refl

-- a task that a turn begins had no entry
module _ {Task F : Type 0} (tasks : List Task) (states : List (State F)) (number task : ℕ) where
  pub begins_untold : (was : State F) → task ≡ number → slice_get states number ≡ Some was → AreUntold (made_of tasks states) (begins_now task was)
  begins_untold state.Fresh same is = (ap (slice_get (marks_of states)) same ∙ get_map mark_of states number state.Fresh is, tt)
  begins_untold (state.Waiting f) same is = tt
  begins_untold state.Done same is = tt

-- and is the only one
pub one_begins : {F : Type 0} (task : ℕ) (was : State F) → length (begins_now task was) ≤ 1
one_begins task state.Fresh = omega arith
one_begins task (state.Waiting f) = omega arith
one_begins task state.Done = omega arith
