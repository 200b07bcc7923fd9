-- Records one after another.
use Rattle.std.proofs.Common.{ℕ, ◌≡◌, Bool, true, false, List, [], ◌∷◌, ◌++◌, length, refl, sym, ap, subst, ◌∙◌, append_assoc}
use Rattle.std.proofs.lemmas.List.{append-nil, append_cancel_left}
use Rattle.std.specs.Prelude.{Option, Some, None, option_map, slice_get}
use Rattle.std.specs.Option.{ForSome}
use Rattle.gql_resolve.specs.Record.{with_more}
use Rattle.gql_resolve.specs.declared.record_entry.RecordEntry.{RecordEntry}
use Rattle.gql_lists.proofs.SliceLemmas.{get_append_left}
use Rattle.gql_tasks.specs.Record.{AreUntold, Choice, Story, Made, Stage, waiting, after_entry, after_mark, beneath_of, Turned, EachWaits, state_at, made_at, begins, begun_at, Ran, Stopped}

pub with_more_none : {T : Type 0} (told : Option (List T)) → with_more told [] ≡ told
with_more_none None = refl
with_more_none (Some before) = ap Some (append-nil before)

pub with_more_append : {T : Type 0} (told : Option (List T)) (one other : List T) → with_more (with_more told one) other ≡ with_more told (one ++ other)
with_more_append None one other = refl
with_more_append (Some before) one other = ap Some (append_assoc before one other)

pub some_is : {X : Type 0} {x y : X} → Some x ≡ Some y → x ≡ y
some_is same = cc

-- what was told is told once
pub told_once : (before one other : List RecordEntry) (told told' : Option (List RecordEntry)) → told ≡ Some before → told' ≡ with_more told one → told' ≡ with_more told other → one ≡ other
told_once before one other told told' some first second =
    append_cancel_left before one other
    (some_is (sym (subst (λ t. told' ≡ with_more t one) some first) ∙ subst (λ t. told' ≡ with_more t other) some second))

-- a task that is made keeps its number
module _ {Task : Type 0} (story : Story Task) where
  mark_keeps : (made : Made Task) (n : ℕ) (is_ready : Bool) (k : ℕ) (task : Task) → slice_get made.tasks k ≡ Some task
      → slice_get (after_mark story made n is_ready).tasks k ≡ Some task
  mark_keeps made n true k task is = get_append_left made.tasks (beneath_of story (slice_get made.tasks n)) k task is
  mark_keeps made n false k task is = is

  pub made_keeps : (made : Made Task) (entries : List RecordEntry) (k : ℕ) (task : Task) → slice_get made.tasks k ≡ Some task
      → slice_get (made_at story made entries).tasks k ≡ Some task
  made_keeps made [] k task is = is
  made_keeps made (e ∷ entries) k task is = made_keeps (after_entry story made e) entries k task (mark_keeps made e.task e.ready k task is)

module _ (Task State : Type 0) (choice : Choice State) (story : Story Task) where
  pub made_at-append : (made : Made Task) (one other : List RecordEntry) → made_at story made (one ++ other) ≡ made_at story (made_at story made one) other
  made_at-append made [] other = refl
  made_at-append made (e ∷ one) other = made_at-append (after_entry story made e) one other

  state_at-append : (state : State) (made : Made Task) (one other : List RecordEntry)
      → state_at choice story state made (one ++ other) ≡ state_at choice story (state_at choice story state made one) (made_at story made one) other
  state_at-append state made [] other = refl
  state_at-append state made (e ∷ one) other = state_at-append (choice.after state (length (waiting made))) (after_entry story made e) one other

  begun_at-append : (made : Made Task) (one other : List RecordEntry)
      → begun_at story made (one ++ other) ≡ begun_at story made one ++ begun_at story (made_at story made one) other
  begun_at-append made [] other = refl
  begun_at-append made (e ∷ one) other =
      ap (λ es. begins e.task (slice_get made.marks e.task) ++ es) (begun_at-append (after_entry story made e) one other)
      ∙ sym (append_assoc (begins e.task (slice_get made.marks e.task)) (begun_at story (after_entry story made e) one) (begun_at story (made_at story (after_entry story made e) one) other))

  Turned-append : (state : State) (made : Made Task) (one other : List RecordEntry)
      → Turned choice story state made one
      → Turned choice story (state_at choice story state made one) (made_at story made one) other
      → Turned choice story state made (one ++ other)
  Turned-append state made [] other first second = second
  Turned-append state made (e ∷ one) other first second =
      (first.0, first.1, Turned-append (choice.after state (length (waiting made))) (after_entry story made e) one other first.2 second)

  pub EachWaits-append : (made : Made Task) (one other : List RecordEntry) → EachWaits story made one → EachWaits story (made_at story made one) other
      → EachWaits story made (one ++ other)
  EachWaits-append made [] other first second = second
  EachWaits-append made (e ∷ one) other first second = (first.0, EachWaits-append (after_entry story made e) one other first.1 second)

  pub ran_none : (stage : Stage Task State) → Ran choice story stage stage
  ran_none stage = record {
    entries = [];
    told_is = sym (with_more_none stage.told);
    starts_is = sym (with_more_none stage.starts);
    waits = tt;
    turned = λ s is. tt;
    state_is = same stage.turns;
    made_is = refl;
  }
    where
      same : (state : Option State) → state ≡ option_map (λ s. state_at choice story s stage.made []) state
      same None = refl
      same (Some s) = refl

  -- where one record ends, another goes on
  pub starts_on : (starts : Option (List ℕ)) (made made' : Made Task) (one other : List RecordEntry) (last : List ℕ) → made' ≡ made_at story made one
      → with_more (with_more starts (begun_at story made one)) (begun_at story made' other ++ last) ≡ with_more starts (begun_at story made (one ++ other) ++ last)
  starts_on starts made made' one other last is =
      with_more_append starts (begun_at story made one) (begun_at story made' other ++ last)
      ∙ ap (with_more starts)
      (sym (append_assoc (begun_at story made one) (begun_at story made' other) last)
      ∙ ap (λ bs. bs ++ last) (ap (λ m. begun_at story made one ++ begun_at story m other) is ∙ sym (begun_at-append made one other)))

  pub turned_on : (state state' : Option State) (made made' : Made Task) (one other : List RecordEntry) → made' ≡ made_at story made one
      → state' ≡ option_map (λ s. state_at choice story s made one) state
      → ForSome state (λ s. Turned choice story s made one) → ForSome state' (λ s. Turned choice story s made' other)
      → ForSome state (λ s. Turned choice story s made (one ++ other))
  turned_on state state' made made' one other made_is state_is first second = λ s is. Turned-append s made one other (first s is)
      (subst (λ m. Turned choice story (state_at choice story s made one) m other) made_is
      (second (state_at choice story s made one) (state_is ∙ ap (option_map (λ t. state_at choice story t made one)) is)))

  pub ran_trans : {old middle new : Stage Task State} → Ran choice story old middle → Ran choice story middle new → Ran choice story old new
  ran_trans {old = old} {middle = middle} {new = new} one other = record {
    entries = one.entries ++ other.entries;
    told_is = other.told_is ∙ ap (λ t. with_more t other.entries) one.told_is ∙ with_more_append old.told one.entries other.entries;
    starts_is = other.starts_is ∙ ap (λ t. with_more t (begun_at story middle.made other.entries)) one.starts_is
        ∙ ap (with_more (with_more old.starts (begun_at story old.made one.entries))) (sym (append-nil (begun_at story middle.made other.entries)))
        ∙ starts_on old.starts old.made middle.made one.entries other.entries [] one.made_is
        ∙ ap (with_more old.starts) (append-nil (begun_at story old.made (one.entries ++ other.entries)));
    waits = EachWaits-append old.made one.entries other.entries one.waits (subst (λ m. EachWaits story m other.entries) one.made_is other.waits);
    turned = turned_on old.turns middle.turns old.made middle.made one.entries other.entries one.made_is one.state_is one.turned other.turned;
    state_is = later old.turns one.state_is;
    made_is = other.made_is ∙ ap (λ m. made_at story m other.entries) one.made_is ∙ sym (made_at-append old.made one.entries other.entries);
  }
    where
      later : (state : Option State) → middle.turns ≡ option_map (λ s. state_at choice story s old.made one.entries) state
          → new.turns ≡ option_map (λ s. state_at choice story s old.made (one.entries ++ other.entries)) state
      later None is = other.state_is ∙ ap (option_map (λ s. state_at choice story s middle.made other.entries)) is
      later (Some s) is = other.state_is ∙ ap (option_map (λ t. state_at choice story t middle.made other.entries)) is
          ∙ ap Some (ap (λ m. state_at choice story (state_at choice story s old.made one.entries) m other.entries) one.made_is
          ∙ sym (state_at-append s old.made one.entries other.entries))

  abbrev pub stopped_trans : {old middle : Stage Task State} {told : Option (List RecordEntry)} {starts : Option (List ℕ)} → Ran choice story old middle
      → Stopped choice story middle told starts → Stopped choice story old told starts
  stopped_trans {old = old} {middle = middle} one other = record {
    entries = one.entries ++ other.entries;
    told_is = other.told_is ∙ ap (λ t. with_more t other.entries) one.told_is ∙ with_more_append old.told one.entries other.entries;
    waits = EachWaits-append old.made one.entries other.entries one.waits (subst (λ m. EachWaits story m other.entries) one.made_is other.waits);
    last = other.last;
    at_most_one = other.at_most_one;
    last_untold = subst (λ m. AreUntold m other.last)
        (ap (λ m. made_at story m other.entries) one.made_is ∙ sym (made_at-append old.made one.entries other.entries)) other.last_untold;
    starts_is = other.starts_is ∙ ap (λ t. with_more t (begun_at story middle.made other.entries ++ other.last)) one.starts_is
        ∙ starts_on old.starts old.made middle.made one.entries other.entries other.last one.made_is;
    turned = turned_on old.turns middle.turns old.made middle.made one.entries other.entries one.made_is one.state_is one.turned other.turned;
  }
