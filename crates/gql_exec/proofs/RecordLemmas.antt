-- A turned record of tasks is one of what stands for them.
use Rattle.std.proofs.Common.{◌≡◌, ℕ, true, false, Bool, List, [], ◌∷◌, ◌++◌, map, length, Option, Some, None, option_map, slice_get, slice_set, refl, ap, sym, ◌∙◌, subst}
use Rattle.std.proofs.lemmas.List.{map-append}
use Rattle.std.proofs.lemmas.Option.{slice_get-map}
use Rattle.std.specs.Option.{ForSome}
use Rattle.gql_tasks.specs.Pace.{EachPaced, EachPacedSoFar, pending_then_ready, told_of}
use Rattle.gql_request.specs.Path.{IsFront}
use Rattle.gql_tasks.specs.Record.{AreUntold, Choice, EachWaits, Mark, Made, NamesTask, Ran, Stage, Stopped, Story, Turned, untold, ready, fresh, untold_marks, beneath_of, after_ready, after_mark, after_entry, begun_at, begins, made_at, state_at, waiting}
use Rattle.gql_resolve.specs.Record.{with_more}
use Rattle.gql_resolve.specs.declared.record_entry.RecordEntry.{RecordEntry}

-- tasks that are read through a function, with the marks that they have
abbrev made_with : {Task : Type 0} → List Task → List Mark → Made Task
made_with tasks marks = record { tasks = tasks; marks = marks }

abbrev pub mapped : {Task Other : Type 0} → (Task → Other) → Made Task → Made Other
mapped f made = made_with (map f made.tasks) made.marks

untold-mapped : {Task Other : Type 0} (f : Task → Other) (tasks : List Task) → untold_marks tasks ≡ untold_marks (map f tasks)
untold-mapped f [] = refl
untold-mapped f (t ∷ tasks) = ap (λ ms. untold ∷ ms) (untold-mapped f tasks)

pub fresh-mapped : {Task Other : Type 0} (f : Task → Other) (tasks : List Task) → mapped f (fresh tasks) ≡ fresh (map f tasks)
fresh-mapped f tasks = ap (made_with (map f tasks)) (untold-mapped f tasks)

module _ {Task Other : Type 0} (f : Task → Other) (delay : Task → ℕ) (pace : Other → ℕ) (same : (task : Task) → pace (f task) ≡ delay task)
    (tasks : List Task) (told : List RecordEntry) where
  pub paced-mapped : EachPaced delay tasks told → EachPaced pace (map f tasks) told
  paced-mapped each = record { paced = λ k u is. at k u (slice_get tasks k) refl (sym (slice_get-map f tasks k) ∙ is) }
    where
      at : (k : ℕ) (u : Other) (o : Option Task) → slice_get tasks k ≡ o → option_map f o ≡ Some u → told_of k told ≡ pending_then_ready (pace u)
      at k u None stands is = cc
      at k u (Some t) stands is = let e : f t ≡ u = cc in each.paced k t stands ∙ ap pending_then_ready (sym (same t) ∙ ap pace e)

  pub so-far-mapped : EachPacedSoFar delay tasks told → EachPacedSoFar pace (map f tasks) told
  so-far-mapped each = record { paced = λ k u is. at k u (slice_get tasks k) refl (sym (slice_get-map f tasks k) ∙ is) }
    where
      at : (k : ℕ) (u : Other) (o : Option Task) → slice_get tasks k ≡ o → option_map f o ≡ Some u
          → IsFront (told_of k told) (pending_then_ready (pace u))
      at k u None stands is = cc
      at k u (Some t) stands is =
          let e : f t ≡ u = cc in
          subst (λ n. IsFront (told_of k told) (pending_then_ready n)) (sym (same t) ∙ ap pace e) (each.paced k t stands)

-- a turned record of tasks is one of what stands for them
module _ {Task Other State : Type 0} (choice : Choice State) (one : Story Task) (other : Story Other) (f : Task → Other)
    (resolvers : (task : Task) → other.resolver (f task) ≡ one.resolver task) (paths : (task : Task) → other.path (f task) ≡ one.path task)
    (beneath : (task : Task) → other.beneath (f task) ≡ map f (one.beneath task)) where
  below-mapped : (o : Option Task) → beneath_of other (option_map f o) ≡ map f (beneath_of one o)
  below-mapped None = refl
  below-mapped (Some t) = beneath t

  names-mapped : (o : Option Task) (e : RecordEntry) → NamesTask one o e → NamesTask other (option_map f o) e
  names-mapped None e h = h
  names-mapped (Some t) e h = (h.0 ∙ sym (resolvers t), h.1 ∙ sym (paths t))

  mark-mapped : (made : Made Task) (k : ℕ) (is_ready : Bool) → after_mark other (mapped f made) k is_ready ≡ mapped f (after_mark one made k is_ready)
  mark-mapped made k true =
      let more = beneath_of one (slice_get made.tasks k) in
      let below : beneath_of other (slice_get (map f made.tasks) k) ≡ map f more = ap (beneath_of other) (slice_get-map f made.tasks k) ∙ below-mapped (slice_get made.tasks k) in
      ap (after_ready (mapped f made) k) below
      ∙ (λ i. made_with (sym (map-append f made.tasks more) i) (slice_set made.marks k ready ++ sym (untold-mapped f more) i))
  mark-mapped made k false = refl

  pub turned-mapped : (state : State) (made : Made Task) (told : List RecordEntry) → Turned choice one state made told
      → Turned choice other state (mapped f made) told
  turned-mapped state made [] turned = tt
  turned-mapped state made (e ∷ told) turned = (
    turned.0,
    subst (λ o. NamesTask other o e) (sym (slice_get-map f made.tasks e.task)) (names-mapped (slice_get made.tasks e.task) e turned.1),
    subst (λ m. Turned choice other (choice.after state (length (waiting made))) m told) (sym (mark-mapped made e.task e.ready))
        (turned-mapped (choice.after state (length (waiting made))) (after_entry one made e) told turned.2),
  )

  pub waits-mapped : (made : Made Task) (told : List RecordEntry) → EachWaits one made told → EachWaits other (mapped f made) told
  waits-mapped made [] waits = tt
  waits-mapped made (e ∷ told) waits =
      (waits.0, subst (λ m. EachWaits other m told) (sym (mark-mapped made e.task e.ready)) (waits-mapped (after_entry one made e) told waits.1))

  pub made-mapped : (made : Made Task) (told : List RecordEntry) → made_at other (mapped f made) told ≡ mapped f (made_at one made told)
  made-mapped made [] = refl
  made-mapped made (e ∷ told) = ap (λ m. made_at other m told) (mark-mapped made e.task e.ready) ∙ made-mapped (after_entry one made e) told

  pub state-mapped : (state : State) (made : Made Task) (told : List RecordEntry)
      → state_at choice one state made told ≡ state_at choice other state (mapped f made) told
  state-mapped state made [] = refl
  state-mapped state made (e ∷ told) =
      let next = choice.after state (length (waiting made)) in
      state-mapped next (after_entry one made e) told ∙ ap (λ m. state_at choice other next m told) (sym (mark-mapped made e.task e.ready))

  pub begun-mapped : (made : Made Task) (told : List RecordEntry) → begun_at one made told ≡ begun_at other (mapped f made) told
  begun-mapped made [] = refl
  begun-mapped made (e ∷ told) =
      ap (λ rest. begins e.task (slice_get made.marks e.task) ++ rest)
      (begun-mapped (after_entry one made e) told ∙ ap (λ m. begun_at other m told) (sym (mark-mapped made e.task e.ready)))

  pub some-mapped : (o : Option State) (made : Made Task) (told : List RecordEntry) → ForSome o (λ s. Turned choice one s made told)
      → ForSome o (λ s. Turned choice other s (mapped f made) told)
  some-mapped o made told turned = λ s is. turned-mapped s made told (turned s is)

-- what the record sees of tasks that are read through a function
abbrev pub staged : {Task Other State : Type 0} → (Task → Other) → Stage Task State → Stage Other State
staged f stage = record { made = mapped f stage.made; told = stage.told; starts = stage.starts; turns = stage.turns }

-- the same of other tasks
abbrev pub with_made : {Task Other State : Type 0} → Stage Task State → Made Other → Stage Other State
with_made stage made = record { made = made; told = stage.told; starts = stage.starts; turns = stage.turns }

-- a stretch over tasks is one over what stands for them
module _ {Task Other State : Type 0} (choice : Choice State) (one : Story Task) (other : Story Other) (f : Task → Other)
    (resolvers : (task : Task) → other.resolver (f task) ≡ one.resolver task) (paths : (task : Task) → other.path (f task) ≡ one.path task)
    (beneath : (task : Task) → other.beneath (f task) ≡ map f (one.beneath task)) (old : Stage Task State) (made : Made Other)
    (begun : mapped f old.made ≡ made) where
  abbrev pub ran-mapped : (new : Stage Task State) → Ran choice one old new → Ran choice other (with_made old made) (staged f new)
  ran-mapped new ran = record {
    entries = ran.entries;
    told_is = ran.told_is;
    starts_is = ran.starts_is
        ∙ ap (with_more old.starts)
        (begun-mapped choice one other f resolvers paths beneath old.made ran.entries ∙ ap (λ m. begun_at other m ran.entries) begun);
    waits = subst (λ m. EachWaits other m ran.entries) begun (waits-mapped choice one other f resolvers paths beneath old.made ran.entries ran.waits);
    turned = λ s is. subst (λ m. Turned choice other s m ran.entries) begun
        (turned-mapped choice one other f resolvers paths beneath s old.made ran.entries (ran.turned s is));
    state_is = ran.state_is
        ∙ ap (λ (state : State → State). option_map state old.turns)
        (λ i s. (state-mapped choice one other f resolvers paths beneath s old.made ran.entries
        ∙ ap (λ m. state_at choice other s m ran.entries) begun) i);
    made_is = ap (mapped f) ran.made_is ∙ sym (made-mapped choice one other f resolvers paths beneath old.made ran.entries)
        ∙ ap (λ m. made_at other m ran.entries) begun;
  }

  -- what is made after a record
  pub made-after : (entries : List RecordEntry) → mapped f (made_at one old.made entries) ≡ made_at other made entries
  made-after entries = sym (made-mapped choice one other f resolvers paths beneath old.made entries) ∙ ap (λ m. made_at other m entries) begun

  abbrev pub stopped-mapped : (told : Option (List RecordEntry)) (starts : Option (List ℕ)) → Stopped choice one old told starts
      → Stopped choice other (with_made old made) told starts
  stopped-mapped told starts stopped = record {
    entries = stopped.entries;
    told_is = stopped.told_is;
    waits = subst (λ m. EachWaits other m stopped.entries) begun
        (waits-mapped choice one other f resolvers paths beneath old.made stopped.entries stopped.waits);
    last = stopped.last;
    at_most_one = stopped.at_most_one;
    last_untold = subst (λ m. AreUntold m stopped.last) (made-after stopped.entries) stopped.last_untold;
    starts_is = stopped.starts_is
        ∙ ap (λ begun-by. with_more old.starts (begun-by ++ stopped.last))
        (begun-mapped choice one other f resolvers paths beneath old.made stopped.entries ∙ ap (λ m. begun_at other m stopped.entries) begun);
    turned = λ s is. subst (λ m. Turned choice other s m stopped.entries) begun
        (turned-mapped choice one other f resolvers paths beneath s old.made stopped.entries (stopped.turned s is));
  }
