-- A whole record of a story is the only one, where the turns choose and the entries of each task are known.
use Rattle.std.proofs.Common.{◌≡◌, ◌⊎◌, ℕ, zero, suc, ◌<◌, ◌≤◌, ◌==◌, Bool, true, false, if◌then◌else◌, List, [], ◌∷◌, ◌++◌, length, length-append, append-nil, Option, Some, None, slice_get, inl, inr, refl, ap, sym, ◌∙◌, subst, eq-eqb, ne_eqb, arith}
use Rattle.std.proofs.lemmas.List.{append_cancel_left}
use Rattle.std.proofs.lemmas.Bool.{cases_order}
use Rattle.std.proofs.lemmas.Option.{slice_get_within}
use Rattle.gql_tasks.specs.Arena.{Subject}
use Rattle.gql_tasks.specs.Pace.{EachPaced, pending_then_ready, told_of}
use Rattle.gql_tasks.specs.Phases.{after_root, IsPhase, PacedSince, Phases, Serving, story_in}
use Rattle.gql_tasks.specs.Record.{Choice, Made, NamesTask, Stage, Story, Turned, after_entry, after_mark, beneath_of, fresh, made_at, state_at, waiting}
use Rattle.gql_resolve.specs.declared.record_entry.RecordEntry.{RecordEntry}

module _ {A : Type 0} where
  -- what stands in a list stands there with more after it
  front-get : (xs ys : List A) (k : ℕ) (x : A) → slice_get xs k ≡ Some x → slice_get (xs ++ ys) k ≡ Some x
  front-get [] ys k x is = cc
  front-get (a ∷ xs) ys zero x is = is
  front-get (a ∷ xs) ys (suc k) x is = front-get xs ys k x is

  -- something stands at each place within a list
  within-get : (xs : List A) (k : ℕ) → k < length xs → (x : A) × (slice_get xs k ≡ Some x)
  within-get [] k within = absurd (omega arith)
  within-get (a ∷ xs) zero within = (a, refl)
  within-get (a ∷ xs) (suc k) within = within-get xs k (omega arith)

module _ {Task State : Type 0} (choice : Choice State) (story : Story Task) (delay : Task → ℕ) where
  -- an entry makes tasks after those that stand
  mark-tasks : (made : Made Task) (k : ℕ) (b : Bool) → (more : List Task) × ((after_mark story made k b).tasks ≡ made.tasks ++ more)
  mark-tasks made k true = (beneath_of story (slice_get made.tasks k), refl)
  mark-tasks made k false = ([], sym (append-nil made.tasks))

  -- a task that stands stands after an entry
  entry-keeps : (made : Made Task) (e : RecordEntry) (k : ℕ) (task : Task) → slice_get made.tasks k ≡ Some task
      → slice_get (after_entry story made e).tasks k ≡ Some task
  entry-keeps made e k task is =
      let (more, tasks) = mark-tasks made e.task e.ready in
      ap (λ ts. slice_get ts k) tasks ∙ front-get made.tasks more k task is

  -- and after all entries
  all-keep : (made : Made Task) (told : List RecordEntry) (k : ℕ) (task : Task) → slice_get made.tasks k ≡ Some task
      → slice_get (made_at story made told).tasks k ≡ Some task
  all-keep made [] k task is = is
  all-keep made (e ∷ told) k task is = all-keep (after_entry story made e) told k task (entry-keeps made e k task is)

  longer : (made : Made Task) (e : RecordEntry) → length made.tasks ≤ length (after_entry story made e).tasks
  longer made e =
      let (more, tasks) = mark-tasks made e.task e.ready in
      let sizes = ap length tasks ∙ length-append made.tasks more in
      omega arith

  -- an entry of another task is none of a task
  told-past : (k : ℕ) (e : RecordEntry) (told : List RecordEntry) → (e.task ≡ k → ⊥) → told_of k (e ∷ told) ≡ told_of k told
  told-past k e told other = ap (λ b. (if b then e.ready ∷ [] else []) ++ told_of k told) (ne_eqb e.task k other)

  told-first : (e : RecordEntry) (told : List RecordEntry) → told_of e.task (e ∷ told) ≡ e.ready ∷ told_of e.task told
  told-first e told = ap (λ b. (if b then e.ready ∷ [] else []) ++ told_of e.task told) (eq-eqb e.task e.task refl)

  stands-there : (tasks : List Task) (k : ℕ) (e : RecordEntry) (o : Option Task) → slice_get tasks k ≡ o → NamesTask story o e
      → (task : Task) × (slice_get tasks k ≡ Some task)
  stands-there tasks k e None is names = absurd names
  stands-there tasks k e (Some task) is names = (task, is)

  same-entry : (e g : RecordEntry) (o : Option Task) → e.task ≡ g.task → NamesTask story o e → NamesTask story o g → e.ready ≡ g.ready → e ≡ g
  same-entry e g None task n m is_ready = absurd n
  same-entry e g (Some t) task n m is_ready = λ i. record { task = task i; resolver = (n.0 ∙ sym m.0) i; path = (n.1 ∙ sym m.1) i; ready = is_ready i }

  -- the entries to come of each task that isn't made yet are those of its delay
  abbrev Owed : Made Task → List RecordEntry → Type 0
  Owed made told = (k : ℕ) (task : Task) → length made.tasks ≤ k → slice_get (made_at story made told).tasks k ≡ Some task
      → told_of k told ≡ pending_then_ready (delay task)

  -- two records that begin with these tasks: those that stand have the same entries in both, and those to come their own
  record Alike (made : Made Task) (told other : List RecordEntry) : Type 0 where
    seen : (k : ℕ) → k < length made.tasks → told_of k told ≡ told_of k other
    owed : Owed made told
    owed' : Owed made other

  -- the first entry is the same
  first-same : (made : Made Task) (e g : RecordEntry) (told other : List RecordEntry) → e.task ≡ g.task → NamesTask story (slice_get made.tasks e.task) e
      → NamesTask story (slice_get made.tasks g.task) g → Alike made (e ∷ told) (g ∷ other) → e ≡ g
  first-same made e g told other task n m alike =
      let there = stands-there made.tasks e.task e (slice_get made.tasks e.task) refl n in
      let within = slice_get_within made.tasks e.task there.0 there.1 in
      let both = sym (told-first e told) ∙ alike.seen e.task within ∙ ap (λ k. told_of k (g ∷ other)) task ∙ told-first g other in
      let is_ready : e.ready ≡ g.ready = cc in
      same-entry e g (slice_get made.tasks e.task) task n (subst (λ k. NamesTask story (slice_get made.tasks k) g) (sym task) m) is_ready

  -- what is owed stays so after an entry
  owed-rest : (made : Made Task) (e : RecordEntry) (told : List RecordEntry) → e.task < length made.tasks → Owed made (e ∷ told)
      → Owed (after_entry story made e) told
  owed-rest made e told within owed = λ k task past is.
      let more = longer made e in
      sym (told-past k e told (λ same. omega arith)) ∙ owed k task (omega arith) is

  -- the entries of a task that an entry makes
  new-owed : (made : Made Task) (e : RecordEntry) (told : List RecordEntry) → e.task < length made.tasks → Owed made (e ∷ told) → (k : ℕ)
      → length made.tasks ≤ k → (task : Task) → slice_get (after_entry story made e).tasks k ≡ Some task → told_of k told ≡ pending_then_ready (delay task)
  new-owed made e told within owed k past task is =
      sym (told-past k e told (λ same. omega arith)) ∙ owed k task past (all-keep (after_entry story made e) told k task is)

  rest-alike : (made : Made Task) (e : RecordEntry) (told other : List RecordEntry) → e.task < length made.tasks → Alike made (e ∷ told) (e ∷ other)
      → Alike (after_entry story made e) told other
  rest-alike made e told other within alike = record {
    seen = λ k there. by k there (cases_order k (length made.tasks));
    owed = owed-rest made e told within alike.owed;
    owed' = owed-rest made e other within alike.owed';
  }
    where
      fresh-one : (k : ℕ) → k < length (after_entry story made e).tasks → length made.tasks ≤ k → told_of k told ≡ told_of k other
      fresh-one k there past =
          let (task, is) = within-get (after_entry story made e).tasks k there in
          new-owed made e told within alike.owed k past task is ∙ sym (new-owed made e other within alike.owed' k past task is)

      by : (k : ℕ) → k < length (after_entry story made e).tasks → (k ≡ length made.tasks) ⊎ ((k < length made.tasks) ⊎ (length made.tasks < k))
          → told_of k told ≡ told_of k other
      by k there (inl same) = fresh-one k there (omega arith)
      by k there (inr (inl before)) = append_cancel_left (if e.task == k then e.ready ∷ [] else []) (told_of k told) (told_of k other) (alike.seen k before)
      by k there (inr (inr behind)) = fresh-one k there (omega arith)

  -- an entry after none waits
  never-more : (state : State) (made : Made Task) (e : RecordEntry) → waiting made ≡ []
      → slice_get (waiting made) (choice.place state (length (waiting made))) ≡ Some e.task → ⊥
  never-more state made e none taken =
      let nothing : slice_get [] (choice.place state (length (waiting made))) ≡ Some e.task = ap (λ ws. slice_get ws (choice.place state (length (waiting made)))) (sym none) ∙ taken in
      cc

  same-record : (state : State) (made : Made Task) (told other : List RecordEntry) → Turned choice story state made told → Turned choice story state made other
      → waiting (made_at story made told) ≡ [] → waiting (made_at story made other) ≡ [] → Alike made told other → told ≡ other
  same-record state made [] [] t u w v alike = refl
  same-record state made [] (g ∷ other) t u w v alike = absurd (never-more state made g w u.0)
  same-record state made (e ∷ told) [] t u w v alike = absurd (never-more state made e v t.0)
  same-record state made (e ∷ told) (g ∷ other) t u w v alike =
      let task : e.task ≡ g.task = let both = sym t.0 ∙ u.0 in cc in
      let same = first-same made e g told other task t.1 u.1 alike in
      let next = choice.after state (length (waiting made)) in
      let there = stands-there made.tasks e.task e (slice_get made.tasks e.task) refl t.1 in
      let within = slice_get_within made.tasks e.task there.0 there.1 in
      let rest = rest-alike made e told other within (subst (λ h. Alike made (e ∷ told) (h ∷ other)) (sym same) alike) in
      λ i. same i ∷ same-record next (after_entry story made e) told other t.2 (subst (λ h. Turned choice story next (after_entry story made h) other) (sym same) u.2)
      w (subst (λ h. waiting (made_at story (after_entry story made h) other) ≡ []) (sym same) v) rest i

  -- a whole record that is turned and paced
  pub record IsWhole (state : State) (tasks : List Task) (told : List RecordEntry) : Type 0 where
    pub turned : Turned choice story state (fresh tasks) told
    pub whole : waiting (made_at story (fresh tasks) told) ≡ []
    pub paced : EachPaced delay (made_at story (fresh tasks) told).tasks told

  owed-all : (tasks : List Task) (told : List RecordEntry) → EachPaced delay (made_at story (fresh tasks) told).tasks told → Owed (fresh tasks) told
  owed-all tasks told each = λ k task past is. each.paced k task is

  first-paced : (state : State) (tasks : List Task) (told : List RecordEntry) → IsWhole state tasks told → (k : ℕ) (task : Task)
      → slice_get tasks k ≡ Some task → told_of k told ≡ pending_then_ready (delay task)
  first-paced state tasks told is k task there = is.paced.paced k task (all-keep (fresh tasks) told k task there)

  pub one-record : (state : State) (tasks : List Task) (told other : List RecordEntry) → IsWhole state tasks told → IsWhole state tasks other → told ≡ other
  one-record state tasks told other a b =
      same-record state (fresh tasks) told other a.turned b.turned a.whole b.whole
      record {
        seen = λ k there. let (task, is) = within-get tasks k there in first-paced state tasks told a k task is ∙ sym (first-paced state tasks other b k task is);
        owed = owed-all tasks told a.paced;
        owed' = owed-all tasks other b.paced;
      }

module _ {V W Task State : Type 0} (serving : Serving V W) (keeps : serving.paced) (subject : Subject V Task) (choice : Choice State) where
  -- the delay of a task
  abbrev delay : Task → ℕ
  delay task = serving.delay (subject.call task).resolver

  -- what the record sees of a moment where it is told and the turns are known
  abbrev known : Made Task → List RecordEntry → State → Option (List ℕ) → Stage Task State
  known made told state starts = record { made = made; told = Some told; starts = starts; turns = Some state }

  module _ (world : W) (root : Task) (made : Made Task) (told : List RecordEntry) (state : State) where
    abbrev tale : Story Task
    tale = story_in serving subject world root

    -- the tasks of the phase as it begins
    abbrev begun_with : Made Task
    begun_with = after_root made root

    -- where it ends, by its entries
    abbrev past : List RecordEntry → Option (List ℕ) → Stage Task State
    past es starts = known (made_at tale begun_with es) (told ++ es) (state_at choice tale state begun_with es) starts

    module _ (starts : Option (List ℕ)) (new : Stage Task State) (phase : IsPhase serving subject choice world root (known made told state starts) new) where
      abbrev own : List RecordEntry
      own = phase.ran.entries

      since : PacedSince (length made.tasks) delay (made_at tale begun_with own).tasks own
      since = subst (λ (m : Made Task). PacedSince (length made.tasks) delay m.tasks own) phase.ran.made_is (phase.paces keeps told refl)

      none-waits : waiting (made_at tale begun_with own) ≡ []
      none-waits = ap waiting (sym phase.ran.made_is) ∙ phase.whole

      -- where it ends
      ends : new ≡ past own new.starts
      ends = λ i. record { made = phase.ran.made_is i; told = phase.ran.told_is i; starts = new.starts; turns = phase.ran.state_is i }

      own-owed : Owed choice tale delay begun_with own
      own-owed = λ k task past is.
          let sizes = length-append made.tasks (root ∷ []) in
          since.paced k task (omega arith) is

      own-root : (k : ℕ) → k ≡ length made.tasks → told_of k own ≡ pending_then_ready (delay root)
      own-root k last =
          since.paced k root (omega arith) (all-keep choice tale delay begun_with own k root (ap (slice_get (made.tasks ++ root ∷ [])) last ∙ at-end made.tasks))
        where
          at-end : (tasks : List Task) → slice_get (tasks ++ root ∷ []) (length tasks) ≡ Some root
          at-end [] = refl
          at-end (t ∷ tasks) = at-end tasks

    -- the phase of a root key has one record
    one-phase : (a b : Option (List ℕ)) (one other : Stage Task State) (p : IsPhase serving subject choice world root (known made told state a) one)
        (q : IsPhase serving subject choice world root (known made told state b) other) → p.ran.entries ≡ q.ran.entries
    one-phase a b one other p q =
        same-record choice tale delay state begun_with p.ran.entries q.ran.entries (p.ran.turned state refl) (q.ran.turned state refl)
        (none-waits a one p) (none-waits b other q)
        record {
          seen = λ k there. by k there (cases_order k (length made.tasks));
          owed = own-owed a one p;
          owed' = own-owed b other q;
        }
      where
        by : (k : ℕ) → k < length begun_with.tasks → (k ≡ length made.tasks) ⊎ ((k < length made.tasks) ⊎ (length made.tasks < k))
            → told_of k p.ran.entries ≡ told_of k q.ran.entries
        by k there (inl last) = own-root a one p k last ∙ sym (own-root b other q k last)
        by k there (inr (inl before)) = (since a one p).earlier k before ∙ sym ((since b other q).earlier k before)
        by k there (inr (inr behind)) = let sizes = length-append made.tasks (root ∷ []) in absurd (omega arith)

  -- two moments at which the same is told, and the turns are in one state
  abbrev Alone : Stage Task State → Stage Task State → Type 0
  Alone one other = (one.told ≡ other.told) × (one.turns ≡ other.turns)

  -- root keys one after another have one record, and leave the turns in one state
  pub one-record-in-turn : (world : W) (roots : List Task) (made : Made Task) (told : List RecordEntry) (state : State) (a b : Option (List ℕ))
      (one other : Stage Task State) → Phases serving subject choice world roots (known made told state a) one
      → Phases serving subject choice world roots (known made told state b) other → Alone one other
  one-record-in-turn world [] made told state a b one other is same = (
    ap (λ (s : Stage Task State). s.told) is ∙ sym (ap (λ (s : Stage Task State). s.told) same),
    ap (λ (s : Stage Task State). s.turns) is ∙ sym (ap (λ (s : Stage Task State). s.turns) same),
  )
  one-record-in-turn world (root ∷ roots) made told state a b one other (middle, p, rest) (middle', q, rest') =
      let next = serving.effect (subject.call root) world in
      let tale = story_in serving subject world root in
      let begun_with = after_root made root in
      let mine : Phases serving subject choice next roots (past world root made told state p.ran.entries middle.starts) one
      = subst (λ s. Phases serving subject choice next roots s one) (ends world root made told state a middle p) rest in
      let yours : Phases serving subject choice next roots (past world root made told state q.ran.entries middle'.starts) other
      = subst (λ s. Phases serving subject choice next roots s other) (ends world root made told state b middle' q) rest' in
      let same : Phases serving subject choice next roots (past world root made told state p.ran.entries middle'.starts) other
      = subst (λ es. Phases serving subject choice next roots (past world root made told state es middle'.starts) other)
      (sym (one-phase world root made told state a b middle middle' p q)) yours in
      one-record-in-turn next roots (made_at tale begun_with p.ran.entries) (told ++ p.ran.entries) (state_at choice tale state begun_with p.ran.entries)
      middle.starts middle'.starts one other mine same
