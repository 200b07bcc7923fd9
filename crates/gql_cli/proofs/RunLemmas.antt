-- What a run has done, by what was due and by what of it was delivered.
use Rattle.std.proofs.Common.{◌≡◌, ◌⊎◌, ℕ, ◌+◌, ◌≤◌, ◌<◌, List, [], ◌∷◌, codes, length, Option, Some, None, inl, inr, refl, ap, sym, ◌∙◌, subst, arith}
use Rattle.std.specs.Prelude.{IfSome}
use Rattle.std.proofs.lemmas.Fmt.{decimal_injective}
use Rattle.std.specs.Io.KnownBytes.{Keeps}
use Rattle.gql_cli.specs.Command.{IsLoad, IsRowCount, words_for}
use Rattle.gql_cli.specs.Gives.{Gives, IfResponse}
use Rattle.gql_cli.specs.Load.{IsLoaded}
use Rattle.gql_cli.specs.Outcome.{due_status, due_text}
use Rattle.gql_cli.specs.Run.{Ends, HasRun, IsComplete, IsCutOff, IsDue, IsGiven, IsGivenWith, IsListed, IsLoadedWith, IsOfCommand, IsOfLoad, IsWritten, ReadFailed, WriteFailed}
use Rattle.gql_cli.specs.declared.outcome.Outcome.{Outcome}
use Rattle.gql_cli.specs.declared.outcome.Outcome.TheVariants.{Answered, BadSchema, BadShape, HasErrors, Loaded, NotBuilt, NotJson, ReadFault, TooLong, Usage}
use Rattle.gql_form.specs.declared.command.Command.{Command}
use Rattle.gql_form.specs.declared.command.Command.TheVariants.{Batch, Execute, Record, Stream, Threads, Ws}
use Rattle.gql_io.specs.Counts.{IsFull}
use Rattle.gql_io.specs.Limits.{input_limit}
use Rattle.gql_io.specs.Reading.{HasFailed, IsTooLong}
use Rattle.gql_io.specs.Writing.{AppendsStart}
use Rattle.gql_io.specs.declared.sink.Sink.{Ghosts as Sinking}
use Rattle.gql_io.specs.declared.source.Source.{Ghosts as Sourcing}
use Rattle.gql_resolve.specs.declared.record_entry.RecordEntry.{RecordEntry}

-- words are those of one command
words-same : (words : List (List ℕ)) (c d : Command) → words_for c ≡ Some words → words_for d ≡ Some words → c ≡ d
words-same words Execute Execute one other = refl
words-same words Execute Record one other = cc
words-same words Execute Batch one other = cc
words-same words Execute Threads one other = cc
words-same words Execute Stream one other = cc
words-same words Execute Ws one other = cc
words-same words Record Execute one other = cc
words-same words Record Record one other = refl
words-same words Record Batch one other = cc
words-same words Record Threads one other = cc
words-same words Record Stream one other = cc
words-same words Record Ws one other = cc
words-same words Batch Execute one other = cc
words-same words Batch Record one other = cc
words-same words Batch Batch one other = refl
words-same words Batch Threads one other = cc
words-same words Batch Stream one other = cc
words-same words Batch Ws one other = cc
words-same words Threads d one other = cc
words-same words Stream d one other = cc
words-same words Ws d one other = cc

-- words are those of one load
counts-same : (n m : ℕ) (one other : List ℕ) → IsRowCount n one → IsRowCount m other → one ≡ other → n ≡ m
counts-same n m one other (least, most, is) (least', most', is') same =
    decimal_injective n m (omega arith) (omega arith) (sym is ∙ same ∙ is')

loads-same : (n m : ℕ) (words : List (List ℕ)) → IsLoad n words → IsLoad m words → n ≡ m
loads-same n m words (one, is, said) (other, is', said') =
    let both : codes "load" ∷ one ∷ [] ≡ codes "load" ∷ other ∷ [] = sym said ∙ said' in
    let same : one ≡ other = cc in
    counts-same n m one other is is' same

-- a command's words are no load's
never-both : (words : List (List ℕ)) → IsOfCommand words → IsOfLoad words → ⊥
never-both words (Execute, is) (n, (count, size, said)) = cc
never-both words (Record, is) (n, (count, size, said)) = cc
never-both words (Batch, is) (n, (count, size, said)) = cc
never-both words (Threads, is) load = cc
never-both words (Stream, is) load = cc
never-both words (Ws, is) load = cc

some-each : {A : Type 0} (o : Option A) (P : A → Type 0) → ((x : A) → P x) → IfSome o P
some-each None P each = tt
some-each (Some x) P each = each x

some-through : {A : Type 0} (o : Option A) (P Q : A → Type 0) → IfSome o P → ((x : A) → P x → Q x) → IfSome o Q
some-through None P Q some through = tt
some-through (Some x) P Q some through = through x some

-- a status of a response comes with one
responds : (outcome : Outcome) (P : Type 0) → (due_status outcome ≡ 0) ⊎ (due_status outcome ≡ 1) → IfResponse outcome P → P
responds (Answered text) P is holds = holds
responds (HasErrors text) P is holds = holds
responds (Loaded text) P is holds = holds
responds Usage P (inl none) holds = absurd (omega arith)
responds Usage P (inr one) holds = absurd (omega arith)
responds ReadFault P (inl none) holds = absurd (omega arith)
responds ReadFault P (inr one) holds = absurd (omega arith)
responds TooLong P (inl none) holds = absurd (omega arith)
responds TooLong P (inr one) holds = absurd (omega arith)
responds NotJson P (inl none) holds = absurd (omega arith)
responds NotJson P (inr one) holds = absurd (omega arith)
responds (BadShape text) P (inl none) holds = absurd (omega arith)
responds (BadShape text) P (inr one) holds = absurd (omega arith)
responds NotBuilt P (inl none) holds = absurd (omega arith)
responds NotBuilt P (inr one) holds = absurd (omega arith)
responds (BadSchema text) P (inl none) holds = absurd (omega arith)
responds (BadSchema text) P (inr one) holds = absurd (omega arith)

module _ {I O : Type 0} (source : Sourcing I) (sink : Sinking O) (Told : List RecordEntry → Type 0) (words : List (List ℕ)) (old new : Ends I O) where
  abbrev Due : Outcome → Type 0
  Due = IsDue source Told words old.source new.source

  abbrev Given : Outcome → Type 0
  Given = IsGivenWith source Told words old.source new.source

  -- by which way something was due, and with which status
  data Way (outcome : Outcome) : Type 0 where
    unlisted : due_status outcome ≡ 2 → ¬ IsListed words → Way outcome
    failed : due_status outcome ≡ 4 → IsOfCommand words → HasFailed source.given source.faults old.source new.source → Way outcome
    long : due_status outcome ≡ 7 → IsOfCommand words → IsTooLong source.left source.given old.source new.source → Way outcome
    given : (due_status outcome ≡ 0) ⊎ (due_status outcome ≡ 1) ⊎ (due_status outcome ≡ 3) → Given outcome → Way outcome
    loaded : (text : List ℕ) → outcome ≡ Loaded text → IsLoadedWith Told words text → Way outcome

  way : (outcome : Outcome) → Due outcome → Way outcome
  way Usage due = unlisted refl due
  way ReadFault due = failed refl due.0 due.1
  way TooLong due = long refl due.0 due.1
  way NotJson due = given (inr (inr refl)) due
  way (BadShape text) due = given (inr (inr refl)) due
  way NotBuilt due = given (inr (inr refl)) due
  way (BadSchema text) due = given (inr (inr refl)) due
  way (Answered text) due = given (inl refl) due
  way (HasErrors text) due = given (inr (inl refl)) due
  way (Loaded text) due = loaded text refl due

  -- the words of what was given are a command's
  given-listed : {outcome : Outcome} → Given outcome → IsOfCommand words
  given-listed (entries, is, told) = (is.command, is.listed)

  module _ (status : ℕ) where
    -- what was due was delivered, or the sink or memory cut it off
    pub record Delivered : Type 0 where
      pub due : Outcome
      pub is : Due due
      pub untouched : ¬ IsOfCommand words → new.source ≡ old.source
      pub whole : IsCutOff status ⊎ IsWritten source sink Told words old new status due
      pub start : IsCutOff status → AppendsStart (sink.held old.sink) (sink.held new.sink) (due_text due)
      pub cause : status ≡ 5 → WriteFailed source sink Told words old new

    -- a load comes to 0
    none-of : (k : ℕ) (outcome : Outcome) (text : List ℕ) → status ≡ due_status outcome → outcome ≡ Loaded text → status ≡ k → 0 < k → ⊥
    none-of k outcome text same is other some = let nothing : due_status outcome ≡ 0 = ap due_status is in omega arith

    module _ (d : Delivered) where
      usage : status ≡ 2 → ¬ IsListed words
      usage two = by d.whole (way d.due d.is)
        where
          by : IsCutOff status ⊎ IsWritten source sink Told words old new status d.due → Way d.due → ¬ IsListed words
          by (inl (inl five)) w = absurd (omega arith)
          by (inl (inr six)) w = absurd (omega arith)
          by (inr (same, holds)) (unlisted s none) = none
          by (inr (same, holds)) (failed s listed f) = absurd (omega arith)
          by (inr (same, holds)) (long s listed f) = absurd (omega arith)
          by (inr (same, holds)) (given (inl s) g) = absurd (omega arith)
          by (inr (same, holds)) (given (inr (inl s)) g) = absurd (omega arith)
          by (inr (same, holds)) (given (inr (inr s)) g) = absurd (omega arith)
          by (inr (same, holds)) (loaded text is l) = absurd (none-of 2 d.due text same is two (omega arith))

      usage-only : ¬ IsListed words → (status ≡ 2) ⊎ IsCutOff status
      usage-only none = by d.whole (way d.due d.is)
        where
          by : IsCutOff status ⊎ IsWritten source sink Told words old new status d.due → Way d.due → (status ≡ 2) ⊎ IsCutOff status
          by (inl cut) w = inr cut
          by (inr (same, holds)) (unlisted s u) = inl (same ∙ s)
          by (inr (same, holds)) (failed s listed f) = absurd (none (inl listed))
          by (inr (same, holds)) (long s listed f) = absurd (none (inl listed))
          by (inr (same, holds)) (given s g) = absurd (none (inl (given-listed g)))
          by (inr (same, holds)) (loaded text is (n, entries, asked, l, told)) = absurd (none (inr (n, asked)))

      read-fault : status ≡ 4 → ReadFailed source sink Told words old new
      read-fault four = by d.whole (way d.due d.is)
        where
          by : IsCutOff status ⊎ IsWritten source sink Told words old new status d.due → Way d.due → ReadFailed source sink Told words old new
          by (inl (inl five)) w = absurd (omega arith)
          by (inl (inr six)) w = absurd (omega arith)
          by (inr (same, holds)) (unlisted s none) = absurd (omega arith)
          by (inr (same, holds)) (failed s listed f) = f.cause
          by (inr (same, holds)) (long s listed f) = absurd (omega arith)
          by (inr (same, holds)) (given (inl s) g) = absurd (omega arith)
          by (inr (same, holds)) (given (inr (inl s)) g) = absurd (omega arith)
          by (inr (same, holds)) (given (inr (inr s)) g) = absurd (omega arith)
          by (inr (same, holds)) (loaded text is l) = absurd (none-of 4 d.due text same is four (omega arith))

      too-long : status ≡ 7 → IsTooLong source.left source.given old.source new.source
      too-long seven = by d.whole (way d.due d.is)
        where
          by : IsCutOff status ⊎ IsWritten source sink Told words old new status d.due → Way d.due → IsTooLong source.left source.given old.source new.source
          by (inl (inl five)) w = absurd (omega arith)
          by (inl (inr six)) w = absurd (omega arith)
          by (inr (same, holds)) (unlisted s none) = absurd (omega arith)
          by (inr (same, holds)) (failed s listed f) = absurd (omega arith)
          by (inr (same, holds)) (long s listed f) = f
          by (inr (same, holds)) (given (inl s) g) = absurd (omega arith)
          by (inr (same, holds)) (given (inr (inl s)) g) = absurd (omega arith)
          by (inr (same, holds)) (given (inr (inr s)) g) = absurd (omega arith)
          by (inr (same, holds)) (loaded text is l) = absurd (none-of 7 d.due text same is seven (omega arith))

      -- more than the limit was given
      abbrev Past : Type 0
      Past = (status ≡ 7) ⊎ IsCutOff status ⊎ IsFull (source.given new.source)

      too-many-given : source.given old.source + input_limit < source.given new.source → Past
      too-many-given more = by d.whole (way d.due d.is)
        where
          within-none : (source.given new.source ≤ source.given old.source + input_limit) ⊎ IsFull (source.given new.source) → Past
          within-none (inl within) = absurd (omega arith)
          within-none (inr full) = inr (inr full)

          read-none : (bytes : List ℕ) → length bytes ≤ input_limit → (source.given new.source ≡ source.given old.source + length bytes) ⊎ IsFull (source.given new.source) → Past
          read-none bytes short (inl counted) = absurd (omega arith)
          read-none bytes short (inr full) = inr (inr full)

          untouched-none : new.source ≡ old.source → Past
          untouched-none same = let counts = ap source.given same in absurd (omega arith)

          by : IsCutOff status ⊎ IsWritten source sink Told words old new status d.due → Way d.due → Past
          by (inl cut) w = inr (inl cut)
          by (inr (same, holds)) (unlisted s none) = untouched-none (d.untouched (λ listed. none (inl listed)))
          by (inr (same, holds)) (loaded text is (n, entries, asked, l, told)) = untouched-none (d.untouched (λ listed. never-both words listed (n, asked)))
          by (inr (same, holds)) (failed s listed f) = within-none f.within
          by (inr (same, holds)) (long s listed f) = inl (same ∙ s)
          by (inr (same, holds)) (given s (entries, g, told)) = read-none g.bytes g.input.within g.input.counted

      -- more than the limit was left
      abbrev Longer : List ℕ → Type 0
      Longer input = input_limit < length input → (status ≡ 7) ⊎ (status ≡ 4) ⊎ IsCutOff status

      too-many-left : IsOfCommand words → IfSome (source.left old.source) Longer
      too-many-left listed = by d.whole (way d.due d.is)
        where
          by : IsCutOff status ⊎ IsWritten source sink Told words old new status d.due → Way d.due → IfSome (source.left old.source) Longer
          by (inl cut) w = some-each (source.left old.source) Longer (λ input more. inr (inr cut))
          by (inr (same, holds)) (unlisted s none) = absurd (none (inl listed))
          by (inr (same, holds)) (loaded text is (n, entries, asked, l, told)) = absurd (never-both words listed (n, asked))
          by (inr (same, holds)) (failed s also f) = some-each (source.left old.source) Longer (λ input more. inr (inl (same ∙ s)))
          by (inr (same, holds)) (long s also f) = some-each (source.left old.source) Longer (λ input more. inl (same ∙ s))
          by (inr (same, holds)) (given s (entries, g, told)) =
              some-through (source.left old.source) _ Longer g.input.told
              (λ input (is, rest) more. let sizes = ap length is in let within = g.input.within in absurd (omega arith))

      abbrev OfBench : Type 0
      OfBench = (status ≡ 0) ⊎ (status ≡ 1) ⊎ (status ≡ 3)

      abbrev Bench : Type 0
      Bench = (outcome : Outcome) × (entries : List RecordEntry) × IsGiven source Told words old.source new.source outcome entries
          × IsWritten source sink Told words old new status outcome × IfResponse outcome (Told entries)

      uncut : IsCutOff status → OfBench → ⊥
      uncut (inl five) (inl none) = omega arith
      uncut (inl five) (inr (inl one)) = omega arith
      uncut (inl five) (inr (inr three)) = omega arith
      uncut (inr six) (inl none) = omega arith
      uncut (inr six) (inr (inl one)) = omega arith
      uncut (inr six) (inr (inr three)) = omega arith

      another : (k : ℕ) → status ≡ k → OfBench → (k ≡ 2) ⊎ (k ≡ 4) ⊎ (k ≡ 7) → ⊥
      another k same (inl none) (inl two) = omega arith
      another k same (inl none) (inr (inl four)) = omega arith
      another k same (inl none) (inr (inr seven)) = omega arith
      another k same (inr (inl one)) (inl two) = omega arith
      another k same (inr (inl one)) (inr (inl four)) = omega arith
      another k same (inr (inl one)) (inr (inr seven)) = omega arith
      another k same (inr (inr three)) (inl two) = omega arith
      another k same (inr (inr three)) (inr (inl four)) = omega arith
      another k same (inr (inr three)) (inr (inr seven)) = omega arith

      of-bench : IsOfCommand words → OfBench → Bench
      of-bench listed is = by d.whole (way d.due d.is)
        where
          by : IsCutOff status ⊎ IsWritten source sink Told words old new status d.due → Way d.due → Bench
          by (inl cut) w = absurd (uncut cut is)
          by (inr (same, holds)) (unlisted s none) = absurd (another (due_status d.due) same is (inl s))
          by (inr (same, holds)) (failed s listed f) = absurd (another (due_status d.due) same is (inr (inl s)))
          by (inr (same, holds)) (long s listed f) = absurd (another (due_status d.due) same is (inr (inr s)))
          by (inr (same, holds)) (given s (entries, g, told)) = (d.due, entries, g, (same, holds), told)
          by (inr (same, holds)) (loaded text l (n, entries, asked, one, told)) = absurd (never-both words listed (n, asked))

      -- a load whose line was written
      abbrev LoadOf : ℕ → Type 0
      LoadOf rows = (text : List ℕ) × (entries : List RecordEntry) × IsLoaded rows text entries
          × IsWritten source sink Told words old new status (Loaded text) × Told entries

      of-load : (rows : ℕ) → IsLoad rows words → IsCutOff status ⊎ LoadOf rows
      of-load rows asked = by d.whole (way d.due d.is)
        where
          by : IsCutOff status ⊎ IsWritten source sink Told words old new status d.due → Way d.due → IsCutOff status ⊎ LoadOf rows
          by (inl cut) w = inl cut
          by (inr (same, holds)) (unlisted s none) = absurd (none (inr (rows, asked)))
          by (inr (same, holds)) (failed s listed f) = absurd (never-both words listed (rows, asked))
          by (inr (same, holds)) (long s listed f) = absurd (never-both words listed (rows, asked))
          by (inr (same, holds)) (given s g) = absurd (never-both words (given-listed g) (rows, asked))
          by (inr (same, holds)) (loaded text is (n, entries, said, one, told)) =
              inr (
                text,
                entries,
                subst (λ n. IsLoaded n text entries) (loads-same n rows words said asked) one,
                subst (IsWritten source sink Told words old new status) is (same, holds),
                told,
              )

      early : (status ≡ 0) ⊎ (status ≡ 1) → OfBench
      early (inl none) = inl none
      early (inr one) = inr (inl one)

      due-early : (outcome : Outcome) → status ≡ due_status outcome → (status ≡ 0) ⊎ (status ≡ 1) → (due_status outcome ≡ 0) ⊎ (due_status outcome ≡ 1)
      due-early outcome same (inl none) = inl (sym same ∙ none)
      due-early outcome same (inr one) = inr (sym same ∙ one)

      complete : (command : Command) → words_for command ≡ Some words → IfSome (source.left old.source) (IsComplete source sink Told words old new status command)
      complete command listed = by d.whole (way d.due d.is)
        where
          by : IsCutOff status ⊎ IsWritten source sink Told words old new status d.due → Way d.due → IfSome (source.left old.source) (IsComplete source sink Told words old new status command)
          by (inl (inl five)) w = some-each (source.left old.source) (IsComplete source sink Told words old new status command) (λ input within unread unwritten. absurd (unwritten (d.cause five)))
          by (inl (inr six)) w = some-each (source.left old.source) (IsComplete source sink Told words old new status command) (λ input within unread unwritten. inl six)
          by (inr (same, holds)) (unlisted s none) = absurd (none (inl (command, listed)))
          by (inr (same, holds)) (loaded text is (n, entries, asked, l, told)) = absurd (never-both words (command, listed) (n, asked))
          by (inr (same, holds)) (failed s also f) = some-each (source.left old.source) (IsComplete source sink Told words old new status command) (λ input within unread. absurd (unread f.cause))
          by (inr (same, holds)) (long s also f) =
              some-through (source.left old.source) _ (IsComplete source sink Told words old new status command) f.told (λ input more within. absurd (omega arith))
          by (inr (same, holds)) (given s (entries, g, told)) =
              let one : g.command ≡ command = words-same words g.command command g.listed listed in
              some-through (source.left old.source) _ (IsComplete source sink Told words old new status command) g.input.told
              (λ input (is, rest) within unread unwritten.
              inr (
                d.due,
                entries,
                subst (λ bytes. Gives command bytes d.due entries) (sym is)
                    (subst (λ c. Gives c g.bytes d.due entries) one g.gives),
                (same, holds),
              ))

      -- what was due was delivered: that is a run
      pub ended : HasRun source sink Told words old new status
      ended = record {
        usage = usage;
        usage_only = usage-only;
        unread = d.untouched;
        read_fault = read-fault;
        too_long = too-long;
        too_many_given = too-many-given;
        too_many_left = too-many-left;
        bench = λ listed is. let (outcome, entries, gave, wrote, told) = of-bench listed is in (outcome, entries, gave, wrote);
        told = λ listed is. let (outcome, entries, gave, wrote, told) = of-bench listed (early is) in
            (outcome, entries, gave, wrote, responds outcome _ (due-early outcome wrote.0 is) told);
        load = of-load;
        write_fault = d.cause;
        written = whole d.whole;
        cut_off = λ five. (d.due, d.is, d.start (inl five));
        no_memory = λ six. inr (d.due, d.is, d.start (inr six));
        complete = complete;
      }
        where
          whole : IsCutOff status ⊎ IsWritten source sink Told words old new status d.due
              → IsCutOff status ⊎ ((due : Outcome) × Due due × IsWritten source sink Told words old new status due)
          whole (inl cut) = inl cut
          whole (inr written) = inr (d.due, d.is, written)

  -- memory ran out before anything was due
  pub wanting : (status : ℕ) → status ≡ 6 → (¬ IsOfCommand words → new.source ≡ old.source) → Keeps (sink.held old.sink) (sink.held new.sink)
      → HasRun source sink Told words old new status
  wanting status six untouched keeps = record {
    usage = λ two. absurd (omega arith);
    usage_only = λ none. inr (inr six);
    unread = untouched;
    read_fault = λ four. absurd (omega arith);
    too_long = λ seven. absurd (omega arith);
    too_many_given = λ more. inr (inl (inr six));
    too_many_left = λ listed. some-each (source.left old.source) _ (λ input more. inr (inr (inr six)));
    bench = λ listed is. absurd (never is);
    told = λ listed is. absurd (never-early is);
    load = λ rows asked. inl (inr six);
    write_fault = λ five. absurd (omega arith);
    written = inl (inr six);
    cut_off = λ five. absurd (omega arith);
    no_memory = λ same. inl keeps;
    complete = λ command listed. some-each (source.left old.source) _ (λ input within unread unwritten. inl six);
  }
    where
      never : (status ≡ 0) ⊎ (status ≡ 1) ⊎ (status ≡ 3) → ⊥
      never (inl none) = omega arith
      never (inr (inl one)) = omega arith
      never (inr (inr three)) = omega arith

      never-early : (status ≡ 0) ⊎ (status ≡ 1) → ⊥
      never-early (inl none) = omega arith
      never-early (inr one) = omega arith
