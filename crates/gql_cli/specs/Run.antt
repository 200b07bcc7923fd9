-- A run of the program: what is due, and what of it was written.
use Rattle.std.specs.Prelude.{◌≡◌, ◌⊎◌, ◌+◌, ◌<◌, ◌≤◌, ℕ, List, IfSome, Some, length}
use Rattle.std.specs.Io.KnownBytes.{Appends, Keeps}
use Rattle.gql_cli.specs.Command.{IsLoad, words_for}
use Rattle.gql_cli.specs.Gives.{Gives, IfResponse}
use Rattle.gql_cli.specs.Load.{IsLoaded}
use Rattle.gql_cli.specs.Outcome.{due_status, due_text}
use Rattle.gql_cli.specs.declared.outcome.Outcome.{Outcome}
use Rattle.gql_cli.specs.declared.outcome.Outcome.TheVariants.{Loaded, ReadFault, TooLong}
use Rattle.gql_cli.specs.declared.outcome.Outcome.TheVariants.{Usage}
use Rattle.gql_form.specs.declared.command.Command.{Command}
use Rattle.gql_io.specs.Counts.{HasRisen, IsFull}
use Rattle.gql_io.specs.Limits.{input_limit}
use Rattle.gql_io.specs.Reading.{HasFailed, IsInput, IsTooLong}
use Rattle.gql_io.specs.Writing.{AppendsStart}
use Rattle.gql_io.specs.declared.sink.Sink.{Ghosts as Sinking}
use Rattle.gql_io.specs.declared.source.Source.{Ghosts as Sourcing}
use Rattle.gql_resolve.specs.declared.record_entry.RecordEntry.{RecordEntry}

-- the words are those of a command, which reads a bench
abbrev pub IsOfCommand : List (List ℕ) → Type 0
IsOfCommand words = (command : Command) × (words_for command ≡ Some words)

-- the words are those of a load, which reads nothing
abbrev pub IsOfLoad : List (List ℕ) → Type 0
IsOfLoad words = (rows : ℕ) × IsLoad rows words

-- the words are a form that the program knows
abbrev pub IsListed : List (List ℕ) → Type 0
IsListed words = IsOfCommand words ⊎ IsOfLoad words

-- the sink failed, or memory ran out, before the whole text was written
abbrev pub IsCutOff : ℕ → Type 0
IsCutOff status = (status ≡ 5) ⊎ (status ≡ 6)

-- the two ends of a run at one moment: the source and the sink
pub record Ends (I O : Type 0) : Type 0 where
  pub source : I
  pub sink : O

-- the same, as a contract names them
abbrev pub ends : {I O : Type 0} → I → O → Ends I O
ends source sink = record { source = source; sink = sink }

module _ (Told : List RecordEntry → Type 0) (words : List (List ℕ)) where
  -- the words are those of a load, whose line this is; its record was told
  abbrev pub IsLoadedWith : List ℕ → Type 0
  IsLoadedWith text =
      (rows : ℕ) × (entries : List RecordEntry) × IsLoad rows words × IsLoaded rows text entries
      × Told entries

  -- what is due where nothing is read
  abbrev pub IsDueUnread : Outcome → Type 0
  IsDueUnread Usage = ¬ IsListed words
  IsDueUnread (Loaded text) = IsLoadedWith text
  IsDueUnread outcome = ⊥

module _ {I : Type 0} (source : Sourcing I) (Told : List RecordEntry → Type 0)
    (words : List (List ℕ)) (old new : I) where
  -- the words are those of a command, the whole input was read, and it gives this to the command,
  -- with this record
  pub record IsGiven (outcome : Outcome) (entries : List RecordEntry) : Type 0 where
    pub command : Command
    pub listed : words_for command ≡ Some words
    pub bytes : List ℕ
    pub input : IsInput source.left source.given old new bytes
    pub gives : Gives command bytes outcome entries

  -- the same with some record; where there is a response, it was told
  abbrev pub IsGivenWith : Outcome → Type 0
  IsGivenWith outcome =
      (entries : List RecordEntry) × IsGiven outcome entries × IfResponse outcome (Told entries)

  -- What is due, in the order in which it is decided: the words first, then, for a command, how the
  -- reading of the source went, and then what the input gives as a bench.
  abbrev pub IsDue : Outcome → Type 0
  IsDue Usage = ¬ IsListed words
  IsDue ReadFault = IsOfCommand words × HasFailed source.given source.faults old new
  IsDue TooLong = IsOfCommand words × IsTooLong source.left source.given old new
  IsDue (Loaded text) = IsLoadedWith Told words text
  IsDue outcome = IsGivenWith outcome

module _ {I O : Type 0} (source : Sourcing I) (sink : Sinking O)
    (Told : List RecordEntry → Type 0) (words : List (List ℕ)) (old new : Ends I O) where
  -- the count of the source's faults rose
  abbrev pub ReadFailed : Type 0
  ReadFailed = HasRisen (source.faults old.source) (source.faults new.source)

  -- the count of the sink's faults rose
  abbrev pub WriteFailed : Type 0
  WriteFailed = HasRisen (sink.faults old.sink) (sink.faults new.sink)

  -- this is due, and a front of its text was written
  abbrev pub IsBegun : Type 0
  IsBegun =
      (due : Outcome) × IsDue source Told words old.source new.source due
      × AppendsStart (sink.held old.sink) (sink.held new.sink) (due_text due)

  module _ (status : ℕ) where
    -- this status is that of an outcome, whose whole text was written
    abbrev pub IsWritten : Outcome → Type 0
    IsWritten outcome =
        (status ≡ due_status outcome)
        × Appends (sink.held old.sink) (sink.held new.sink) (due_text outcome)

    -- an input that is within the limit gives its text to a command, unless a read or a write fails
    -- or memory runs out
    abbrev pub IsComplete : Command → List ℕ → Type 0
    IsComplete command input =
        length input ≤ input_limit → ¬ ReadFailed → ¬ WriteFailed
        → (status ≡ 6) ⊎ ((outcome : Outcome) × (entries : List RecordEntry)
        × Gives command input outcome entries × IsWritten outcome)

    -- what a run has done that ended with a status
    pub record HasRun : Type 0 where
      -- 2 comes exactly where the words are no listed form; nothing is read but for a command
      pub usage : status ≡ 2 → ¬ IsListed words
      pub usage_only : ¬ IsListed words → (status ≡ 2) ⊎ IsCutOff status
      pub unread : ¬ IsOfCommand words → new.source ≡ old.source
      -- 4 comes only where a read failed
      pub read_fault : status ≡ 4 → ReadFailed
      -- 7 comes exactly where more than the limit was read
      pub too_long : status ≡ 7 → IsTooLong source.left source.given old.source new.source
      pub too_many_given : source.given old.source + input_limit < source.given new.source
          → (status ≡ 7) ⊎ IsCutOff status ⊎ IsFull (source.given new.source)
      pub too_many_left : IsOfCommand words → IfSome (source.left old.source) (λ input.
          input_limit < length input → (status ≡ 7) ⊎ (status ≡ 4) ⊎ IsCutOff status)
      -- of a command, 0, 1 and 3 come after the whole input was read, by what it gives as a bench
      pub bench : IsOfCommand words → (status ≡ 0) ⊎ (status ≡ 1) ⊎ (status ≡ 3)
          → (outcome : Outcome) × (entries : List RecordEntry)
          × IsGiven source Told words old.source new.source outcome entries × IsWritten outcome
      -- where there is a response, the set that answered is held, and told the record of the
      -- bench, which is the one that the text tells of, and nothing else
      pub told : IsOfCommand words → (status ≡ 0) ⊎ (status ≡ 1)
          → (outcome : Outcome) × (entries : List RecordEntry)
          × IsGiven source Told words old.source new.source outcome entries × IsWritten outcome
          × Told entries
      -- a load comes to 0, once the whole line is written that tells of its response and of the
      -- record, and the set that answered is held, and told that record, unless it is cut off
      pub load : (rows : ℕ) → IsLoad rows words → IsCutOff status ⊎ ((text : List ℕ)
          × (entries : List RecordEntry) × IsLoaded rows text entries × IsWritten (Loaded text)
          × Told entries)
      -- 5 comes only where a write failed
      pub write_fault : status ≡ 5 → WriteFailed
      -- every other status but 6, of wanting memory, comes once the whole text is written that is
      -- due with it
      pub written : IsCutOff status ⊎ ((due : Outcome)
          × IsDue source Told words old.source new.source due × IsWritten due)
      -- at 5 and 6 a front of the text that is due was written, and where memory ran out
      -- before, nothing
      pub cut_off : status ≡ 5 → IsBegun
      pub no_memory : status ≡ 6 → Keeps (sink.held old.sink) (sink.held new.sink) ⊎ IsBegun
      -- an input that is told gives its text
      pub complete : (command : Command) → words_for command ≡ Some words
          → IfSome (source.left old.source) (IsComplete command)
