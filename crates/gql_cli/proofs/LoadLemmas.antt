-- What a load gives, and what is due by that.
use Rattle.std.proofs.Common.{◌≡◌, ℕ, List, [], Option, Some, Result, Ok, Err, IfOk, IfSome, MatchOption, inl, inr, ap, sym, ◌∙◌, subst}
use Rattle.gql_bench.specs.Bench.{IsBenchOf}
use Rattle.gql_bench.specs.declared.bench.Bench.{Bench}
use Rattle.gql_cli.proofs.GivesLemmas.{shown-told}
use Rattle.gql_cli.proofs.LawLemmas.{bench-same, response-same}
use Rattle.gql_cli.specs.Answer.{IsResponseToBench}
use Rattle.gql_cli.specs.Command.{IsLoad}
use Rattle.gql_cli.specs.Gives.{HoldsTold, WithRecord}
use Rattle.gql_cli.specs.Load.{IsLoaded, load_line, LoadGives}
use Rattle.gql_cli.specs.Run.{IsDue, IsDueUnread, IsListed, IsOfCommand, IsOfLoad}
use Rattle.gql_cli.specs.declared.outcome.Outcome.{Outcome}
use Rattle.gql_cli.specs.declared.outcome.Outcome.TheVariants.{Answered, BadSchema, BadShape, HasErrors, Loaded, NotBuilt, NotJson, ReadFault, TooLong, Usage}
use Rattle.gql_io.specs.declared.source.Source.{Ghosts as Sourcing}
use Rattle.gql_load.specs.Form.{load_form}
use Rattle.gql_request.specs.declared.batch_response.BatchResponse.{BatchResponse}
use Rattle.gql_resolve.specs.declared.record_entry.RecordEntry.{RecordEntry}

-- a response is given with the record that the set which is held told
pub load_gives : {S : Type 0} (rows : ℕ) (bench : Bench) → IsBenchOf (load_form rows) bench → (told : S → Option (List RecordEntry)) (held : Option S) (set : S)
    → held ≡ Some set → (shown : List RecordEntry) → MatchOption held (shown ≡ []) (λ s. IfSome (told s) (λ entries. shown ≡ entries)) → (response : BatchResponse)
    → IsResponseToBench bench (told set) response → (text : List ℕ) → text ≡ load_line rows shown response
    → WithRecord (LoadGives rows) (HoldsTold held told) (Loaded text)
load_gives {S} rows bench made told held set is shown shows response answered text line =
    let entries = answered.entries in
    let same : shown ≡ entries = shown-told told held set is shown entries shows answered.is_told in
    let loaded : IsLoaded rows text entries = record {
      bench = bench;
      made = made;
      response = response;
      answered = subst (λ t. IsResponseToBench bench t response) answered.is_told answered;
      is = line ∙ ap (λ es. load_line rows es response) same;
    } in
    let holds : HoldsTold held told entries
    = subst (λ (h : Option S). HoldsTold h told entries) (sym is) answered.is_told in
    (entries, loaded, holds)

-- words that are neither a command's nor a load's are no listed form
pub usage_due : (words : List (List ℕ)) → ¬ IsOfCommand words → ¬ IsOfLoad words → ¬ IsListed words
usage_due words none other (inl listed) = none listed
usage_due words none other (inr listed) = other listed

module _ (Told : List RecordEntry → Type 0) (words : List (List ℕ)) where
  load-due : (rows : ℕ) → IsLoad rows words → (outcome : Outcome) → WithRecord (LoadGives rows) Told outcome → IsDueUnread Told words outcome
  load-due rows asked (Loaded text) (entries, loaded, told) = (rows, entries, asked, loaded, told)
  load-due rows asked (Answered text) (entries, loaded, told) = absurd loaded
  load-due rows asked (HasErrors text) (entries, loaded, told) = absurd loaded
  load-due rows asked Usage (entries, loaded, told) = absurd loaded
  load-due rows asked ReadFault (entries, loaded, told) = absurd loaded
  load-due rows asked TooLong (entries, loaded, told) = absurd loaded
  load-due rows asked NotJson (entries, loaded, told) = absurd loaded
  load-due rows asked (BadShape text) (entries, loaded, told) = absurd loaded
  load-due rows asked NotBuilt (entries, loaded, told) = absurd loaded
  load-due rows asked (BadSchema text) (entries, loaded, told) = absurd loaded

  -- what a load gives is due for its words
  pub load_due : {E : Type 0} (rows : ℕ) → IsLoad rows words → (result : Result Outcome E) → IfOk result (WithRecord (LoadGives rows) Told)
      → IfOk result (IsDueUnread Told words)
  load_due rows asked (Ok outcome) gives = load-due rows asked outcome gives
  load_due rows asked (Err want) gives = tt

  module _ {I : Type 0} (source : Sourcing I) (old new : I) where
    unread-due : (outcome : Outcome) → IsDueUnread Told words outcome → IsDue source Told words old new outcome
    unread-due (Loaded text) due = due
    unread-due Usage due = due
    unread-due (Answered text) due = absurd due
    unread-due (HasErrors text) due = absurd due
    unread-due ReadFault due = absurd due
    unread-due TooLong due = absurd due
    unread-due NotJson due = absurd due
    unread-due (BadShape text) due = absurd due
    unread-due NotBuilt due = absurd due
    unread-due (BadSchema text) due = absurd due

    pub unread_due : {E : Type 0} (result : Result Outcome E) → IfOk result (IsDueUnread Told words) → IfOk result (IsDue source Told words old new)
    unread_due (Ok outcome) due = unread-due outcome due
    unread_due (Err want) due = tt

module _ (rows : ℕ) (one other : List ℕ) (entries others : List RecordEntry) where
  answers-same : (bench : Bench) (r s : BatchResponse) → IsResponseToBench bench (Some entries) r → IsResponseToBench bench (Some others) s → (r ≡ s) × (entries ≡ others)
  answers-same bench r s a b =
      let (response, told) = response-same bench (Some entries) (Some others) r s a b in
      let mine : entries ≡ a.entries = let is = a.is_told in cc in
      let yours : others ≡ b.entries = let is = b.is_told in cc in
      (response, mine ∙ told ∙ sym yours)

  -- a load of so many rows gives one line, with one record
  pub one_load : IsLoaded rows one entries → IsLoaded rows other others → (one ≡ other) × (entries ≡ others)
  one_load a b =
      let bench = bench-same (load_form rows) a.bench b.bench a.made b.made in
      let (response, es) = answers-same b.bench a.response b.response (subst (λ bench. IsResponseToBench bench (Some entries) a.response) bench a.answered) b.answered in
      (a.is ∙ (λ i. load_line rows (es i) (response i)) ∙ sym b.is, es)
