-- What a bench gives, from the answer to its request to what its bytes give.
use Rattle.std.proofs.Common.{◌≡◌, ℕ, ℤ, true, List, [], ◌∷◌, Option, Some, Result, Ok, Err, IfOk, IfSome, MatchOption, ap, sym, ◌∙◌, subst}
use Rattle.serde_json.specs.Data.{Data}
use Rattle.gql_base.specs.declared.server_error.ServerError.{ServerError}
use Rattle.gql_bench.specs.Built.{is_built}
use Rattle.gql_bench.specs.Found.{HasTables}
use Rattle.gql_bench.specs.contracts.list_turns.ListTurnsTurns.TheImpl.{ghosts}
use Rattle.gql_bench.specs.declared.bench.Bench.{Bench}
use Rattle.gql_bench.specs.declared.list_turns.ListTurns.{ListTurns}
use Rattle.gql_cli.proofs.ExecutionLemmas.{all_executed, Stands}
use Rattle.gql_cli.proofs.LawLemmas.{if-response}
use Rattle.gql_cli.specs.Answer.{IsAnswerOver, IsAnswerTo, IsResponseToBench}
use Rattle.gql_cli.specs.Execution.{first_of}
use Rattle.gql_cli.specs.Gives.{BenchGives, errors_in, Gives, HoldsTold, IsAnswer, JsonGives, json_of, outcome_for, response_text, WithRecord}
use Rattle.gql_cli.specs.Request.{AreAlike, requests_for}
use Rattle.gql_cli.specs.declared.answer.Answer.{Answer}
use Rattle.gql_cli.specs.declared.answer.Answer.TheVariants as answer
use Rattle.gql_form.specs.declared.command.Command.{Command}
use Rattle.gql_cli.specs.declared.outcome.Outcome.{Outcome}
use Rattle.gql_cli.specs.declared.outcome.Outcome.TheVariants.{Answered, BadSchema, BadShape, HasErrors, Loaded, NotBuilt, NotJson, ReadFault, TooLong, Usage}
use Rattle.gql_tasks.specs.Progress.{Seen}
use Rattle.gql_exec.specs.Batch.{ExecutesAll}
use Rattle.gql_exec.specs.Builder.{IsSchemaOf}
use Rattle.gql_exec.specs.declared.schema.Schema.{Schema}
use Rattle.gql_request.specs.BatchResponse.{responses_of}
use Rattle.gql_request.specs.declared.batch_response.BatchResponse.{BatchResponse}
use Rattle.gql_resolve.specs.declared.record_entry.RecordEntry.{RecordEntry}
use Rattle.gql_resolve.specs.declared.resolver_set.ResolverSet.{Ghosts as Resolving}

-- the response to the requests of a bench, over a set and turns that were made for the bench
pub response_to : {S F : Type 0} (set : Resolving S ℤ (List ℤ) F) (bench : Bench) (start new : Seen S ListTurns) → Stands set bench [] (first_of bench) start
    → (schema : Schema) → IsSchemaOf bench.builder schema → (response : BatchResponse) → AreAlike bench.requests response
    → ExecutesAll set ghosts schema (requests_for bench) (responses_of response) start new → IsResponseToBench bench (set.told new.set) response
response_to set bench start new at schema made response alike executes =
    let (entries, told, is) = all_executed set bench schema (requests_for bench) (responses_of response) [] (first_of bench) start new at executes in
    record { schema = schema; is = made; alike = alike; entries = entries; is_told = told; executed = is }

-- the answer to the requests of a bench, over such a set, which is held after it
module _ {S F : Type 0} (set : Resolving S ℤ (List ℤ) F) (bench : Bench) (start new : Seen S ListTurns) (at : Stands set bench [] (first_of bench) start) where
  abbrev Over : Answer → Type 0
  Over = IsAnswerOver set ghosts bench.builder bench.requests bench.root start new

  answer-to : (answered : Answer) → Over answered → IsAnswerTo bench (set.told new.set) answered
  answer-to (answer.Response response) is = response_to set bench start new at is.schema is.is response is.alike is.executed
  answer-to (answer.BadSchema text) is = is

  pub answer_held : {E : Type 0} (held : Option S) → held ≡ Some new.set → (result : Result Answer E) → IfOk result Over
      → IfOk result (λ answered. (s : S) × (held ≡ Some s) × IsAnswerTo bench (set.told s) answered)
  answer_held held is (Ok answered) over = (new.set, is, answer-to answered over)
  answer_held held is (Err want) over = tt

-- what is shown of the set that is held is what it told
pub shown-told : {S : Type 0} (told : S → Option (List RecordEntry)) (held : Option S) (set : S) → held ≡ Some set → (shown entries : List RecordEntry)
    → MatchOption held (shown ≡ []) (λ s. IfSome (told s) (λ es. shown ≡ es)) → told set ≡ Some entries → shown ≡ entries
shown-told {S} told held set is shown entries shows known =
    let by_set : IfSome (told set) (λ es. shown ≡ es)
    = subst (λ (h : Option S). MatchOption h (shown ≡ []) (λ s. IfSome (told s) (λ es. shown ≡ es))) is shows in
    subst (λ (t : Option (List RecordEntry)). IfSome t (λ es. shown ≡ es)) known by_set

module _ (command : Command) (bench : Bench) where
  -- an answer is given
  answer-gives : (errors : List ServerError) (text : List ℕ) (outcome : Outcome) (entries : List RecordEntry) → outcome ≡ outcome_for errors text
      → IsAnswer command bench outcome entries → BenchGives command bench outcome entries
  answer-gives [] text outcome entries is answered =
      subst (λ o. BenchGives command bench o entries) (sym is) (subst (λ o. IsAnswer command bench o entries) is answered)
  answer-gives (error ∷ errors) text outcome entries is answered =
      subst (λ o. BenchGives command bench o entries) (sym is) (subst (λ o. IsAnswer command bench o entries) is answered)

  -- a response is given with the record that the set which is held told
  pub response_gives : {S E : Type 0} (told : S → Option (List RecordEntry)) (held : Option S) (set : S) → held ≡ Some set → (shown : List RecordEntry)
      → MatchOption held (shown ≡ []) (λ s. IfSome (told s) (λ entries. shown ≡ entries)) → is_built bench ≡ true → (response : BatchResponse)
      → IsResponseToBench bench (told set) response → (result : Result Outcome E)
      → IfOk result (λ outcome. outcome ≡ outcome_for (errors_in (responses_of response)) (response_text command shown response))
      → IfOk result (WithRecord (BenchGives command bench) (HoldsTold held told))
  response_gives told held set is shown shows built response answered (Err want) made = tt
  response_gives {S} told held set is shown shows built response answered (Ok outcome) made =
      let entries = answered.entries in
      let same : shown ≡ entries = shown-told told held set is shown entries shows answered.is_told in
      let made' : outcome ≡ outcome_for (errors_in (responses_of response)) (response_text command entries response)
      = made ∙ ap (λ es. outcome_for (errors_in (responses_of response)) (response_text command es response)) same in
      let gives : IsAnswer command bench outcome entries = record {
        built = built;
        response = response;
        answered = subst (λ t. IsResponseToBench bench t response) answered.is_told answered;
        is = made';
      } in
      let holds : HoldsTold held told entries
      = subst (λ (h : Option S). HoldsTold h told entries) (sym is) answered.is_told in
      (entries, answer-gives (errors_in (responses_of response)) (response_text command entries response) outcome entries made' gives, if-response outcome (HoldsTold held told entries) holds)

  -- what a bench gives, its JSON gives
  json-gives : (json : Data) → HasTables command json bench → (outcome : Outcome) (entries : List RecordEntry)
      → BenchGives command bench outcome entries → JsonGives command json outcome entries
  json-gives json tables (BadShape text) entries gives = absurd gives
  json-gives json tables NotBuilt entries gives = (bench, tables, gives)
  json-gives json tables (BadSchema text) entries gives = (bench, tables, gives)
  json-gives json tables (Answered text) entries gives = (bench, tables, gives)
  json-gives json tables (HasErrors text) entries gives = (bench, tables, gives)
  json-gives json tables (Loaded text) entries gives = absurd gives
  json-gives json tables Usage entries gives = absurd gives
  json-gives json tables ReadFault entries gives = absurd gives
  json-gives json tables TooLong entries gives = absurd gives
  json-gives json tables NotJson entries gives = absurd gives

  pub bench_gives : {E : Type 0} (json : Data) (Told : List RecordEntry → Type 0) → HasTables command json bench → (result : Result Outcome E)
      → IfOk result (WithRecord (BenchGives command bench) Told) → IfOk result (WithRecord (JsonGives command json) Told)
  bench_gives json Told tables (Ok outcome) (entries, gives, told) = (entries, json-gives json tables outcome entries gives, told)
  bench_gives json Told tables (Err want) gives = tt

-- what JSON gives, its bytes give
bytes-give : (command : Command) (bytes : List ℕ) (json : Data) → json_of bytes ≡ Some json → (outcome : Outcome) (entries : List RecordEntry)
    → JsonGives command json outcome entries → Gives command bytes outcome entries
bytes-give command bytes json is NotJson entries (bench, tables, gives) = absurd gives
bytes-give command bytes json is (BadShape text) entries gives = (json, is, gives)
bytes-give command bytes json is NotBuilt entries gives = (json, is, gives)
bytes-give command bytes json is (BadSchema text) entries gives = (json, is, gives)
bytes-give command bytes json is (Answered text) entries gives = (json, is, gives)
bytes-give command bytes json is (HasErrors text) entries gives = (json, is, gives)
bytes-give command bytes json is (Loaded text) entries gives = (json, is, gives)
bytes-give command bytes json is Usage entries gives = (json, is, gives)
bytes-give command bytes json is ReadFault entries gives = (json, is, gives)
bytes-give command bytes json is TooLong entries gives = (json, is, gives)

pub json_gives : {E : Type 0} (command : Command) (bytes : List ℕ) (json : Data) (Told : List RecordEntry → Type 0) → json_of bytes ≡ Some json
    → (result : Result Outcome E) → IfOk result (WithRecord (JsonGives command json) Told) → IfOk result (WithRecord (Gives command bytes) Told)
json_gives command bytes json Told is (Ok outcome) (entries, gives, told) = (entries, bytes-give command bytes json is outcome entries gives, told)
json_gives command bytes json Told is (Err want) gives = tt
