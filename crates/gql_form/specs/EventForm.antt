-- An event of a subscription: a value or a failure, after some polls.
use Rattle.std.specs.Prelude.{ℕ, List, [], ◌∷◌, codes, Ok, if◌then◌else◌}
use Rattle.std.specs.Str.{bytes_eq}
use Rattle.serde_json.specs.Data.{Data}
use Rattle.gql_base.specs.ReadJson.{Reading}
use Rattle.gql_form.specs.declared.event_form.EventForm.{EventForm}
use Rattle.gql_form.specs.declared.event_form.OutcomeForm.{OutcomeForm}
use Rattle.gql_form.specs.declared.event_form.OutcomeForm.TheVariants as outcome
use Rattle.gql_form.specs.Answered.{answered_of}
use Rattle.gql_form.specs.Delay.{delay_in}
use Rattle.gql_form.specs.Plain.{text_of, ◌>>=◌}
use Rattle.gql_form.specs.Read.{member, only, sole}

abbrev pub outcome_words : List (List ℕ)
outcome_words = codes "value" ∷ codes "fail" ∷ []

-- what comes: just one of the two
abbrev pub outcome_of : Data → Reading OutcomeForm
outcome_of json = do
  word ← sole outcome_words json
  if bytes_eq word (codes "value") then (do
    value ← member (codes "value") answered_of json
    Ok (outcome.Value value))
      else (do
        message ← member (codes "fail") text_of json
        Ok (outcome.Fail message))

abbrev pub event_of : Data → Reading EventForm
event_of json = do
  delay ← delay_in json
  outcome ← outcome_of json
  _ ← only (codes "delay" ∷ codes "value" ∷ codes "fail" ∷ []) json
  Ok (record { delay = delay; outcome = outcome })
