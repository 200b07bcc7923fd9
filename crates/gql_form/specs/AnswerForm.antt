-- How a field is answered: when, with which errors and headers beside the answer, and by which one
-- rule.
use Rattle.std.specs.Prelude.{ℕ, List, [], ◌∷◌, codes, Ok}
use Rattle.serde_json.specs.Data.{Data}
use Rattle.gql_base.specs.ReadJson.{Reading}
use Rattle.gql_form.specs.declared.answer_form.AnswerForm.{AnswerForm}
use Rattle.gql_form.specs.Delay.{delay_in}
use Rattle.gql_form.specs.Header.{header_of}
use Rattle.gql_form.specs.Plain.{text_of, ◌>>=◌}
use Rattle.gql_form.specs.Read.{listed, only}
use Rattle.gql_form.specs.RuleForm.{rule_of}

abbrev pub answer_words : List (List ℕ)
answer_words =
    codes "delay" ∷ codes "added" ∷ codes "headers"
    ∷ codes "const" ∷ codes "none" ∷ codes "fail" ∷ codes "member" ∷ codes "arg" ∷ codes "sum"
    ∷ codes "read" ∷ codes "bump" ∷ []

abbrev pub answer_of : ℕ → Data → Reading AnswerForm
answer_of cells json = do
  delay ← delay_in json
  added ← listed (codes "added") text_of json
  headers ← listed (codes "headers") header_of json
  rule ← rule_of cells json
  _ ← only answer_words json
  Ok (record { delay = delay; added = added; headers = headers; rule = rule })
