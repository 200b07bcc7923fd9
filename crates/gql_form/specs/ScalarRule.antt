-- Which values a scalar of a bench takes.
use Rattle.std.specs.Prelude.{ℕ, List, [], ◌∷◌, codes, Option, Some, None, Ok, Err, if◌then◌else◌}
use Rattle.std.specs.Str.{bytes_eq}
use Rattle.serde_json.specs.Data.{Data}
use Rattle.serde_json.specs.Find.{as_str}
use Rattle.gql_base.specs.ReadJson.{Reading}
use Rattle.gql_schema.specs.NameSet.{with_names}
use Rattle.gql_schema.specs.declared.scalar_rule.ScalarRule.{ScalarRule}
use Rattle.gql_schema.specs.declared.scalar_rule.ScalarRule.TheVariants as rule
use Rattle.gql_form.specs.declared.scalar_rule.Between.{Between}
use Rattle.gql_form.specs.Plain.{text_of, signed_of, ◌>>=◌}
use Rattle.gql_form.specs.Read.{member, each, only, sole, long, nth}

-- a rule that is a word
abbrev pub word_rule_of : List ℕ → Reading ScalarRule
word_rule_of word =
    if bytes_eq word (codes "any") then Ok rule.Any
    else (if bytes_eq word (codes "bool") then Ok rule.Bool
    else (if bytes_eq word (codes "int") then Ok rule.Int
    else (if bytes_eq word (codes "text") then Ok rule.Text
    else (if bytes_eq word (codes "id") then Ok rule.Id else Err []))))

-- the two ends of a range
abbrev pub between_of : Data → Reading Between
between_of json = do
  _ ← long 2 json
  low ← nth 0 signed_of json
  high ← nth 1 signed_of json
  Ok (record { low = low; high = high })

abbrev pub range_words : List (List ℕ)
range_words = codes "between" ∷ codes "oneOf" ∷ []

-- the texts that a scalar takes, each once
abbrev pub listed_texts : Data → Reading (List (List ℕ))
listed_texts json = do
  texts ← member (codes "oneOf") (each text_of) json
  Ok (with_names [] texts)

-- a rule that is an object of one member
abbrev pub object_rule_of : Data → Reading ScalarRule
object_rule_of json = do
  word ← sole range_words json
  if bytes_eq word (codes "between") then (do
    ends ← member (codes "between") between_of json
    _ ← only range_words json
    Ok (rule.IntBetween ends.low ends.high))
      else (do
        texts ← listed_texts json
        _ ← only range_words json
        Ok (rule.OneOf texts))

abbrev pub scalar_rule_by : Option (List ℕ) → Data → Reading ScalarRule
scalar_rule_by (Some word) json = word_rule_of word
scalar_rule_by None json = object_rule_of json

abbrev pub scalar_rule_of : Data → Reading ScalarRule
scalar_rule_of json = scalar_rule_by (as_str json) json
