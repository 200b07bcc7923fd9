-- The one rule by which a field is answered.
use Rattle.std.specs.Prelude.{ℕ, List, [], ◌∷◌, codes, nat_lt, Ok, Err, if◌then◌else◌}
use Rattle.std.specs.Str.{bytes_eq}
use Rattle.serde_json.specs.Data.{Data}
use Rattle.gql_base.specs.ReadJson.{Reading}
use Rattle.gql_base.specs.declared.path_segment.PathSegment.TheVariants.{Field}
use Rattle.gql_form.specs.declared.rule_form.Cell.{Cell}
use Rattle.gql_form.specs.declared.rule_form.RuleForm.{RuleForm}
use Rattle.gql_form.specs.declared.rule_form.RuleForm.TheVariants as rule
use Rattle.gql_form.specs.Answered.{answered_of}
use Rattle.gql_form.specs.Path.{path_of}
use Rattle.gql_form.specs.Plain.{text_of, name_of, count_of, truth_of, ◌>>=◌}
use Rattle.gql_form.specs.Read.{member, each, sole}

-- the words of the rules
abbrev pub rule_words : List (List ℕ)
rule_words =
    codes "const" ∷ codes "none" ∷ codes "fail" ∷ codes "member" ∷ codes "arg" ∷ codes "sum"
    ∷ codes "read" ∷ codes "bump" ∷ []

-- the number of a cell, below the number of cells
abbrev pub cell_of : ℕ → Data → Reading Cell
cell_of cells json = do
  place ← count_of json
  if nat_lt place cells then Ok (record { place = place }) else Err []

-- the rules that read a cell
abbrev pub cell_rule_of : ℕ → List ℕ → Data → Reading RuleForm
cell_rule_of cells word json =
    if bytes_eq word (codes "read") then (do
      cell ← member (codes "read") (cell_of cells) json
      Ok (rule.Read cell))
    else (do
      cell ← member (codes "bump") (cell_of cells) json
      Ok (rule.Bump cell))

-- the rules that read the parent or the arguments
abbrev pub asking_rule_of : ℕ → List ℕ → Data → Reading RuleForm
asking_rule_of cells word json =
    if bytes_eq word (codes "member") then (do
      name ← member (codes "member") name_of json
      Ok (rule.Member name))
    else (if bytes_eq word (codes "arg") then (do
      name ← member (codes "arg") name_of json
      Ok (rule.Arg name))
    else (if bytes_eq word (codes "sum") then (do
      paths ← member (codes "sum") (each path_of) json
      Ok (rule.Sum paths))
    else cell_rule_of cells word json))

-- the rule of a word, which is one of the rules'
abbrev pub rule_under : ℕ → List ℕ → Data → Reading RuleForm
rule_under cells word json =
    if bytes_eq word (codes "const") then (do
      value ← member (codes "const") answered_of json
      Ok (rule.Const value))
    else (if bytes_eq word (codes "none") then (do
      truth ← member (codes "none") truth_of json
      if truth then Ok rule.None else Err (Field (codes "none") ∷ []))
    else (if bytes_eq word (codes "fail") then (do
      message ← member (codes "fail") text_of json
      Ok (rule.Fail message))
    else asking_rule_of cells word json))

-- the one rule of an answer
abbrev pub rule_of : ℕ → Data → Reading RuleForm
rule_of cells json = do
  word ← sole rule_words json
  rule_under cells word json
