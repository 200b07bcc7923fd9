-- The cells that the rules of a bench name lie below the number of its cells, as the bench is read.
use Rattle.std.proofs.Common.{◌≡◌, ℕ, zero, suc, Bool, true, false, cond, List, [], ◌∷◌, length, codes, Some, None, Result, Ok, Err, slice_get, refl, ap, sym, ◌∙◌, subst}
use Rattle.std.specs.Prelude.{IsTrue, nat_lt}
use Rattle.std.proofs.lemmas.List.Folds.{list_all-append, list_all-map}
use Rattle.std.specs.List.{list_all, flat_map}
use Rattle.std.specs.Str.{bytes_eq}
use Rattle.serde_json.specs.Data.{Data}
use Rattle.gql_base.specs.Pairs.{values_of}
use Rattle.gql_base.specs.ReadJson.{Reading}
use Rattle.gql_base.specs.declared.path_segment.PathSegment.TheVariants.{Field}
use Rattle.gql_form.specs.AnswerForm.{answer_of, answer_words}
use Rattle.gql_form.specs.Answered.{answered_of}
use Rattle.gql_form.specs.BenchForm.{bench_of, bench_words, cell_count, form_in, told}
use Rattle.gql_form.specs.Delay.{delay_in}
use Rattle.gql_form.specs.Fields.{argument_of, field_of}
use Rattle.gql_form.specs.Header.{header_of}
use Rattle.gql_form.specs.Path.{path_of}
use Rattle.gql_form.specs.Plain.{count_of, name_of, signed_of, text_of, truth_of}
use Rattle.gql_form.specs.Read.{each, listed, member, named, only, optional, sole}
use Rattle.gql_form.specs.RuleForm.{asking_rule_of, cell_of, cell_rule_of, rule_of, rule_under, rule_words}
use Rattle.gql_form.specs.SchemaForm.{schema_of, schema_words, settings_of}
use Rattle.gql_form.specs.SetupForm.{hooks_of, setup_of}
use Rattle.gql_form.specs.TypeForm.{enum_type_of, input_of, interface_of, kind_in, kind_of, object_of, scalar_of, subscription_of, type_of, type_of_kind, union_of}
use Rattle.gql_form.specs.TypeText.{type_ref_of}
use Rattle.gql_form.specs.WorkForm.{work_in}
use Rattle.gql_form.specs.declared.answer_form.AnswerForm.{AnswerForm}
use Rattle.gql_form.specs.declared.bench_form.BenchForm.{BenchForm}
use Rattle.gql_form.specs.declared.command.Command.{Command}
use Rattle.gql_form.specs.declared.fields.FieldForm.{FieldForm}
use Rattle.gql_form.specs.declared.rule_form.Cell.{Cell}
use Rattle.gql_form.specs.declared.rule_form.RuleForm.{RuleForm}
use Rattle.gql_form.specs.declared.rule_form.RuleForm.TheVariants as forms
use Rattle.gql_form.specs.declared.schema_form.SchemaForm.{SchemaForm}
use Rattle.gql_form.specs.declared.setup_form.SetupForm.{SetupForm}
use Rattle.gql_form.specs.declared.type_form.ObjectForm.{ObjectForm}
use Rattle.gql_form.specs.declared.type_form.TypeForm.{TypeForm}
use Rattle.gql_form.specs.declared.type_form.TypeForm.TheVariants as types
use Rattle.gql_bench.specs.Cells.{AreBelow, kind_below, rule_below}
use Rattle.gql_bench.specs.Rule.{entity_rules, field_rule, rules_in, rules_of, schema_rules}
use Rattle.gql_bench.specs.Rule as rules
use Rattle.gql_bench.specs.declared.rule.Rule.{Rule}
use Rattle.gql_bench.proofs.ReadingLemmas.{both, each_ok, either_ok, first_holds, listed_many, made_ok, member_ok, named_ok, ok_is, second_holds, then_ok}

-- a rule of a list that names no cell but those below a number
pub one_below : (count : ℕ) (all : List Rule) (number : ℕ) (rule : Rule) → AreBelow count all → slice_get all number ≡ Some rule
    → IsTrue (rule_below count rule)
one_below count [] number rule below at = cc
one_below count (first ∷ others) zero rule below at =
    ap (rule_below count) (let same : first ≡ rule = cc in sym same) ∙ first_holds _ _ below
one_below count (first ∷ others) (suc number) rule below at = one_below count others number rule (second_holds _ _ below) at

all_flat : {A B : Type 0} (test : B → Bool) (made : A → List B) (xs : List A) → list_all (λ x. list_all test (made x)) xs ≡ true
    → list_all test (flat_map made xs) ≡ true
all_flat test made [] all = refl
all_flat test made (x ∷ xs) all =
    list_all-append test (made x) (flat_map made xs) ∙ both _ _ (first_holds _ _ all) (all_flat test made xs (second_holds _ _ all))

module _ (count : ℕ) where
  -- the rule of an answer that names no cell but those below
  abbrev form_below : RuleForm → Bool
  form_below form = kind_below count (rules.kind_of form)

  cell_ok : (json : Data) (cell : Cell) → cell_of count json ≡ Ok cell → nat_lt cell.place count ≡ true
  cell_ok json cell is =
      let steps = then_ok (count_of json) (λ place. cond (nat_lt place count) (Ok (record { place = place })) (Err [])) cell is in
      either_ok (nat_lt steps.0 count) (Ok (record { place = steps.0 })) (Err []) cell (nat_lt cell.place count ≡ true)
      (λ lies is. ap (λ (c : Cell). nat_lt c.place count) (sym (ok_is _ _ is)) ∙ lies) (λ is. cc) steps.2

  cell_member : (name : List ℕ) (json : Data) (cell : Cell) → member name (cell_of count) json ≡ Ok cell → nat_lt cell.place count ≡ true
  cell_member name json cell is = let found = member_ok name (cell_of count) json cell is in cell_ok found.0 cell found.1

  cell_rule_ok : (word : List ℕ) (json : Data) (form : RuleForm) → cell_rule_of count word json ≡ Ok form → form_below form ≡ true
  cell_rule_ok word json form =
      either_ok (bytes_eq word (codes "read")) _ _ form (form_below form ≡ true)
      (λ _ is. made_ok (member (codes "read") (cell_of count) json) (λ cell. forms.Read cell) form_below form (cell_member (codes "read") json) is)
      (λ is. made_ok (member (codes "bump") (cell_of count) json) (λ cell. forms.Bump cell) form_below form (cell_member (codes "bump") json) is)

  asking_ok : (word : List ℕ) (json : Data) (form : RuleForm) → asking_rule_of count word json ≡ Ok form → form_below form ≡ true
  asking_ok word json form =
      either_ok (bytes_eq word (codes "member")) _ _ form (form_below form ≡ true)
      (λ _ is. made_ok (member (codes "member") name_of json) (λ name. forms.Member name) form_below form (λ name read. refl) is)
      (either_ok (bytes_eq word (codes "arg")) _ _ form (form_below form ≡ true)
      (λ _ is. made_ok (member (codes "arg") name_of json) (λ name. forms.Arg name) form_below form (λ name read. refl) is)
      (either_ok (bytes_eq word (codes "sum")) _ _ form (form_below form ≡ true)
      (λ _ is. made_ok (member (codes "sum") (each path_of) json) (λ paths. forms.Sum paths) form_below form (λ paths read. refl) is)
      (cell_rule_ok word json form)))

  under_ok : (word : List ℕ) (json : Data) (form : RuleForm) → rule_under count word json ≡ Ok form → form_below form ≡ true
  under_ok word json form =
      either_ok (bytes_eq word (codes "const")) _ _ form (form_below form ≡ true)
      (λ _ is. made_ok (member (codes "const") answered_of json) (λ value. forms.Const value) form_below form (λ value read. refl) is)
      (either_ok (bytes_eq word (codes "none")) _ _ form (form_below form ≡ true)
      (λ _ is. none_ok (then_ok (member (codes "none") truth_of json) _ form is))
      (either_ok (bytes_eq word (codes "fail")) _ _ form (form_below form ≡ true)
      (λ _ is. made_ok (member (codes "fail") text_of json) (λ message. forms.Fail message) form_below form (λ message read. refl) is)
      (asking_ok word json form)))
    where
      none_ok : (truth : Bool) × (member (codes "none") truth_of json ≡ Ok truth)
          × (cond truth (Ok forms.None) (Err (Field (codes "none") ∷ [])) ≡ Ok form) → form_below form ≡ true
      none_ok steps =
          either_ok steps.0 (Ok forms.None) (Err (Field (codes "none") ∷ [])) form (form_below form ≡ true)
          (λ _ is. ap form_below (sym (ok_is _ _ is))) (λ is. cc) steps.2

  rule_ok : (json : Data) (form : RuleForm) → rule_of count json ≡ Ok form → form_below form ≡ true
  rule_ok json form is = let steps = then_ok (sole rule_words json) (λ word. rule_under count word json) form is in under_ok steps.0 json form steps.2

  answer_ok : (json : Data) (form : AnswerForm) → answer_of count json ≡ Ok form → form_below form.rule ≡ true
  answer_ok json form is =
      let delay = then_ok (delay_in json) _ form is in
      let added = then_ok (listed (codes "added") text_of json) _ form delay.2 in
      let headers = then_ok (listed (codes "headers") header_of json) _ form added.2 in
      let rule = then_ok (rule_of count json) _ form headers.2 in
      let known = then_ok (only answer_words json) _ form rule.2 in
      ap (λ (a : AnswerForm). form_below a.rule) (sym (ok_is _ _ known.2)) ∙ rule_ok json rule.0 rule.1

  field_ok : (json : Data) (form : FieldForm) → field_of count json ≡ Ok form → rule_below count (field_rule form) ≡ true
  field_ok json form is =
      let ty = then_ok (member (codes "type") type_ref_of json) _ form is in
      let args = then_ok (listed (codes "args") argument_of json) _ form ty.2 in
      let answer = then_ok (member (codes "answer") (answer_of count) json) _ form args.2 in
      let known = then_ok (only (codes "name" ∷ codes "type" ∷ codes "args" ∷ codes "answer" ∷ []) json) _ form answer.2 in
      let inner = member_ok (codes "answer") (answer_of count) json answer.0 answer.1 in
      ap (λ (f : FieldForm). rule_below count (field_rule f)) (sym (ok_is _ _ known.2)) ∙ answer_ok inner.0 answer.0 inner.1

  object_ok : (json : Data) (form : ObjectForm) → object_of count json ≡ Ok form
      → list_all (λ field. rule_below count (field_rule field)) (values_of form.fields) ≡ true
  object_ok json form is =
      let name = then_ok (member (codes "name") name_of json) _ form is in
      let interfaces = then_ok (listed (codes "implements") name_of json) _ form name.2 in
      let key = then_ok (optional (codes "key") text_of json) _ form interfaces.2 in
      let fields = then_ok (member (codes "fields") (named (field_of count)) json) _ form key.2 in
      let known = then_ok (only (codes "kind" ∷ codes "name" ∷ codes "implements" ∷ codes "key" ∷ codes "fields" ∷ []) json) _ form fields.2 in
      let inner = member_ok (codes "fields") (named (field_of count)) json fields.0 fields.1 in
      ap (λ (o : ObjectForm). list_all (λ field. rule_below count (field_rule field)) (values_of o.fields)) (sym (ok_is _ _ known.2))
      ∙ named_ok (field_of count) (λ field. rule_below count (field_rule field)) field_ok inner.0 fields.0 inner.1

  -- the rules of a type
  abbrev type_below : TypeForm → Bool
  type_below form = list_all (rule_below count) (rules_in form)

  type_ok : (json : Data) (form : TypeForm) → type_of count json ≡ Ok form → type_below form ≡ true
  type_ok json form is =
      let steps = then_ok (member (codes "kind") kind_of json) (λ kind. type_of_kind count kind json) form is in
      let found = member_ok (codes "kind") kind_of json steps.0 steps.1 in
      let word = then_ok (text_of found.0) kind_in steps.0 found.1 in
      either_ok (bytes_eq word.0 (codes "object")) _ _ steps.0 (type_below form ≡ true)
      (λ _ here. made_ok (object_of count json) (λ object. types.Object object) type_below form
      (λ object read. list_all-map (rule_below count) field_rule (values_of object.fields) ∙ object_ok json object read)
      (ap (λ kind. type_of_kind count kind json) (ok_is _ _ here) ∙ steps.2))
      (either_ok (bytes_eq word.0 (codes "interface")) _ _ steps.0 (type_below form ≡ true)
      (λ _ here. made_ok (interface_of json) (λ made. types.Interface made) type_below form (λ made read. refl)
      (ap (λ kind. type_of_kind count kind json) (ok_is _ _ here) ∙ steps.2))
      (either_ok (bytes_eq word.0 (codes "union")) _ _ steps.0 (type_below form ≡ true)
      (λ _ here. made_ok (union_of json) (λ made. types.Union made) type_below form (λ made read. refl)
      (ap (λ kind. type_of_kind count kind json) (ok_is _ _ here) ∙ steps.2))
      (either_ok (bytes_eq word.0 (codes "enum")) _ _ steps.0 (type_below form ≡ true)
      (λ _ here. made_ok (enum_type_of json) (λ made. types.Enum made) type_below form (λ made read. refl)
      (ap (λ kind. type_of_kind count kind json) (ok_is _ _ here) ∙ steps.2))
      (either_ok (bytes_eq word.0 (codes "input")) _ _ steps.0 (type_below form ≡ true)
      (λ _ here. made_ok (input_of json) (λ made. types.Input made) type_below form (λ made read. refl)
      (ap (λ kind. type_of_kind count kind json) (ok_is _ _ here) ∙ steps.2))
      (either_ok (bytes_eq word.0 (codes "scalar")) _ _ steps.0 (type_below form ≡ true)
      (λ _ here. made_ok (scalar_of json) (λ made. types.Scalar made) type_below form (λ made read. refl)
      (ap (λ kind. type_of_kind count kind json) (ok_is _ _ here) ∙ steps.2))
      (either_ok (bytes_eq word.0 (codes "subscription")) _ _ steps.0 (type_below form ≡ true)
      (λ _ here. made_ok (subscription_of json) (λ made. types.Subscription made) type_below form (λ made read. refl)
      (ap (λ kind. type_of_kind count kind json) (ok_is _ _ here) ∙ steps.2))
      (λ bad. cc))))))) word.2

  schema_ok : (json : Data) (form : SchemaForm) → schema_of count json ≡ Ok form → list_all type_below form.types ≡ true
  schema_ok json form is =
      let query = then_ok (member (codes "query") text_of json) _ form is in
      let mutation = then_ok (optional (codes "mutation") text_of json) _ form query.2 in
      let subscription = then_ok (optional (codes "subscription") text_of json) _ form mutation.2 in
      let all = then_ok (member (codes "types") (each (type_of count)) json) _ form subscription.2 in
      let settings = then_ok (settings_of json) _ form all.2 in
      let known = then_ok (only schema_words json) _ form settings.2 in
      let inner = member_ok (codes "types") (each (type_of count)) json all.0 all.1 in
      ap (λ (s : SchemaForm). list_all type_below s.types) (sym (ok_is _ _ known.2)) ∙ each_ok (type_of count) type_below type_ok inner.0 all.0 inner.1

  -- the schema and the cells of a bench
  setup_ok : (json : Data) (form : SetupForm) → setup_of count json ≡ Ok form
      → (list_all type_below form.schema.types ≡ true) × (length form.cells ≡ cell_count json)
  setup_ok json form is =
      let schema = then_ok (member (codes "schema") (schema_of count) json) _ form is in
      let cells = then_ok (listed (codes "cells") signed_of json) _ form schema.2 in
      let root = then_ok (optional (codes "root") answered_of json) _ form cells.2 in
      let turns = then_ok (listed (codes "turns") count_of json) _ form root.2 in
      let hooks = then_ok (optional (codes "hooks") hooks_of json) _ form turns.2 in
      let inner = member_ok (codes "schema") (schema_of count) json schema.0 schema.1 in
      let same = ok_is _ _ hooks.2 in (
        ap (λ (s : SetupForm). list_all type_below s.schema.types) (sym same) ∙ schema_ok inner.0 schema.0 inner.1,
        ap (λ (s : SetupForm). length s.cells) (sym same) ∙ listed_many signed_of (codes "cells") json cells.0 cells.1,
      )

bench_ok : (count : ℕ) (command : Command) (json : Data) (form : BenchForm) → bench_of count command json ≡ Ok form → setup_of count json ≡ Ok form.setup
bench_ok count command json form is =
    let setup = then_ok (setup_of count json) _ form is in
    let work = then_ok (work_in command json) _ form setup.2 in
    let known = then_ok (only (bench_words command) json) _ form work.2 in
    setup.1 ∙ ap (λ (b : BenchForm). Ok b.setup) (ok_is _ _ known.2)

told_ok : (read : Reading BenchForm) (form : BenchForm) → told read ≡ Ok form → read ≡ Ok form
told_ok (Ok bench) form is = ap Ok (let same : bench ≡ form = cc in same)
told_ok (Err place) form is = cc

-- the entity rule names no cell
entities_below : (count : ℕ) (set : Bool) → list_all (rule_below count) (entity_rules set) ≡ true
entities_below count true = refl
entities_below count false = refl

-- the cells that the rules of a bench name are below the number of its cells
pub cells_below : (command : Command) (json : Data) (read : Result BenchForm (List ℕ)) (form : BenchForm) → read ≡ form_in command json
    → read ≡ Ok form → AreBelow (length form.setup.cells) (schema_rules form.setup.schema)
cells_below command json read form is found =
    let count = cell_count json in
    let setup = setup_ok count json form.setup (bench_ok count command json form (told_ok (bench_of count command json) form (sym is ∙ found))) in
    subst (λ n. AreBelow n (schema_rules form.setup.schema)) (sym setup.1)
    (list_all-append (rule_below count) (rules_of form.setup.schema.types) (entity_rules form.setup.schema.settings.entities)
    ∙ both _ _ (all_flat (rule_below count) rules_in form.setup.schema.types setup.0) (entities_below count form.setup.schema.settings.entities))
