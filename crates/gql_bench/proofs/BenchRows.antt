-- What the definitions of a bench come to on small ones: which are built, their rules and the numbers of these, and what is answered.
use Rattle.std.proofs.Common.{rules, ◌≡◌, ℕ, ℤ, pos, negsuc, ◌^◌, ◌-◌, true, false, List, [], ◌∷◌, ◌++◌, codes, Some, None, Ok, Err, refl}
use Rattle.std.specs.List.{list_all}
use Rattle.gql_base.specs.declared.type_ref.TypeRef.TheVariants as ref
use Rattle.gql_base.specs.declared.value.Value.{Value, the_lemmas as value_lemmas}
use Rattle.gql_base.specs.declared.value.Value.TheVariants as value
use Rattle.gql_form.specs.declared.answer_form.AnswerForm.{AnswerForm}
use Rattle.gql_form.specs.declared.answered.Answered.{the_lemmas as answered_lemmas}
use Rattle.gql_form.specs.declared.answered.Answered as answered
use Rattle.gql_form.specs.declared.bench_form.BenchForm.{BenchForm}
use Rattle.gql_form.specs.declared.event_form.EventForm.{EventForm}
use Rattle.gql_form.specs.declared.event_form.OutcomeForm.TheVariants as outcome
use Rattle.gql_form.specs.declared.fields.FieldForm.{FieldForm}
use Rattle.gql_form.specs.declared.rule_form.RuleForm.{RuleForm}
use Rattle.gql_form.specs.declared.rule_form.RuleForm.TheVariants as forms
use Rattle.gql_form.specs.declared.schema_form.SchemaForm.{SchemaForm}
use Rattle.gql_form.specs.declared.session_form.SessionForm.{SessionForm}
use Rattle.gql_form.specs.declared.setup_form.HooksForm.TheVariants as hooks
use Rattle.gql_form.specs.declared.type_form.TypeForm.{TypeForm}
use Rattle.gql_form.specs.declared.type_form.TypeForm.TheVariants as types
use Rattle.gql_form.specs.declared.work_form.WorkForm.{WorkForm}
use Rattle.gql_form.specs.declared.work_form.WorkForm.TheVariants as work
use Rattle.gql_request.specs.declared.batch_request.BatchRequest.{BatchRequest}
use Rattle.gql_request.specs.declared.query_env.IntrospectionMode.TheVariants.{Enabled}
use Rattle.gql_request.specs.declared.request.Request.{Request}
use Rattle.gql_resolve.specs.Call.{Call}
use Rattle.gql_resolve.specs.Lawful.{plain_answer}
use Rattle.gql_resolve.specs.declared.field_value.FieldValue.TheVariants as given
use Rattle.gql_bench.specs.Built.{is_built_form}
use Rattle.gql_bench.specs.Cells.{rule_below}
use Rattle.gql_bench.specs.Entities.{entities_outcome}
use Rattle.gql_bench.specs.Outcome.{Outcome, plain_error}
use Rattle.gql_bench.specs.Rule.{rule_of, rules_of, schema_rules, sources_of}
use Rattle.gql_bench.specs.SchemaTable.{after_all, first_numbers}
use Rattle.gql_bench.specs.Settings.{entities_in}
use Rattle.gql_bench.specs.Table.{table_answer, table_delay}
use Rattle.gql_bench.specs.declared.rule.Rule.{Rule}
use Rattle.gql_bench.specs.declared.rule.RuleKind.{RuleKind}
use Rattle.gql_bench.specs.declared.rule.RuleKind.TheVariants as kinds

-- an answer by this rule at once, with nothing beside it
abbrev plainly : RuleForm → AnswerForm
plainly rule = record { delay = record { polls = 0 }; added = []; headers = []; rule = rule }

-- {"delay":2,"added":["v"],"const":{"$list":[1,{"$own":7}]}}
abbrev late_list : AnswerForm
late_list = record {
  delay = record { polls = 2 };
  added = codes "v" ∷ [];
  headers = [];
  rule = forms.Const (answered.List (answered.Value (value.Number (pos 1)) ∷ answered.Own (pos 7) ∷ []));
}

rule_of_a_list : rule_of late_list
    ≡ record {
      delay = 2;
      added = codes "v" ∷ [];
      headers = [];
      kind = kinds.Const (given.List (given.Value (value.Number (pos 1)) ∷ given.Own (pos 7) ∷ []));
    }
rule_of_a_list = search (rules, answered_lemmas)

abbrev field_by : RuleForm → FieldForm
field_by rule = record { ty = ref.Named (codes "Int"); args = []; answer = plainly rule }

abbrev object_by : List ℕ → List (List ℕ × FieldForm) → TypeForm
object_by name fields = types.Object (record { name = name; interfaces = []; key = None; fields = fields })

-- one event
abbrev news : List EventForm
news = record { delay = record { polls = 0 }; outcome = outcome.Fail (codes "e") } ∷ []

-- an object with two fields, a subscription with one, and an object with one
abbrev three_types : List TypeForm
three_types =
    object_by (codes "Q") ((codes "a", field_by (forms.Read (record { place = 1 }))) ∷ (codes "b", field_by forms.None) ∷ [])
    ∷ types.Subscription (record { name = codes "S"; fields = (codes "s", record { ty = ref.Named (codes "Int"); args = []; events = news }) ∷ [] })
    ∷ object_by (codes "O") ((codes "c", field_by (forms.Arg (codes "x"))) ∷ []) ∷ []

abbrev rule_by : RuleKind → Rule
rule_by kind = record { delay = 0; added = []; headers = []; kind = kind }

abbrev three_rules : List Rule
three_rules = rule_by (kinds.Read 1) ∷ rule_by kinds.None ∷ rule_by (kinds.Arg (codes "x")) ∷ []

rules_in_order : rules_of three_types ≡ three_rules
rules_in_order = search (rules, answered_lemmas)

sources_in_order : sources_of three_types ≡ news ∷ []
sources_in_order = refl

numbers_behind_them : after_all first_numbers three_types ≡ record { resolver = 3; source = 1 }
numbers_behind_them = refl

-- a bench for this work, with these types and two cells
abbrev bench_for : WorkForm → List TypeForm → BenchForm
bench_for for_work all = record {
  setup = record {
    schema = record {
      query = codes "Q";
      mutation = Some (codes "M");
      subscription = None;
      types = all;
      settings = record { depth = None; directives = None; introspection = Enabled; federation = false; entities = false };
    };
    cells = pos 4 ∷ negsuc 8 ∷ [];
    root = answered.Value value.Null;
    turns = [];
    hooks = hooks.None;
  };
  work = for_work;
}

-- an object of one field with this rule
abbrev one_field : RuleForm → List TypeForm
one_field rule = object_by (codes "Q") ((codes "a", field_by rule) ∷ []) ∷ []

module _ (request : Request) where
  reading_is_built : is_built_form (bench_for (work.One request) (one_field (forms.Read (record { place = 1 })))) ≡ true
  reading_is_built = search (rules, answered_lemmas)

  raising_is_built : is_built_form (bench_for (work.One request) (one_field (forms.Bump (record { place = 1 })))) ≡ true
  raising_is_built = search (rules, answered_lemmas)

  a_subscription_is_not_built : is_built_form (bench_for (work.One request) three_types) ≡ false
  a_subscription_is_not_built = refl

a_batch_is_built : (batch : BatchRequest) → is_built_form (bench_for (work.Batch batch) (one_field forms.None)) ≡ true
a_batch_is_built batch = search (rules, answered_lemmas)

a_session_is_not_built : (session : SessionForm) → is_built_form (bench_for (work.Session session) (one_field forms.None)) ≡ false
a_session_is_not_built session = refl

-- {"kind":"object","name":"U","key":"a","fields":[{"name":"a","type":"Int","answer":{"member":"a"}}]}
abbrev keyed : TypeForm
keyed = types.Object (record { name = codes "U"; interfaces = []; key = Some (codes "a"); fields = (codes "a", field_by (forms.Member (codes "a"))) ∷ [] })

-- a schema with that entity, federation and the entity rule
abbrev federated : SchemaForm
federated = record {
  query = codes "Q";
  mutation = None;
  subscription = None;
  types = one_field forms.None ++ keyed ∷ [];
  settings = record { depth = None; directives = None; introspection = Enabled; federation = true; entities = true };
}

abbrev federated_bench : WorkForm → BenchForm
federated_bench for_work =
    let bench = bench_for for_work [] in
    record bench { setup = record bench.setup { schema = federated } }

federation_is_built : (request : Request) → is_built_form (federated_bench (work.One request)) ≡ true
federation_is_built request = search (rules, answered_lemmas)

entity_rule_comes_last : schema_rules federated ≡ rule_by kinds.None ∷ rule_by (kinds.Member (codes "a")) ∷ rule_by kinds.Entities ∷ []
entity_rule_comes_last = search (rules, answered_lemmas)

entities_have_its_number : entities_in federated ≡ Some 2
entities_have_its_number = refl

no_entity_rule_unless_set : schema_rules (record federated { settings = record federated.settings { entities = false } })
    ≡ rule_by kinds.None ∷ rule_by (kinds.Member (codes "a")) ∷ []
no_entity_rule_unless_set = search (rules, answered_lemmas)

-- what is asked of a resolver
abbrev call : ℕ → Call ℤ
call resolver = record {
  is_root = false;
  resolver = resolver;
  parent = given.Value value.Null;
  arguments = (codes "x", value.Boolean true) ∷ (codes "most", value.Number (pos (2 ^ 63 - 1))) ∷ (codes "o", value.Object ((codes "n", value.Number (pos 1)) ∷ [])) ∷ [];
  layers = [];
}

abbrev cells : List ℤ
cells = pos 4 ∷ negsuc 8 ∷ []

answer_of_a_cell : table_answer three_rules (call 0) cells ≡ plain_answer (Some (given.Value (value.Number (negsuc 8))))
answer_of_a_cell = refl

answer_of_an_argument : table_answer three_rules (call 2) cells ≡ plain_answer (Some (given.Value (value.Boolean true)))
answer_of_an_argument = search (rules, value_lemmas)

answer_of_no_rule : table_answer three_rules (call 3) cells ≡ plain_answer None
answer_of_no_rule = refl

no_delay_without_a_rule : table_delay three_rules 3 ≡ 0
no_delay_without_a_rule = refl

-- {"sum":["most","o.n"]}, whose sum is one too many
too_much : table_answer (rule_by (kinds.Sum (record { names = codes "most" ∷ [] } ∷ record { names = codes "o" ∷ codes "n" ∷ [] } ∷ [])) ∷ []) (call 0) cells
    ≡ record { result = Err (plain_error (codes "overflow")); added = []; headers = [] }
too_much = search (rules, value_lemmas)

-- {"__typename":"U","a":1}
abbrev representation : Value
representation = value.Object ((codes "__typename", value.String (codes "U")) ∷ (codes "a", value.Number (pos 1)) ∷ [])

-- what the entity rule gives where the representations are this
abbrev entities_for : Value → Outcome
entities_for given = entities_outcome ((codes "representations", given) ∷ [])

abbrev one_entity : Outcome
one_entity = Ok (Some (given.List (given.WithType (given.Value representation) (codes "U") ∷ [])))

abbrev without_type : Outcome
without_type = Err (plain_error (codes "internal: key \"__typename\" not found"))

entities_of_a_list : entities_for (value.List (representation ∷ [])) ≡ one_entity
entities_of_a_list = search (rules, value_lemmas)

one_counts_as_a_list : entities_for representation ≡ one_entity
one_counts_as_a_list = search (rules, value_lemmas)

no_representations : entities_for (value.List []) ≡ Ok (Some (given.List []))
no_representations = search (rules, value_lemmas)

one_lacks_its_type : entities_for (value.List (representation ∷ value.Object [] ∷ [])) ≡ without_type
one_lacks_its_type = search (rules, value_lemmas)

a_type_that_is_no_text : entities_for (value.List (value.Object ((codes "__typename", value.Number (pos 1)) ∷ []) ∷ [])) ≡ without_type
a_type_that_is_no_text = search (rules, value_lemmas)

null_is_no_representation : entities_for value.Null ≡ without_type
null_is_no_representation = search (rules, value_lemmas)

nothing_is_given : entities_outcome [] ≡ without_type
nothing_is_given = refl

-- the cells of a bench of two
within_two : list_all (rule_below 2) three_rules ≡ true
within_two = refl

not_within_one : list_all (rule_below 1) three_rules ≡ false
not_within_one = refl
