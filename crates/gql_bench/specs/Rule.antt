-- The rules of a bench's resolvers, and the events of its sources, by their numbers.
use Rattle.std.specs.Prelude.{ℕ, Bool, List, [], ◌∷◌, ◌++◌, map, Option, Some, None}
use Rattle.std.specs.Prelude.{if◌then◌else◌}
use Rattle.std.specs.List.{flat_map}
use Rattle.gql_base.specs.Pairs.{values_of}
use Rattle.gql_form.specs.declared.answer_form.AnswerForm.{AnswerForm}
use Rattle.gql_form.specs.declared.event_form.EventForm.{EventForm}
use Rattle.gql_form.specs.declared.fields.FieldForm.{FieldForm}
use Rattle.gql_form.specs.declared.fields.SubscriptionFieldForm.{SubscriptionFieldForm}
use Rattle.gql_form.specs.declared.rule_form.RuleForm.{RuleForm}
use Rattle.gql_form.specs.declared.rule_form.RuleForm.TheVariants as forms
use Rattle.gql_form.specs.declared.schema_form.SchemaForm.{SchemaForm}
use Rattle.gql_form.specs.declared.type_form.TypeForm.{TypeForm}
use Rattle.gql_form.specs.declared.type_form.TypeForm.TheVariants as types
use Rattle.gql_bench.specs.Given.{given_of}
use Rattle.gql_bench.specs.declared.rule.Rule.{Rule}
use Rattle.gql_bench.specs.declared.rule.RuleKind.{RuleKind}
use Rattle.gql_bench.specs.declared.rule.RuleKind.TheVariants as kinds

-- how a resolver answers, as the bench says it
abbrev pub kind_of : RuleForm → RuleKind
kind_of (forms.Const answered) = kinds.Const (given_of answered)
kind_of forms.None = kinds.None
kind_of (forms.Fail message) = kinds.Fail message
kind_of (forms.Member name) = kinds.Member name
kind_of (forms.Arg name) = kinds.Arg name
kind_of (forms.Sum paths) = kinds.Sum paths
kind_of (forms.Read cell) = kinds.Read cell.place
kind_of (forms.Bump cell) = kinds.Bump cell.place

-- the rule of an answer
abbrev pub rule_of : AnswerForm → Rule
rule_of form =
    record {
      delay = form.delay.polls;
      added = form.added;
      headers = form.headers;
      kind = kind_of form.rule;
    }

-- the rule of a field's resolver
abbrev pub field_rule : FieldForm → Rule
field_rule form = rule_of form.answer

-- the rules of the resolvers of a type: those of an object's fields, in their order
abbrev pub rules_in : TypeForm → List Rule
rules_in (types.Object form) = map field_rule (values_of form.fields)
rules_in _ = []

-- the rules of the resolvers of types: the one at a place is that of the resolver of this number
abbrev pub rules_of : List TypeForm → List Rule
rules_of forms = flat_map rules_in forms

-- the rule of entities: at once, with nothing beside the answer
abbrev pub entity_rule : Rule
entity_rule = record { delay = 0; added = []; headers = []; kind = kinds.Entities }

-- that rule alone, where it is set
abbrev pub entity_rules : Bool → List Rule
entity_rules set = if set then entity_rule ∷ [] else []

-- the rules of the resolvers of a schema: those of its types, and after them the entity rule,
-- where it is set
abbrev pub schema_rules : SchemaForm → List Rule
schema_rules schema = rules_of schema.types ++ entity_rules schema.settings.entities

-- the events of a field of a subscription
abbrev pub field_events : SubscriptionFieldForm → List EventForm
field_events form = form.events

-- the events of the sources of a type: those of a subscription's fields, in their order
abbrev pub sources_in : TypeForm → List (List EventForm)
sources_in (types.Subscription form) = map field_events (values_of form.fields)
sources_in _ = []

-- the events of the sources of types: those at a place are those of the source of this number
abbrev pub sources_of : List TypeForm → List (List EventForm)
sources_of forms = flat_map sources_in forms

-- the number of pending polls by a rule; without a rule there is none
abbrev pub rule_delay : Option Rule → ℕ
rule_delay None = 0
rule_delay (Some rule) = rule.delay
