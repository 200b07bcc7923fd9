-- The types that a bench declares, each by its kind.
use Rattle.std.specs.Prelude.{ℕ, List, [], ◌∷◌, Option, Some, None}
use Rattle.gql_form.specs.declared.type_form.EnumTypeForm.{EnumTypeForm}
use Rattle.gql_form.specs.declared.type_form.InputForm.{InputForm}
use Rattle.gql_form.specs.declared.type_form.InterfaceForm.{InterfaceForm}
use Rattle.gql_form.specs.declared.type_form.ObjectForm.{ObjectForm}
use Rattle.gql_form.specs.declared.type_form.ScalarForm.{ScalarForm}
use Rattle.gql_form.specs.declared.type_form.SubscriptionForm.{SubscriptionForm}
use Rattle.gql_form.specs.declared.type_form.TypeForm.{TypeForm}
use Rattle.gql_form.specs.declared.type_form.TypeForm.TheVariants as forms
use Rattle.gql_form.specs.declared.type_form.UnionForm.{UnionForm}
use Rattle.gql_schema.specs.NameSet.{with_names}
use Rattle.gql_schema.specs.Scalar.{new_scalar}
use Rattle.gql_schema.specs.Union.{new_union}
use Rattle.gql_schema.specs.declared.enum_.Enum.{Enum}
use Rattle.gql_schema.specs.declared.input_object.InputObject.{InputObject}
use Rattle.gql_schema.specs.declared.interface.Interface.{Interface}
use Rattle.gql_schema.specs.declared.object.Object.{Object}
use Rattle.gql_schema.specs.declared.scalar.Scalar.{Scalar}
use Rattle.gql_schema.specs.declared.scalar_rule.ScalarRule.{ScalarRule}
use Rattle.gql_schema.specs.declared.scalar_rule.ScalarRule.TheVariants as rules
use Rattle.gql_schema.specs.declared.schema_type.SchemaType.{SchemaType}
use Rattle.gql_schema.specs.declared.schema_type.SchemaType.TheVariants as types
use Rattle.gql_schema.specs.declared.subscription.Subscription.{Subscription}
use Rattle.gql_schema.specs.declared.union.Union.{Union}
use Rattle.gql_bench.specs.declared.numbers.Numbers.{Numbers}
use Rattle.gql_bench.specs.FieldTable.{event_field_in, field_in, fields_behind, input_in}
use Rattle.gql_bench.specs.FieldTable.{promised_in}

-- the keys of an object: the one that it says, or none
abbrev pub keys_in : Option (List ℕ) → List (List ℕ)
keys_in None = []
keys_in (Some key) = key ∷ []

-- an object, whose resolvers are numbered from here on
abbrev pub object_in : ℕ → ObjectForm → Object
object_in number form = record {
  name = form.name;
  fields = fields_behind field_in [] number form.fields;
  interfaces = with_names [] form.interfaces;
  keys = keys_in form.key;
}

abbrev pub interface_in : InterfaceForm → Interface
interface_in form = record { name = form.name; fields = fields_behind promised_in [] 0 form.fields }

abbrev pub union_in : UnionForm → Union
union_in form = new_union form.name (with_names [] form.members)

abbrev pub enum_in : EnumTypeForm → Enum
enum_in form = record { name = form.name; items = with_names [] form.items }

abbrev pub input_object_in : InputForm → InputObject
input_object_in form =
    record {
      name = form.name;
      fields = fields_behind input_in [] 0 form.fields;
      oneof = form.oneof;
    }

-- without a rule every value is taken
abbrev pub rule_in : Option ScalarRule → ScalarRule
rule_in None = rules.Any
rule_in (Some rule) = rule

abbrev pub scalar_in : ScalarForm → Scalar
scalar_in form = new_scalar form.name (rule_in form.rule)

-- a subscription, whose sources are numbered from here on
abbrev pub subscription_in : ℕ → SubscriptionForm → Subscription
subscription_in number form =
    record { name = form.name; fields = fields_behind event_field_in [] number form.fields }

-- a type, with the next numbers
abbrev pub type_in : Numbers → TypeForm → SchemaType
type_in next (forms.Object form) = types.Object (object_in next.resolver form)
type_in next (forms.Interface form) = types.Interface (interface_in form)
type_in next (forms.Union form) = types.Union (union_in form)
type_in next (forms.Enum form) = types.Enum (enum_in form)
type_in next (forms.Input form) = types.InputObject (input_object_in form)
type_in next (forms.Scalar form) = types.Scalar (scalar_in form)
type_in next (forms.Subscription form) = types.Subscription (subscription_in next.source form)
