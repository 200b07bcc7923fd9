-- What a field of a subscription shows.
use Rattle.std.specs.Prelude.{ℕ, List}
use Rattle.gql_base.specs.Pairs.{put}
use Rattle.gql_base.specs.declared.type_ref.TypeRef.{TypeRef}
use Rattle.gql_schema.specs.InputValue.{input_name}
use Rattle.gql_schema.specs.declared.subscription_field.SubscriptionField.{SubscriptionField}
use Rattle.gql_schema.specs.declared.input_value.InputValue.{InputValue}

abbrev pub event_name : SubscriptionField → List ℕ
event_name field = field.name

abbrev pub event_type : SubscriptionField → TypeRef
event_type field = field.ty

abbrev pub source_of : SubscriptionField → ℕ
source_of field = field.source

abbrev pub event_arguments : SubscriptionField → List (List ℕ × InputValue)
event_arguments field = field.arguments

-- the same field with one more argument; one of the same name is replaced in its place
abbrev pub with_argument : SubscriptionField → InputValue → SubscriptionField
with_argument field argument =
    record field { arguments = put field.arguments (input_name argument) argument }
