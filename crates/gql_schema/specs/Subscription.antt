-- What a subscription shows: its name, and its fields, in the order in which they were added.
use Rattle.std.specs.Prelude.{ℕ, List, [], ◌∷◌, ◌++◌}
use Rattle.gql_schema.specs.SubscriptionField.{event_name}
use Rattle.gql_schema.specs.declared.subscription.Subscription.{Subscription}
use Rattle.gql_schema.specs.declared.subscription_field.SubscriptionField.{SubscriptionField}

abbrev pub subscription_name : Subscription → List ℕ
subscription_name subscription = subscription.name

abbrev pub event_fields : Subscription → List (List ℕ × SubscriptionField)
event_fields subscription = subscription.fields

-- the same subscription with one more field
abbrev pub with_field : Subscription → SubscriptionField → Subscription
with_field subscription field =
    record subscription { fields = subscription.fields ++ (event_name field, field) ∷ [] }
