-- The fields and arguments of types as a bench declares them.
use Rattle.std.specs.Prelude.{ℕ, ◌+◌, List, [], ◌∷◌, ◌++◌}
use Rattle.gql_base.specs.Pairs.{put}
use Rattle.gql_form.specs.declared.fields.ArgumentForm.{ArgumentForm}
use Rattle.gql_form.specs.declared.fields.FieldForm.{FieldForm}
use Rattle.gql_form.specs.declared.fields.InputFieldForm.{InputFieldForm}
use Rattle.gql_form.specs.declared.fields.InterfaceFieldForm.{InterfaceFieldForm}
use Rattle.gql_form.specs.declared.fields.SubscriptionFieldForm.{SubscriptionFieldForm}
use Rattle.gql_schema.specs.declared.field.Field.{Field}
use Rattle.gql_schema.specs.declared.input_value.InputValue.{InputValue}
use Rattle.gql_schema.specs.declared.interface_field.InterfaceField.{InterfaceField}
use Rattle.gql_schema.specs.declared.subscription_field.SubscriptionField.{SubscriptionField}

-- an argument
abbrev pub argument_in : ArgumentForm → InputValue
argument_in form = record { name = form.name; ty = form.ty; default = form.default }

-- arguments after earlier ones, by their names; one of a name that is there takes its place
abbrev pub arguments_behind : List (List ℕ × InputValue) → List ArgumentForm
    → List (List ℕ × InputValue)
arguments_behind earlier [] = earlier
arguments_behind earlier (form ∷ forms) =
    arguments_behind (put earlier form.name (argument_in form)) forms

-- a field of an object, whose resolver has this number
abbrev pub field_in : ℕ → List ℕ → FieldForm → Field
field_in number name form =
    record {
      name = name;
      ty = form.ty;
      resolver = number;
      arguments = arguments_behind [] form.args;
    }

-- a field that an interface promises; its place tells nothing
abbrev pub promised_in : ℕ → List ℕ → InterfaceFieldForm → InterfaceField
promised_in place name form =
    record { name = name; ty = form.ty; arguments = arguments_behind [] form.args }

-- a field of an input object; its place tells nothing
abbrev pub input_in : ℕ → List ℕ → InputFieldForm → InputValue
input_in place name form = record { name = name; ty = form.ty; default = form.default }

-- a field of a subscription, whose source has this number
abbrev pub event_field_in : ℕ → List ℕ → SubscriptionFieldForm → SubscriptionField
event_field_in number name form =
    record { name = name; ty = form.ty; source = number; arguments = arguments_behind [] form.args }

-- fields after earlier ones, under their names, numbered from here on
abbrev pub fields_behind : {F T : Type 0} → (ℕ → List ℕ → F → T) → List (List ℕ × T) → ℕ
    → List (List ℕ × F) → List (List ℕ × T)
fields_behind made earlier number [] = earlier
fields_behind made earlier number (p ∷ ps) =
    fields_behind made (earlier ++ (p.0, made number p.0 p.1) ∷ []) (number + 1) ps
