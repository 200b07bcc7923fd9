-- The fields of the types, with their arguments.
use Rattle.std.specs.Prelude.{ℕ, [], ◌∷◌, codes, Ok}
use Rattle.serde_json.specs.Data.{Data}
use Rattle.gql_base.specs.ReadJson.{Reading, read_in}
use Rattle.gql_base.specs.declared.read_json.EnumForm.TheVariants.{Marked}
use Rattle.gql_base.specs.declared.value.Value.{Value}
use Rattle.gql_form.specs.declared.fields.ArgumentForm.{ArgumentForm}
use Rattle.gql_form.specs.declared.fields.FieldForm.{FieldForm}
use Rattle.gql_form.specs.declared.fields.InputFieldForm.{InputFieldForm}
use Rattle.gql_form.specs.declared.fields.InterfaceFieldForm.{InterfaceFieldForm}
use Rattle.gql_form.specs.declared.fields.SubscriptionFieldForm.{SubscriptionFieldForm}
use Rattle.gql_form.specs.AnswerForm.{answer_of}
use Rattle.gql_form.specs.EventForm.{event_of}
use Rattle.gql_form.specs.Plain.{name_of, ◌>>=◌}
use Rattle.gql_form.specs.Read.{member, optional, each, listed, only}
use Rattle.gql_form.specs.TypeText.{type_ref_of}

-- a default is a value, in which `{"$enum":"A"}` is an enum at every depth
abbrev pub default_of : Data → Reading Value
default_of json = read_in Marked json

abbrev pub argument_of : Data → Reading ArgumentForm
argument_of json = do
  name ← member (codes "name") name_of json
  ty ← member (codes "type") type_ref_of json
  default ← optional (codes "default") default_of json
  _ ← only (codes "name" ∷ codes "type" ∷ codes "default" ∷ []) json
  Ok (record { name = name; ty = ty; default = default })

-- a field of an object, after its name
abbrev pub field_of : ℕ → Data → Reading FieldForm
field_of cells json = do
  ty ← member (codes "type") type_ref_of json
  args ← listed (codes "args") argument_of json
  answer ← member (codes "answer") (answer_of cells) json
  _ ← only (codes "name" ∷ codes "type" ∷ codes "args" ∷ codes "answer" ∷ []) json
  Ok (record { ty = ty; args = args; answer = answer })

-- a field of an interface, after its name
abbrev pub interface_field_of : Data → Reading InterfaceFieldForm
interface_field_of json = do
  ty ← member (codes "type") type_ref_of json
  args ← listed (codes "args") argument_of json
  _ ← only (codes "name" ∷ codes "type" ∷ codes "args" ∷ []) json
  Ok (record { ty = ty; args = args })

-- a field of an input object, after its name
abbrev pub input_field_of : Data → Reading InputFieldForm
input_field_of json = do
  ty ← member (codes "type") type_ref_of json
  default ← optional (codes "default") default_of json
  _ ← only (codes "name" ∷ codes "type" ∷ codes "default" ∷ []) json
  Ok (record { ty = ty; default = default })

-- a field of the subscription, after its name
abbrev pub subscription_field_of : Data → Reading SubscriptionFieldForm
subscription_field_of json = do
  ty ← member (codes "type") type_ref_of json
  args ← listed (codes "args") argument_of json
  events ← member (codes "events") (each event_of) json
  _ ← only (codes "name" ∷ codes "type" ∷ codes "args" ∷ codes "events" ∷ []) json
  Ok (record { ty = ty; args = args; events = events })
