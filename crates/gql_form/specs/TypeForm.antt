-- The types of a bench by their kinds.
use Rattle.std.specs.Prelude.{ℕ, false, List, [], ◌∷◌, codes, Ok, Err, if◌then◌else◌}
use Rattle.std.specs.Option.{unwrap_or}
use Rattle.std.specs.Str.{bytes_eq}
use Rattle.serde_json.specs.Data.{Data}
use Rattle.gql_base.specs.ReadJson.{Reading}
use Rattle.gql_form.specs.declared.type_form.EnumTypeForm.{EnumTypeForm}
use Rattle.gql_form.specs.declared.type_form.InputForm.{InputForm}
use Rattle.gql_form.specs.declared.type_form.InterfaceForm.{InterfaceForm}
use Rattle.gql_form.specs.declared.type_form.ObjectForm.{ObjectForm}
use Rattle.gql_form.specs.declared.type_form.ScalarForm.{ScalarForm}
use Rattle.gql_form.specs.declared.type_form.SubscriptionForm.{SubscriptionForm}
use Rattle.gql_form.specs.declared.type_form.TypeForm.{TypeForm}
use Rattle.gql_form.specs.declared.type_form.TypeForm.TheVariants as form
use Rattle.gql_form.specs.declared.type_form.UnionForm.{UnionForm}
use Rattle.gql_form.specs.declared.type_form.TypeKind.{TypeKind}
use Rattle.gql_form.specs.declared.type_form.TypeKind.TheVariants as kind
use Rattle.gql_form.specs.Fields.{field_of, interface_field_of, input_field_of}
use Rattle.gql_form.specs.Fields.{subscription_field_of}
use Rattle.gql_form.specs.Plain.{text_of, name_of, truth_of, ◌>>=◌}
use Rattle.gql_form.specs.Read.{member, optional, each, listed, named, only}
use Rattle.gql_form.specs.ScalarRule.{scalar_rule_of}

-- what a type is
abbrev pub kind_in : List ℕ → Reading TypeKind
kind_in word =
    if bytes_eq word (codes "object") then Ok kind.Object
    else (if bytes_eq word (codes "interface") then Ok kind.Interface
    else (if bytes_eq word (codes "union") then Ok kind.Union
    else (if bytes_eq word (codes "enum") then Ok kind.Enum
    else (if bytes_eq word (codes "input") then Ok kind.Input
    else (if bytes_eq word (codes "scalar") then Ok kind.Scalar
    else (if bytes_eq word (codes "subscription") then Ok kind.Subscription else Err []))))))

abbrev pub kind_of : Data → Reading TypeKind
kind_of json = do
  word ← text_of json
  kind_in word

abbrev pub object_of : ℕ → Data → Reading ObjectForm
object_of cells json = do
  name ← member (codes "name") name_of json
  interfaces ← listed (codes "implements") name_of json
  key ← optional (codes "key") text_of json
  fields ← member (codes "fields") (named (field_of cells)) json
  _ ← only (codes "kind" ∷ codes "name" ∷ codes "implements" ∷ codes "key" ∷ codes "fields" ∷ [])
      json
  Ok (record { name = name; interfaces = interfaces; key = key; fields = fields })

abbrev pub interface_of : Data → Reading InterfaceForm
interface_of json = do
  name ← member (codes "name") name_of json
  fields ← member (codes "fields") (named interface_field_of) json
  _ ← only (codes "kind" ∷ codes "name" ∷ codes "fields" ∷ []) json
  Ok (record { name = name; fields = fields })

abbrev pub union_of : Data → Reading UnionForm
union_of json = do
  name ← member (codes "name") name_of json
  members ← member (codes "members") (each name_of) json
  _ ← only (codes "kind" ∷ codes "name" ∷ codes "members" ∷ []) json
  Ok (record { name = name; members = members })

abbrev pub enum_type_of : Data → Reading EnumTypeForm
enum_type_of json = do
  name ← member (codes "name") name_of json
  items ← member (codes "items") (each name_of) json
  _ ← only (codes "kind" ∷ codes "name" ∷ codes "items" ∷ []) json
  Ok (record { name = name; items = items })

abbrev pub input_of : Data → Reading InputForm
input_of json = do
  name ← member (codes "name") name_of json
  oneof ← optional (codes "oneof") truth_of json
  fields ← member (codes "fields") (named input_field_of) json
  _ ← only (codes "kind" ∷ codes "name" ∷ codes "oneof" ∷ codes "fields" ∷ []) json
  Ok (record { name = name; oneof = unwrap_or oneof false; fields = fields })

abbrev pub scalar_of : Data → Reading ScalarForm
scalar_of json = do
  name ← member (codes "name") name_of json
  rule ← optional (codes "rule") scalar_rule_of json
  _ ← only (codes "kind" ∷ codes "name" ∷ codes "rule" ∷ []) json
  Ok (record { name = name; rule = rule })

abbrev pub subscription_of : Data → Reading SubscriptionForm
subscription_of json = do
  name ← member (codes "name") name_of json
  fields ← member (codes "fields") (named subscription_field_of) json
  _ ← only (codes "kind" ∷ codes "name" ∷ codes "fields" ∷ []) json
  Ok (record { name = name; fields = fields })

-- a type of a kind
abbrev pub type_of_kind : ℕ → TypeKind → Data → Reading TypeForm
type_of_kind cells kind.Object json = do
  object ← object_of cells json
  Ok (form.Object object)
type_of_kind cells kind.Interface json = do
  interface ← interface_of json
  Ok (form.Interface interface)
type_of_kind cells kind.Union json = do
  union ← union_of json
  Ok (form.Union union)
type_of_kind cells kind.Enum json = do
  enum ← enum_type_of json
  Ok (form.Enum enum)
type_of_kind cells kind.Input json = do
  input ← input_of json
  Ok (form.Input input)
type_of_kind cells kind.Scalar json = do
  scalar ← scalar_of json
  Ok (form.Scalar scalar)
type_of_kind cells kind.Subscription json = do
  subscription ← subscription_of json
  Ok (form.Subscription subscription)

abbrev pub type_of : ℕ → Data → Reading TypeForm
type_of cells json = do
  kind ← member (codes "kind") kind_of json
  type_of_kind cells kind json
