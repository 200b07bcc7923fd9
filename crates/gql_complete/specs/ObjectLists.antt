-- Answers that are lists of objects.
use Rattle.std.specs.Prelude.{◌≡◌, ℕ, Bool, false, not, List, [], map, Option, Some, None}
use Rattle.std.specs.Prelude.{Result, Ok, Err}
use Rattle.gql_base.specs.Kinds.{is_null, list_of}
use Rattle.gql_base.specs.TypeRef.{is_nullable}
use Rattle.gql_base.specs.declared.error.Error.{Error}
use Rattle.gql_base.specs.declared.type_ref.TypeRef.{TypeRef}
use Rattle.gql_base.specs.declared.type_ref.TypeRef.TheVariants as ref
use Rattle.gql_base.specs.declared.value.Value.{Value}
use Rattle.gql_meaning.specs.Completion.{all_items_in, Completed, is_null_in}
use Rattle.gql_place.specs.declared.shape.Shape.TheVariants as shape
use Rattle.gql_resolve.specs.FieldValue.{value_in}
use Rattle.gql_resolve.specs.declared.field_value.FieldValue.{FieldValue}

-- a type is that of a name, non-null or not
pub data IsNamed : TypeRef → Type 0 where
  of_name : (name : List ℕ) → IsNamed (ref.Named name)
  non_null_name : (inner : TypeRef) → IsNamed inner → IsNamed (ref.NonNull inner)

-- a type is a list, non-null or not, of a name, non-null or not; and whether the name is non-null
pub data IsListing (non_null : Bool) : TypeRef → Type 0 where
  list_of_names : (inner : TypeRef) → IsNamed inner → non_null ≡ not (is_nullable inner)
      → IsListing non_null (ref.List inner)
  non_null_list : (inner : TypeRef) → IsListing non_null inner
      → IsListing non_null (ref.NonNull inner)

-- a value is a list
pub record IsListValue (value : Value) : Type 0 where
  pub items : List Value
  pub items_are : list_of value ≡ Some items
  pub not_null : is_null value ≡ false

module _ {V : Type 0} where
  -- the items of a list, if there is one
  abbrev pub items_listed : Option (List (FieldValue V)) → List (FieldValue V)
  items_listed None = []
  items_listed (Some items) = items

  -- those of what is given
  abbrev pub items_behind : Option (FieldValue V) → List (FieldValue V)
  items_behind None = []
  items_behind (Some given) = items_listed (all_items_in given)

  -- those of what a result gives
  abbrev pub items_given : Result (Option (FieldValue V)) Error → List (FieldValue V)
  items_given (Err error) = []
  items_given (Ok given) = items_behind given

  -- what is given is a list
  pub record IsList (given : FieldValue V) : Type 0 where
    pub items : List (FieldValue V)
    pub items_are : all_items_in given ≡ Some items
    pub not_null : is_null_in (value_in given) ≡ false

  -- what a result gives is a list
  pub record GivesList (outcome : Result (Option (FieldValue V)) Error) : Type 0 where
    pub given : FieldValue V
    pub given_is : outcome ≡ Ok (Some given)
    pub list : IsList given

  -- a list of objects of a name
  abbrev pub objects_in : List ℕ → Bool → List (FieldValue V) → Completed V
  objects_in name non_null items = shape.List non_null (map (shape.Object name) items)
