-- Answers that are lists of objects.
use Rattle.std.proofs.Common.{rules, ◌≡◌, ℕ, Bool, true, false, cond, not, List, [], ◌∷◌, map, Some, Result, refl, ap, subst, sym, ◌∙◌, Option, None}
use Rattle.std.specs.Prelude.{option_map}
use Rattle.gql_base.specs.Kinds.{list_of}
use Rattle.gql_base.specs.Pairs.{under}
use Rattle.gql_base.specs.TypeRef.{innermost, is_nullable}
use Rattle.gql_base.specs.declared.error.Error.{Error}
use Rattle.gql_base.specs.declared.type_ref.TypeRef.{TypeRef, the_lemmas as type_lemmas}
use Rattle.gql_base.specs.declared.type_ref.TypeRef.TheVariants as ref
use Rattle.gql_base.specs.declared.value.Value.{Value}
use Rattle.gql_meaning.specs.Completion.{all_items_in, at_items, at_type, completed, Completed, completing, is_null_in, required, shape_of, unless_null}
use Rattle.gql_place.specs.declared.shape.Shape.{the_lemmas}
use Rattle.gql_place.specs.declared.shape.Shape.TheVariants as shape
use Rattle.gql_resolve.specs.FieldValue.{value_in}
use Rattle.gql_resolve.specs.declared.field_value.FieldValue.{FieldValue, the_lemmas as given_lemmas}
use Rattle.gql_resolve.specs.declared.field_value.FieldValue.TheVariants as kind
use Rattle.gql_schema.specs.TableReading.{is_known_object, TypeTable}
use Rattle.gql_schema.specs.declared.schema_type.SchemaType.{SchemaType}
use Rattle.gql_schema.specs.declared.schema_type.SchemaType.TheVariants as types
use Rattle.gql_complete.specs.ObjectLists.{GivesList, IsList, IsListing, IsListValue, IsNamed, items_given, items_listed, objects_in}
use Rattle.gql_complete.specs.ObjectLists.{list_of_names, non_null_list, non_null_name, of_name}
use Rattle.gql_complete.proofs.CompleteLemmas.{nullable_is}

module _ (V : Type 0) (table : TypeTable) where
  named_at : (name : List ℕ) (given : FieldValue V) → completed table (ref.Named name) (Some given) ≡ at_type table name (under name table) given
  named_at name given = search (rules, type_lemmas)

  non_null_at : (inner : TypeRef) (given : Option (FieldValue V)) → completed table (ref.NonNull inner) given ≡ required (completed table inner given)
  non_null_at inner given = search (rules, type_lemmas)

  listed_at : (inner : TypeRef) (given : FieldValue V)
      → completed table (ref.List inner) (Some given) ≡ unless_null given (at_items (completing table inner) (all_items_in given))
  listed_at inner given = search (rules, type_lemmas)

  required-Object : (name : List ℕ) (item : FieldValue V) → required (shape.Object name item) ≡ shape.Object name item
  required-Object name item = search (rules, the_lemmas)

  required-List : (non_null : Bool) (items : List (Completed V)) → required (shape.List non_null items) ≡ shape.List non_null items
  required-List non_null items = search (rules, the_lemmas)

  -- a value at an object type
  object_of : (name : List ℕ) (found : Option SchemaType) (given : FieldValue V) → is_known_object found ≡ true → at_type table name found given ≡ shape.Object name given
  object_of name None given is = absurd (cc)
  object_of name (Some (types.Scalar scalar)) given is = absurd (cc)
  object_of name (Some (types.Enum enum)) given is = absurd (cc)
  object_of name (Some (types.Object object)) given is = refl
  object_of name (Some (types.Interface interface)) given is = absurd (cc)
  object_of name (Some (types.Union union)) given is = absurd (cc)
  object_of name (Some (types.InputObject input)) given is = absurd (cc)
  object_of name (Some (types.Subscription subscription)) given is = absurd (cc)

innermost-Named : (name : List ℕ) → innermost (ref.Named name) ≡ name
innermost-Named name = search (rules, type_lemmas)

innermost-NonNull : (inner : TypeRef) → innermost (ref.NonNull inner) ≡ innermost inner
innermost-NonNull inner = search (rules, type_lemmas)

innermost-List : (inner : TypeRef) → innermost (ref.List inner) ≡ innermost inner
innermost-List inner = search (rules, type_lemmas)

module _ (V : Type 0) (table : TypeTable) (name : List ℕ) (known : is_known_object (under name table) ≡ true) where
  -- an item at the type of an object
  object_at : (ty : TypeRef) → IsNamed ty → innermost ty ≡ name → (item : FieldValue V) → completed table ty (Some item) ≡ shape.Object name item
  object_at _ (of_name own) is item =
      subst (λ n. completed table (ref.Named n) (Some item) ≡ shape.Object name item) (sym is ∙ innermost-Named own)
      (named_at V table name item ∙ object_of V table name (under name table) item known)
  object_at _ (non_null_name inner named) is item =
      non_null_at V table inner (Some item)
      ∙ ap required (object_at inner named (sym (innermost-NonNull inner) ∙ is) item)
      ∙ required-Object V table name item

  objects_at : (ty : TypeRef) → IsNamed ty → innermost ty ≡ name → (items : List (FieldValue V))
      → map (λ item. completed table ty (Some item)) items ≡ map (shape.Object name) items
  objects_at ty named is [] = refl
  objects_at ty named is (item ∷ items) = λ i. object_at ty named is item i ∷ objects_at ty named is items i

  -- a list of objects
  list_at : (non_null : Bool) (inner : TypeRef) → IsNamed inner → non_null ≡ not (is_nullable inner) → innermost inner ≡ name → (given : FieldValue V) (list : IsList given)
      → completed table (ref.List inner) (Some given) ≡ objects_in name non_null list.items
  list_at non_null inner named null is given list =
      listed_at V table inner given
      ∙ ap (λ o. unless_null given (at_items (completing table inner) o)) list.items_are
      ∙ ap (λ b. cond b shape.Absent (at_items (completing table inner) (Some list.items))) list.not_null
      ∙ (λ i. shape.List ((sym (nullable_is V table inner) ∙ sym null) i) (objects_at inner named is list.items i))

  listing_at : (non_null : Bool) (ty : TypeRef) → IsListing non_null ty → innermost ty ≡ name → (given : FieldValue V) (list : IsList given)
      → completed table ty (Some given) ≡ objects_in name non_null list.items
  listing_at non_null _ (list_of_names inner named null) is given list =
      list_at non_null inner named null (sym (innermost-List inner) ∙ is) given list
  listing_at non_null _ (non_null_list inner listing) is given list =
      non_null_at V table inner (Some given)
      ∙ ap required (listing_at non_null inner listing (sym (innermost-NonNull inner) ∙ is) given list)
      ∙ required-List V table non_null (map (shape.Object name) list.items)

  -- a result that is a list of objects
  pub objects_listed : (non_null : Bool) (ty : TypeRef) (outcome : Result (Option (FieldValue V)) Error) → IsListing non_null ty → name ≡ innermost ty → GivesList outcome
      → shape_of table ty outcome ≡ objects_in name non_null (items_given outcome)
  objects_listed non_null ty outcome listing is gives =
      ap (shape_of table ty) gives.given_is
      ∙ listing_at non_null ty listing (sym is) gives.given gives.list
      ∙ ap (objects_in name non_null) (ap items_listed (sym gives.list.items_are) ∙ ap items_given (sym gives.given_is))

module _ {V : Type 0} where
  -- what is given as a list is one
  pub given_list : (items : List (FieldValue V)) → IsList (kind.List items)
  given_list items = record { items = items; items_are = search (rules, given_lemmas); not_null = search (rules, given_lemmas) }

  -- and a value that is a list
  pub given_value : (value : Value) → IsListValue value → IsList {V = V} (kind.Value value)
  given_value value list = record { items = map kind.Value list.items; items_are = items_are; not_null = not_null }
    where
      items_here : all_items_in {V = V} (kind.Value value) ≡ option_map (map kind.Value) (list_of value)
      items_here = search (rules, given_lemmas)

      value_here : value_in {V = V} (kind.Value value) ≡ Some value
      value_here = search (rules, given_lemmas)

      items_are : all_items_in {V = V} (kind.Value value) ≡ Some (map kind.Value list.items)
      items_are = items_here ∙ ap (option_map (map kind.Value)) list.items_are

      not_null : is_null_in (value_in {V = V} (kind.Value value)) ≡ false
      not_null = ap is_null_in value_here ∙ list.not_null
