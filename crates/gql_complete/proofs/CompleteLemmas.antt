-- Lists, completed item by item.
use Rattle.std.proofs.Common.{rules, ◌≡◌, Bool, not, List, [], ◌∷◌, map, Some, refl, ap, sym, ◌∙◌}
use Rattle.gql_base.specs.TypeRef.{is_nullable, nullable_here}
use Rattle.gql_base.specs.declared.type_ref.TypeRef.{out-TypeRef, roll-out-TypeRef, TypeRef, the_lemmas as type_lemmas}
use Rattle.gql_base.specs.declared.type_ref.TypeRef.TheFolds.{fold-roll-TypeRef, map-TypeRef}
use Rattle.gql_base.specs.declared.type_ref.TypeRef.TheOpen.{TypeRef-F}
use Rattle.gql_base.specs.declared.type_ref.TypeRef.TheVariants as ref
use Rattle.gql_base.specs.declared.value.Value.{Value}
use Rattle.gql_meaning.specs.Completion.{completed, Completed, Completing, completing, completing_step}
use Rattle.gql_place.specs.declared.shape.Shape.TheVariants as shape
use Rattle.gql_resolve.specs.declared.field_value.FieldValue.{FieldValue, the_lemmas as given_lemmas}
use Rattle.gql_resolve.specs.declared.field_value.FieldValue.TheVariants as kind
use Rattle.gql_schema.specs.TableReading.{TypeTable}
use Rattle.gql_complete.specs.CompleteValue.{listed}

module _ (V : Type 0) (table : TypeTable) where
  nullable_at : (x : TypeRef-F TypeRef) → not (nullable_here x) ≡ (completing_step {V = V} table (map-TypeRef TypeRef (Completing V) (completing table) x)).non_null
  nullable_at (TypeRef-F.Named name) = refl
  nullable_at (TypeRef-F.NonNull inner) = refl
  nullable_at (TypeRef-F.List inner) = refl

  pub nullable_is : (ty : TypeRef) → not (is_nullable ty) ≡ (completing {V = V} table ty).non_null
  nullable_is ty =
      nullable_at (out-TypeRef ty)
      ∙ ap (λ (c : Completing V). c.non_null) (sym (fold-roll-TypeRef (Completing V) (completing_step table) (out-TypeRef ty)) ∙ ap (completing table) (roll-out-TypeRef ty))

  -- all items are completed
  pub listed_items : (inner : TypeRef) (nullable : Bool) (shapes : List (Completed V)) (items : List (FieldValue V))
      → nullable ≡ is_nullable inner → shapes ≡ map (λ item. completed table inner (Some item)) items
      → shape.List (not nullable) shapes ≡ listed (completing table inner) items
  listed_items inner nullable shapes items null all = λ i. shape.List ((ap not null ∙ nullable_is inner) i) (all i)

  map_values : (inner : TypeRef) (items : List Value)
      → map (λ item. completed {V = V} table inner (Some (kind.Value item))) items ≡ map (λ item. completed table inner (Some item)) (map kind.Value items)
  map_values inner [] = refl
  map_values inner (item ∷ items) = ap (λ xs. completed table inner (Some (kind.Value item)) ∷ xs) (map_values inner items)

  -- the same of the items of a value
  pub listed_values : (inner : TypeRef) (nullable : Bool) (shapes : List (Completed V)) (items : List Value)
      → nullable ≡ is_nullable inner → shapes ≡ map (λ item. completed table inner (Some (kind.Value item))) items
      → shape.List (not nullable) shapes ≡ listed (completing table inner) (map kind.Value items)
  listed_values inner nullable shapes items null all =
      λ i. shape.List ((ap not null ∙ nullable_is inner) i) ((all ∙ map_values inner items) i)

  -- a list at the lists of a type
  pub list_given : (inner : TypeRef) (items : List (FieldValue V)) → completed table (ref.List inner) (Some (kind.List items)) ≡ listed (completing table inner) items
  list_given inner items = search (rules, type_lemmas, given_lemmas)
