-- Answers that are lists of objects or leaves as they stand, on examples.
use Rattle.std.proofs.Common.{rules, ◌≡◌, ℕ, true, [], ◌∷◌, ◌++◌, Some, Ok, refl, ap, sym}
use Rattle.std.specs.Prelude.{codes, not}
use Rattle.gql_base.specs.TypeRef.{is_nullable}
use Rattle.gql_base.specs.declared.path_segment.PathSegment.TheVariants as segment
use Rattle.gql_base.specs.declared.type_ref.TypeRef.{the_lemmas}
use Rattle.gql_base.specs.declared.type_ref.TypeRef.TheVariants as ref
use Rattle.gql_base.specs.declared.value.Value.{Value, the_lemmas as value_lemmas}
use Rattle.gql_base.specs.declared.value.Value.TheVariants as value
use Rattle.gql_place.specs.declared.shape.Shape.TheVariants as shape
use Rattle.gql_resolve.specs.declared.field_value.FieldValue.{the_lemmas as given_lemmas}
use Rattle.gql_resolve.specs.declared.field_value.FieldValue.TheVariants as kind
use Rattle.gql_complete.specs.CompleteValue.{data_in}
use Rattle.gql_objects.specs.ListParents.{item_spots}
use Rattle.gql_complete.specs.ObjectLists.{items_given, IsListing, objects_in}
use Rattle.gql_complete.specs.ObjectLists.IsListing.{list_of_names, non_null_list}
use Rattle.gql_complete.specs.ObjectLists.IsNamed.{non_null_name, of_name}
use Rattle.gql_objects.specs.Parents.{steps_by}
use Rattle.gql_objects.specs.Paths.{index_step}
use Rattle.gql_objects.specs.declared.parent.Trail.{Trail}
use Rattle.gql_objects.specs.declared.step.Step.TheVariants as step

never_null : not (is_nullable (ref.NonNull (ref.Named (codes "Row")))) ≡ true
never_null = search (rules, the_lemmas)

-- [Row!]! is a list of the objects of a name, of which none may be null
rows_are_listed : IsListing true (ref.NonNull (ref.List (ref.NonNull (ref.Named (codes "Row")))))
rows_are_listed = non_null_list _ (list_of_names _ (non_null_name _ (of_name (codes "Row"))) (sym never_null))

module _ (first second : Value) where
  -- the items of a constant list of two
  two_given : items_given {V = ℕ} (Ok (Some (kind.Value (value.List (first ∷ second ∷ []))))) ≡ kind.Value first ∷ kind.Value second ∷ []
  two_given = search (rules, value_lemmas, given_lemmas)

  -- they come to two objects of the name
  two_objects : objects_in {V = ℕ} (codes "Row") true (kind.Value first ∷ kind.Value second ∷ [])
      ≡ shape.List true (shape.Object (codes "Row") (kind.Value first) ∷ shape.Object (codes "Row") (kind.Value second) ∷ [])
  two_objects = refl

  -- each after its index
  two_spots : item_spots {V = ℕ} (codes "Row") (segment.Field (codes "rows") ∷ []) 0 (kind.Value first ∷ kind.Value second ∷ [])
      ≡ record { object = codes "Row"; parent = kind.Value first; path = segment.Field (codes "rows") ∷ segment.Index 0 ∷ [] }
      ∷ record { object = codes "Row"; parent = kind.Value second; path = segment.Field (codes "rows") ∷ segment.Index 1 ∷ [] }
      ∷ []
  two_spots = refl

  -- a value that a resolver gives is the data that it may be
  value_given_at_once : data_in {V = ℕ} (Ok (Some (kind.Value first))) ≡ first
  value_given_at_once = search (rules, given_lemmas)

-- the way to the item of an index ends with that index
third_of : (trail : Trail) → trail.index ≡ Some 2 → steps_by trail ≡ trail.steps.value.items ++ step.Index 2 ∷ []
third_of trail is = ap (λ index. trail.steps.value.items ++ index_step index) is
