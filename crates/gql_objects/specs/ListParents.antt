-- The objects of a list, each with its fields.
use Rattle.std.specs.Prelude.{ℕ, suc, ◌<◌, List, [], ◌∷◌, ◌++◌, length}
use Rattle.std.specs.List.{AllByRecursion}
use Rattle.gql_base.specs.declared.path_segment.PathSegment.{PathSegment}
use Rattle.gql_base.specs.declared.path_segment.PathSegment.TheVariants as segment
use Rattle.gql_complete.specs.FoundObjects.{Spot}
use Rattle.gql_resolve.specs.declared.field_value.FieldValue.{FieldValue}
use Rattle.gql_collect.specs.Levels.{members_of}
use Rattle.gql_objects.specs.Parents.{Standing}
use Rattle.gql_objects.specs.Paths.{path_of}
use Rattle.gql_objects.specs.declared.parent.Shared.{Shared}

module _ {V : Type 0} where
  -- the objects of a list at a path, each after its index, counted from this number on
  abbrev pub item_spots : List ℕ → List PathSegment → ℕ → List (FieldValue V) → List (Spot V)
  item_spots object path n [] = []
  item_spots object path n (item ∷ items) =
      record { object = object; parent = item; path = path ++ segment.Index n ∷ [] }
      ∷ item_spots object path (suc n) items

  -- objects that aren't at the root
  abbrev pub AreBelow : List (Spot V) → Type 0
  AreBelow found = AllByRecursion (λ spot. 0 < length spot.path) found

  -- the item of an index as an object, with the fields that it shares with others
  abbrev pub item_standing : Shared → ℕ → FieldValue V → Standing V
  item_standing shared n item = record {
    spot =
        record {
          object = shared.level.value.object;
          parent = item;
          path = path_of shared.steps.value.items ++ segment.Index n ∷ [];
        };
    members = members_of shared.level.value;
  }

  -- items as objects, counted from this number on
  abbrev pub items_standing : Shared → ℕ → List (FieldValue V) → List (Standing V)
  items_standing shared n [] = []
  items_standing shared n (item ∷ items) =
      item_standing shared n item ∷ items_standing shared (suc n) items
