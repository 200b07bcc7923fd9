-- Occurrences of fields in groups, one for each key.
use Rattle.std.specs.Prelude.{◌≡◌, ℕ, Bool, true, false, List, [], ◌∷◌, ◌++◌, Option, Some, None}
use Rattle.std.specs.Prelude.{length, map, slice_get}
use Rattle.std.specs.Borrow.{Bor}
use Rattle.std.specs.List.{Contains, flat_map, zip}
use Rattle.gql_base.specs.Names.{place_of}
use Rattle.gql_base.specs.Pairs.{names_of}
use Rattle.gql_doc.specs.declared.document.Field.{Field}
use Rattle.gql_doc.specs.declared.document.Positioned.{Positioned}
use Rattle.gql_select.specs.Collected.{Setting}
use Rattle.gql_select.specs.Conflicts.{agreeing, first_differing}
use Rattle.gql_select.specs.Documents.{reading, with_others}
use Rattle.gql_conflicts.specs.Classes.{key_at}
use Rattle.gql_select.specs.Behind.{all_behind}
use Rattle.gql_conflicts.specs.DocumentConflicts.{told}
use Rattle.gql_conflicts.specs.declared.conflict.Conflict.{Conflict}
use Rattle.gql_conflicts.specs.declared.group.Group.{Group}

-- the one field that stands for a group
abbrev pub united : Group → Positioned Field
united group = with_others group.first (all_behind group.more.items)

-- the fields of groups under their keys
abbrev pub under_keys : List (List ℕ × Unit {0}) → List Group → List (List ℕ × Positioned Field)
under_keys keys groups = zip (names_of keys) (map united groups)

-- what is told of an occurrence that doesn't ask the same, if there is one
abbrev pub told_of : Option (Bor (Positioned Field)) → List Conflict
told_of None = []
told_of (Some field) = told field.now ∷ []

-- the first of such occurrences stays
abbrev pub first_of : Option (Bor (Positioned Field)) → Bor (Positioned Field)
    → Option (Bor (Positioned Field))
first_of None field = Some field
first_of (Some first) field = Some first

-- a group with one more occurrence, which asks the same or doesn't
pub record Grown (same : Bool) (field : Bor (Positioned Field)) (old new : Group) : Type 0 where
  pub first : new.first ≡ old.first
  pub like : same ≡ true → (new.more.items ≡ old.more.items ++ field ∷ []) × (new.unlike ≡ old.unlike)
  pub unlike : same ≡ false → (new.more.items ≡ old.more.items) × (new.unlike ≡ first_of old.unlike field)

-- the groups of some occurrences
pub record AreGroups (setting : Setting) (keys : List (List ℕ × Unit {0})) (groups : List Group)
    (fields : List (Positioned Field)) : Type 0 where
  pub paired : length groups ≡ length keys
  pub united_are : under_keys keys groups ≡ agreeing (reading setting) fields
  pub unlike_is : (key : List ℕ) (place : ℕ) (group : Group)
      → place_of key (names_of keys) ≡ Some place → slice_get groups place ≡ Some group
      → told_of group.unlike ≡ first_differing (reading setting) told (key, united group) fields
  pub seen : (field : Positioned Field) → Contains fields field
      → place_of (key_at field) (names_of keys) ≡ None
      → ⊥

-- What is told of occurrences on one object, where this is told under the one field of a key: of
-- each key the first occurrence that doesn't ask the same, and what is under the key.
abbrev pub fields_tell : Setting → (Positioned Field → List Conflict) → List (Positioned Field)
    → List Conflict
fields_tell setting beneath fields =
    flat_map (λ m. first_differing (reading setting) told m fields ++ beneath m.1)
    (agreeing (reading setting) fields)

-- the same of a group, and of groups
abbrev pub group_tells : (Positioned Field → List Conflict) → Group → List Conflict
group_tells beneath group = told_of group.unlike ++ beneath (united group)

abbrev pub groups_tell : (Positioned Field → List Conflict) → List Group → List Conflict
groups_tell beneath groups = flat_map (group_tells beneath) groups

-- groups have one field for each key of some fields, and tell what the fields tell
pub record GroupsOf (setting : Setting) (groups : List Group) (fields : List (Positioned Field))
    : Type 0 where
  pub united_are : map united groups
      ≡ map (λ (m : List ℕ × Positioned Field). m.1) (agreeing (reading setting) fields)
  pub tell : (beneath : Positioned Field → List Conflict)
      → groups_tell beneath groups ≡ fields_tell setting beneath fields
