-- Places that are the same give the same members, trees and places.
use Rattle.std.proofs.Common.{◌≡◌, ℕ, Bool, true, false, List, [], ◌∷◌, map, refl, ap, sym, subst}
use Rattle.std.specs.List.{zip}
use Rattle.gql_base.specs.Pairs.{HasDistinctNames, names_of, values_of}
use Rattle.gql_base.specs.declared.pos.Pos.{Pos}
use Rattle.gql_doc.specs.declared.document.Field.{Field}
use Rattle.gql_doc.specs.declared.document.Positioned.{Positioned}
use Rattle.gql_doc.specs.declared.document.Selection.{Selection}
use Rattle.gql_meaning.specs.Responses.{Members}
use Rattle.gql_place.proofs.PieceLemmas.{item_same, items_cons, items_refl, list_same, members_refl, members_zip, object_same, place_same, same_refl, tree_refl}
use Rattle.gql_place.specs.Alike.{Paired, Same, SameItems, SameMembers, SameTree}
use Rattle.gql_place.specs.Filled.{item_of}
use Rattle.gql_place.specs.Join.{join}
use Rattle.gql_place.specs.declared.place.Place.{Place}
use Rattle.gql_place.specs.declared.place.Tree.TheVariants as tree
use Rattle.gql_place.specs.declared.shape.Shape.{roll-Shape}
use Rattle.gql_place.specs.declared.shape.Shape.TheFolds.{fold-roll-Shape, ind-Shape, map-Shape}
use Rattle.gql_place.specs.declared.shape.Shape.TheOpen.{Shape-F}
use Rattle.gql_select.proofs.UnitingLemmas.{distinct_over, distinct_united, united_distinct}
use Rattle.gql_select.specs.Collected.{Setting}
use Rattle.gql_select.specs.Documents.{reading}
use Rattle.gql_select.specs.Reading.{keyed, over}
use Rattle.gql_objects.specs.Members.{absent_place, first_place, members_with, other_places, place_of, places_behind, places_behind_all, places_with, typename_place, united_members}
use Rattle.gql_objects.specs.Assembly.{AreApart, members_each, place_made}
use Rattle.gql_collect.specs.Basis.{setting_by}
use Rattle.gql_collect.specs.GroupFields.{collected}
use Rattle.gql_complete.specs.FillShape.{first_members, left_after, Made, made_all, made_of, made_step, other_members, tree_with}
use Rattle.gql_collect.specs.GroupFields.{grouping_at, groups_by, groups_in}
use Rattle.gql_collect.specs.Levels.{Asked, asked_in_as, asked_of, asked_on}
use Rattle.gql_objects.specs.Parents.{Standing, standing_behind}
use Rattle.gql_complete.specs.FoundObjects.{Bare}
use Rattle.gql_collect.specs.declared.asks.Asks.{Asks}
use Rattle.gql_collect.specs.declared.asks.Asks.TheVariants as asks
use Rattle.gql_collect.specs.declared.basis.Basis.{Basis}
use Rattle.gql_collect.specs.declared.basis.Grouping.{Grouping}
use Rattle.gql_collect.specs.declared.basis.Grouping.TheVariants as grouping
use Rattle.gql_objects.specs.declared.assembly.kept.Filled.{Filled}
use Rattle.gql_objects.proofs.JoiningLemmas.{distinct_zip}

-- Trees that get their members one after another.

-- the first of the same members
first_same : (whole : Bool) (ms ns : List Members) → Paired (SameMembers whole) ms ns
    → SameMembers whole (first_members ms) (first_members ns)
first_same whole [] [] same = members_refl whole []
first_same whole [] (n ∷ ns) same = absurd same
first_same whole (m ∷ ms) [] same = absurd same
first_same whole (m ∷ ms) (n ∷ ns) same = same.0

-- those after them
others_same : (whole : Bool) (ms ns : List Members) → Paired (SameMembers whole) ms ns
    → Paired (SameMembers whole) (other_members ms) (other_members ns)
others_same whole [] [] same = tt
others_same whole [] (n ∷ ns) same = absurd same
others_same whole (m ∷ ms) [] same = absurd same
others_same whole (m ∷ ms) (n ∷ ns) same = same.1

module _ (whole : Bool) (pos : Pos) where
  -- what is made of a shape is the same, and so is what is left
  record MadeSame (m n : Made) : Type 0 where
    trees : SameTree whole m.tree n.tree
    rest : Paired (SameMembers whole) m.left n.left

  -- what is made of a shape with the same members is the same
  MakesSame : Bare → Type 0
  MakesSame shape = (ms ns : List Members) → Paired (SameMembers whole) ms ns → MadeSame (made_of pos shape ms) (made_of pos shape ns)

  module _ (E : Type 0) (s : E → Bare) (is : (e : E) → MakesSame (s e)) where
    items_made_same : (non_null : Bool) (es : List E) (ms ns : List Members) → Paired (SameMembers whole) ms ns
        → SameItems whole (made_all pos non_null (map (made_of pos) (map s es)) ms).places
        (made_all pos non_null (map (made_of pos) (map s es)) ns).places
        × Paired (SameMembers whole) (made_all pos non_null (map (made_of pos) (map s es)) ms).left
        (made_all pos non_null (map (made_of pos) (map s es)) ns).left
    unfolding MakesSame
    items_made_same non_null [] ms ns same = (items_refl whole [], same)
    items_made_same non_null (e ∷ es) ms ns same =
        let m : Made = made_of pos (s e) ms in
        let n : Made = made_of pos (s e) ns in
        let all : List Members → List Place = λ xs. (made_all pos non_null (map (made_of pos) (map s es)) xs).places in
        let one : MadeSame m n = is e ms ns same in
        let others : SameItems whole (all m.left) (all n.left)
        × Paired (SameMembers whole) (made_all pos non_null (map (made_of pos) (map s es)) m.left).left
        (made_all pos non_null (map (made_of pos) (map s es)) n.left).left
        = items_made_same non_null es m.left n.left one.rest in (
          items_cons whole (item_of pos non_null m.tree) (item_of pos non_null n.tree) (all m.left) (all n.left)
              (item_same whole pos non_null m.tree n.tree one.trees) others.0,
          others.1,
        )

    middle : (y : Shape-F (Unit {0}) (Unit {0}) E) (ms ns : List Members) → Paired (SameMembers whole) ms ns
        → MadeSame
        (made_step pos (map-Shape (Unit {0}) (Unit {0}) Bare (List Members → Made) (made_of pos)
        (map-Shape (Unit {0}) (Unit {0}) E Bare s y)) ms)
        (made_step pos (map-Shape (Unit {0}) (Unit {0}) Bare (List Members → Made) (made_of pos)
        (map-Shape (Unit {0}) (Unit {0}) E Bare s y)) ns)
    middle Shape-F.Absent ms ns same = record { trees = tree_refl whole tree.Absent; rest = same }
    middle (Shape-F.Leaf leaf) ms ns same = record { trees = tree_refl whole (tree.Leaf leaf); rest = same }
    middle (Shape-F.Fault error) ms ns same = record { trees = tree_refl whole (tree.Fault error); rest = same }
    middle (Shape-F.Object object parent) ms ns same =
        record {
          trees = object_same whole (first_members ms) (first_members ns) (first_same whole ms ns same);
          rest = others_same whole ms
              ns same;
        }
    middle (Shape-F.List non_null es) ms ns same =
        let items : List (List Members → Made) = map (made_of pos) (map s es) in
        let made : SameItems whole (made_all pos non_null items ms).places (made_all pos non_null items ns).places
        × Paired (SameMembers whole) (made_all pos non_null items ms).left (made_all pos non_null items ns).left
        = items_made_same non_null es ms ns same in
        record {
          trees = list_same whole (made_all pos non_null items ms).places (made_all pos non_null items ns).places made.0;
          rest = made.1;
        }

    layer : (y : Shape-F (Unit {0}) (Unit {0}) E)
        → MakesSame (roll-Shape (Unit {0}) (Unit {0}) (map-Shape (Unit {0}) (Unit {0}) E Bare s y))
    unfolding MakesSame
    layer y = λ ms ns same.
        subst (λ (f : List Members → Made). MadeSame (f ms) (f ns))
        (sym (fold-roll-Shape (Unit {0}) (Unit {0}) (List Members → Made) (made_step pos) (map-Shape (Unit {0}) (Unit {0}) E Bare s y)))
        (middle y ms ns same)

  makes_same : (shape : Bare) → MakesSame shape
  makes_same =
      ind-Shape (Unit {0}) (Unit {0}) MakesSame
      (λ x y is. subst (λ z. MakesSame (roll-Shape (Unit {0}) (Unit {0}) z)) is (layer _ (λ e. e.0) (λ e. e.1) y))

  -- a tree with the same members is the same
  pub tree_with_same : (shape : Bare) (ms ns : List Members) → Paired (SameMembers whole) ms ns
      → SameTree whole (tree_with pos shape ms) (tree_with pos shape ns)
  unfolding MakesSame
  tree_with_same shape ms ns same = (makes_same shape ms ns same).trees

  -- and so are the members that are left
  pub left_same : (shape : Bare) (ms ns : List Members) → Paired (SameMembers whole) ms ns
      → Paired (SameMembers whole) (left_after pos shape ms) (left_after pos shape ns)
  unfolding MakesSame
  left_same shape ms ns same = (makes_same shape ms ns same).rest

-- The places of an object's fields.

-- the first of the same places
first_place_same : (whole : Bool) (pos : Pos) (xs ys : List Place) → SameItems whole xs ys
    → Same whole (first_place pos xs) (first_place pos ys)
first_place_same true pos xs ys same = ap (first_place pos) same
first_place_same false pos [] [] same = same_refl false (absent_place pos)
first_place_same false pos [] (b ∷ ys) same = absurd same
first_place_same false pos (a ∷ xs) [] same = absurd same
first_place_same false pos (a ∷ xs) (b ∷ ys) same = same.0

-- those after it
other_places_same : (whole : Bool) (xs ys : List Place) → SameItems whole xs ys → SameItems whole (other_places xs) (other_places ys)
other_places_same true xs ys same = ap other_places same
other_places_same false [] [] same = tt
other_places_same false [] (b ∷ ys) same = absurd same
other_places_same false (a ∷ xs) [] same = absurd same
other_places_same false (a ∷ xs) (b ∷ ys) same = same.1

-- the place of a field
field_place_same : (whole : Bool) (object : List ℕ) (pos : Pos) (a : Asks) (xs ys : List Place) → SameItems whole xs ys
    → Same whole (place_of object pos a xs) (place_of object pos a ys)
field_place_same whole object pos asks.Typename xs ys same = same_refl whole (typename_place pos object)
field_place_same whole object pos asks.Nothing xs ys same = same_refl whole (absent_place pos)
field_place_same whole object pos (asks.Call resolver ty arguments) xs ys same = first_place_same whole pos xs ys same

-- the places that a field leaves
behind_one_same : (whole : Bool) (a : Asks) (xs ys : List Place) → SameItems whole xs ys
    → SameItems whole (places_behind a xs) (places_behind a ys)
behind_one_same whole asks.Typename xs ys same = same
behind_one_same whole asks.Nothing xs ys same = same
behind_one_same whole (asks.Call resolver ty arguments) xs ys same = other_places_same whole xs ys same

-- the places of all fields of an object
pub places_with_same : (whole : Bool) (object : List ℕ) (asked : List Asked) (xs ys : List Place) → SameItems whole xs ys
    → SameItems whole (places_with object asked xs) (places_with object asked ys)
places_with_same whole object [] xs ys same = items_refl whole []
places_with_same whole object (a ∷ others) xs ys same =
    items_cons whole (place_of object a.field.pos a.asks xs) (place_of object a.field.pos a.asks ys)
    (places_with object others (places_behind a.asks xs)) (places_with object others (places_behind a.asks ys))
    (field_place_same whole object a.field.pos a.asks xs ys same)
    (places_with_same whole object others (places_behind a.asks xs) (places_behind a.asks ys) (behind_one_same whole a.asks xs ys same))

-- the places that all of them leave
pub behind_same : (whole : Bool) (asked : List Asked) (xs ys : List Place) → SameItems whole xs ys
    → SameItems whole (places_behind_all asked xs) (places_behind_all asked ys)
behind_same whole [] xs ys same = same
behind_same whole (a ∷ others) xs ys same =
    behind_same whole others (places_behind a.asks xs) (places_behind a.asks ys) (behind_one_same whole a.asks xs ys same)

-- The members of objects.

-- places that are the same are so under names
pub united_places : (whole : Bool) (members : List (List ℕ × Asked)) (xs ys : List Place) → (whole ≡ false → HasDistinctNames members)
    → SameItems whole xs ys
    → SameMembers whole (united_members (names_of members) xs) (united_members (names_of members) ys)
united_places true members xs ys distinct same = ap (united_members (names_of members)) same
united_places false members xs ys distinct same =
    subst (λ ms. SameMembers false ms (united_members (names_of members) ys))
    (sym (united_distinct join (zip (names_of members) xs) (distinct_zip members xs (distinct refl))))
    (subst (SameMembers false (zip (names_of members) xs))
    (sym (united_distinct join (zip (names_of members) ys) (distinct_zip members ys (distinct refl))))
    (members_zip false (names_of members) xs ys same))

-- the members of an object
pub members_with_same : (whole : Bool) (object : List ℕ) (members : List (List ℕ × Asked)) (xs ys : List Place)
    → (whole ≡ false → HasDistinctNames members)
    → SameItems whole xs ys → SameMembers whole (members_with object members xs) (members_with object members ys)
members_with_same whole object members xs ys distinct same =
    united_places whole members (places_with object (values_of members) xs) (places_with object (values_of members) ys) distinct
    (places_with_same whole object (values_of members) xs ys same)

module _ {V : Type 0} where
  -- the members of objects, one after another
  pub members_each_same : (whole : Bool) (ss : List (Standing V)) (xs ys : List Place) → AreApart whole ss
      → SameItems whole xs ys → Paired (SameMembers whole) (members_each ss xs) (members_each ss ys)
  members_each_same whole [] xs ys distinct same = tt
  members_each_same whole (s ∷ ss) xs ys distinct same = (
    members_with_same whole s.spot.object s.members xs ys distinct.0 same,
    members_each_same whole ss (places_behind_all (values_of s.members) xs) (places_behind_all (values_of s.members) ys) distinct.1
        (behind_same whole (values_of s.members) xs ys same),
  )

  -- the place of what a task came to
  pub place_made_same : (whole : Bool) (filled : Filled V) (xs ys : List Place)
      → AreApart whole (map standing_behind filled.parents.items)
      → SameItems whole xs ys → Same whole (place_made filled xs) (place_made filled ys)
  place_made_same whole filled xs ys distinct same =
      let ss : List (Standing V) = map standing_behind filled.parents.items in
      place_same whole filled.pos filled.non_null filled.added filled.headers
      (tree_with filled.pos filled.shape (members_each ss xs)) (tree_with filled.pos filled.shape (members_each ss ys))
      (tree_with_same whole filled.pos filled.shape (members_each ss xs) (members_each ss ys)
      (members_each_same whole ss xs ys distinct same))

-- Fields under distinct names.

asked_over : (basis : Basis) (object : List ℕ) (ms : List (List ℕ × Positioned Field))
    → asked_on basis object ms ≡ over (asked_of basis object) ms
asked_over basis object [] = refl
asked_over basis object (m ∷ ms) = ap (λ ns. (m.0, asked_of basis object m.1) ∷ ns) (asked_over basis object ms)

by_key_at : (is_root : Bool) (g : Grouping) → g ≡ grouping.ByKey → grouping_at is_root g ≡ grouping.ByKey
by_key_at true g by_key = refl
by_key_at false g by_key = by_key

distinct_groups : (g : Grouping) (setting : Setting) (fields : List (Positioned Field)) → g ≡ grouping.ByKey
    → HasDistinctNames (groups_by g setting fields)
distinct_groups g setting fields by_key =
    subst (λ h. HasDistinctNames (groups_by h setting fields)) (sym by_key)
    (distinct_united (reading setting).both [] (keyed (reading setting) fields) tt)

-- groups of one key have distinct names
pub distinct_asked : (is_root : Bool) (basis : Basis) (object : List ℕ) (selections : List (Positioned Selection))
    → basis.grouping ≡ grouping.ByKey
    → HasDistinctNames (asked_in_as is_root basis object selections)
distinct_asked is_root basis object selections by_key =
    let groups : List (List ℕ × Positioned Field) = groups_in is_root basis object selections in
    subst HasDistinctNames (sym (asked_over basis object groups))
    (distinct_over (asked_of basis object) groups
    (distinct_groups (grouping_at is_root basis.grouping) (setting_by basis)
    (collected basis.grouping basis object selections)
    (by_key_at is_root basis.grouping by_key)))
