-- Values that come to the data that they are as they stand; and completed answers that are data: these come to no object, and tell what a leaf of the data tells.
use Rattle.std.proofs.Common.{rules, ◌≡◌, ℕ, zero, suc, ◌+◌, Bool, true, false, cond, List, [], ◌∷◌, ◌++◌, length, ◌≤◌, map, take, slice_get, Option, None, Some, option_map, refl, ap, sym, ◌∙◌, subst, add-one}
use Rattle.std.proofs.lemmas.List.{take_all}
use Rattle.gql_base.specs.Kinds.{is_null}
use Rattle.gql_base.specs.declared.path_segment.PathSegment.{PathSegment}
use Rattle.gql_base.specs.declared.path_segment.PathSegment.TheVariants as segment
use Rattle.gql_base.specs.declared.pos.Pos.{Pos}
use Rattle.gql_base.specs.declared.type_ref.TypeRef.{TypeRef, the_lemmas as type_lemmas}
use Rattle.gql_base.specs.declared.type_ref.TypeRef.TheVariants as ref
use Rattle.gql_base.specs.declared.value.Value.{Value, the_lemmas as value_lemmas}
use Rattle.gql_base.specs.declared.value.Value.TheVariants as value
use Rattle.gql_meaning.specs.Completion.{at_scalar, Completed, completed, completing, fault, is_null_in, no_scalar, required, required_here, shown, unless_null}
use Rattle.gql_meaning.specs.Responses.{Members}
use Rattle.gql_place.specs.Alike.{AreAlike, AreAlikeTrees, Same, SameItems}
use Rattle.gql_place.specs.Filled.{fill, fill_step, item_of}
use Rattle.gql_place.specs.Pieces.{data_place}
use Rattle.gql_place.specs.Raised.{all_items, with_first}
use Rattle.gql_place.specs.declared.place.Place.{Place}
use Rattle.gql_place.specs.declared.place.Tree.{Tree}
use Rattle.gql_place.specs.declared.place.Tree.TheVariants as tree
use Rattle.gql_place.specs.declared.shape.Shape.{out-Shape, roll-Shape, roll-out-Shape, the_lemmas}
use Rattle.gql_place.specs.declared.shape.Shape.TheFolds.{fold-roll-Shape, ind-Shape, map-Shape}
use Rattle.gql_place.specs.declared.shape.Shape.TheOpen.{Shape-F}
use Rattle.gql_place.specs.declared.shape.Shape.TheVariants as shape
use Rattle.gql_place.proofs.PieceLemmas.{absent_same, data_list_same, item_same, leaf_same, list_same, place_same, same_trans, tree_refl, tree_trans}
use Rattle.gql_resolve.specs.FieldValue.{value_in}
use Rattle.gql_resolve.specs.declared.field_value.FieldValue.{FieldValue, the_lemmas as given_lemmas}
use Rattle.gql_resolve.specs.declared.field_value.FieldValue.TheVariants as kind
use Rattle.gql_schema.specs.TableReading.{TypeTable}
use Rattle.gql_schema.specs.declared.scalar_rule.ScalarRule.{ScalarRule}
use Rattle.gql_complete.specs.CompleteValue.{IsShown, listed, value_or_null}
use Rattle.gql_complete.specs.Data.{data_at, data_of, data_step, IsData}
use Rattle.gql_complete.specs.FillShape.{Made, made_of, tree_with}
use Rattle.gql_complete.specs.FoundObjects.{bare, numbered, Spot, spots, spots_step}
use Rattle.gql_complete.proofs.FillLemmas.{filled_is}

-- the first of values that are all there, and the others
record Parted (o : Option Value) (os : List (Option Value)) (vs : List Value) : Type 0 where
  first : Value
  others : List Value
  first_is : o ≡ Some first
  others_are : all_items os ≡ Some others
  whole : vs ≡ first ∷ others

parted_with : (o : Option Value) (w : Value) (os : List (Option Value)) (rest : Option (List Value)) (vs : List Value) → o ≡ Some w → all_items os ≡ rest
    → with_first w rest ≡ Some vs → Parted o os vs
parted_with o w os None vs is are e = absurd (cc)
parted_with o w os (Some us) vs is are e =
    let same : vs ≡ w ∷ us = cc in
    record { first = w; others = us; first_is = is; others_are = are; whole = same }

parted : (o : Option Value) (os : List (Option Value)) (vs : List Value) → all_items (o ∷ os) ≡ Some vs → Parted o os vs
parted None os vs e = absurd (cc)
parted (Some w) os vs e = parted_with (Some w) w os (all_items os) vs refl refl e

-- the items of a list that is data
list_parted : (os : Option (List Value)) (v : Value) → option_map value.List os ≡ Some v → (vs : List Value) × (os ≡ Some vs) × (value.List vs ≡ v)
list_parted None v e = absurd (cc)
list_parted (Some vs) v e = let same : value.List vs ≡ v = cc in (vs, refl, same)

null-Null : is_null value.Null ≡ true
null-Null = search (rules, value_lemmas)

module _ (V : Type 0) where
  data-Absent : data_of {V = V} shape.Absent ≡ Some value.Null
  data-Absent = search (rules, the_lemmas)

  data-Leaf : (leaf : Value) → data_of {V = V} (shape.Leaf leaf) ≡ Some leaf
  data-Leaf leaf = search (rules, the_lemmas)

  data-List : (non_null : Bool) (items : List (Completed V)) → data_of (shape.List non_null items) ≡ option_map value.List (all_items (map data_of items))
  data-List non_null items = search (rules, the_lemmas)

  data_out : (c : Completed V) → data_of c ≡ data_step (map-Shape (List ℕ) (FieldValue V) (Completed V) (Option Value) data_of (out-Shape (List ℕ) (FieldValue V) c))
  data_out c =
      sym (sym (fold-roll-Shape (List ℕ) (FieldValue V) (Option Value) data_step (out-Shape (List ℕ) (FieldValue V) c)) ∙ ap data_of (roll-out-Shape (List ℕ) (FieldValue V) c))

  required_by : (c : Completed V) (x : Shape-F (List ℕ) (FieldValue V) (Completed V)) (v : Value)
      → data_step (map-Shape (List ℕ) (FieldValue V) (Completed V) (Option Value) data_of x) ≡ Some v → is_null v ≡ false → data_of c ≡ Some v
      → data_of (required_here c x) ≡ Some v
  required_by c Shape-F.Absent v here some is =
      let null : value.Null ≡ v = cc in
      let no : true ≡ false = sym null-Null ∙ ap is_null null ∙ some in
      absurd (cc)
  required_by c (Shape-F.Leaf leaf) v here some is = is
  required_by c (Shape-F.Fault error) v here some is = is
  required_by c (Shape-F.Object object parent) v here some is = is
  required_by c (Shape-F.List non_null items) v here some is = is

  -- data that isn't null is the same where null may not stand
  pub required_data : (c : Completed V) (v : Value) → is_null v ≡ false → IsData c v → IsData (required c) v
  required_data c v some is = required_by c (out-Shape (List ℕ) (FieldValue V) c) v (sym (data_out c) ∙ is) some is

  value-given : (v : Value) → value_in {V = V} (kind.Value v) ≡ Some v
  value-given v = search (rules, given_lemmas)

  null-given : is_null_in (value_in {V = V} (kind.Value value.Null)) ≡ true
  null-given = ap is_null_in (value-given value.Null) ∙ null-Null

  -- null is data at a scalar
  pub scalar_null : (name : List ℕ) (rule : ScalarRule) (v : Value) → v ≡ value.Null
      → IsData {V = V} (unless_null (kind.Value v) (at_scalar name rule (value_in {V = V} (kind.Value v)))) v
  scalar_null name rule v is =
      subst (λ w. IsData {V = V} (unless_null (kind.Value w) (at_scalar name rule (value_in {V = V} (kind.Value w)))) w) (sym is)
      (ap (λ b. data_of {V = V} (cond b shape.Absent (at_scalar {V = V} name rule (value_in {V = V} (kind.Value value.Null))))) null-given ∙ data-Absent)

  -- and so is a value that is a leaf as it stands
  pub scalar_data : (name : List ℕ) (rule : ScalarRule) (v : Value) → IsShown name rule v
      → IsData {V = V} (unless_null (kind.Value v) (at_scalar name rule (value_in {V = V} (kind.Value v)))) v
  scalar_data name rule v here =
      ap (λ o. data_of {V = V} (cond (is_null_in o) shape.Absent (at_scalar name rule o))) (value-given v)
      ∙ ap (λ b. data_of {V = V} (cond b shape.Absent (at_scalar name rule (Some v)))) here.some
      ∙ ap (λ b. data_of {V = V} (cond b (shape.Leaf (shown name v)) (fault (no_scalar name)))) here.taken
      ∙ ap (λ w. data_of {V = V} (shape.Leaf w)) here.same
      ∙ data-Leaf v

  -- what a resolver gives as a value is data where the value is
  pub data_of_value : (table : TypeTable) (ty : TypeRef) (given : FieldValue V) (v : Value) → given ≡ kind.Value v → data_at V table ty v ≡ Some v
      → IsData (completed table ty (Some given)) (value_or_null (value_in given))
  data_of_value table ty given v is here =
      subst (λ g. IsData (completed table ty (Some g)) (value_or_null (value_in g))) (sym is) (here ∙ ap (λ o. Some (value_or_null o)) (sym (value-given v)))

module _ (V : Type 0) (table : TypeTable) where
  at_non_null : (inner : TypeRef) (given : Option (FieldValue V)) → completed table (ref.NonNull inner) given ≡ required (completed table inner given)
  at_non_null inner given = search (rules, type_lemmas)

  -- data at a type that isn't null
  pub data_non_null : (ty inner : TypeRef) (v : Value) → ty ≡ ref.NonNull inner → IsData (required (completed {V = V} table inner (Some (kind.Value v)))) v
      → data_at V table ty v ≡ Some v
  data_non_null ty inner v is here =
      ap (λ t. data_at V table t v) is ∙ ap data_of (at_non_null inner (Some (kind.Value v))) ∙ here

  list_null : (inner : TypeRef) → completed {V = V} table (ref.List inner) (Some (kind.Value value.Null)) ≡ shape.Absent
  list_null inner = search (rules, type_lemmas, given_lemmas, value_lemmas)

  -- null is data at a list
  pub data_list_null : (inner : TypeRef) (v : Value) → v ≡ value.Null → IsData (completed {V = V} table (ref.List inner) (Some (kind.Value v))) v
  data_list_null inner v is =
      subst (λ w. IsData (completed {V = V} table (ref.List inner) (Some (kind.Value w))) w) (sym is) (ap data_of (list_null inner) ∙ data-Absent V)

  list_value : (inner : TypeRef) (items : List Value)
      → completed {V = V} table (ref.List inner) (Some (kind.Value (value.List items))) ≡ listed (completing table inner) (map kind.Value items)
  list_value inner items = search (rules, type_lemmas, given_lemmas, value_lemmas)

  each_at : (inner : TypeRef) (items : List Value)
      → map data_of (map (λ item. completed table inner (Some item)) (map {B = FieldValue V} kind.Value items)) ≡ map (data_at V table inner) items
  each_at inner [] = refl
  each_at inner (item ∷ items) = ap (λ os. data_at V table inner item ∷ os) (each_at inner items)

  -- and so is a list of data
  pub data_list : (inner : TypeRef) (v : Value) (items : List Value) → v ≡ value.List items → all_items (map (data_at V table inner) items) ≡ Some items
      → IsData (completed {V = V} table (ref.List inner) (Some (kind.Value v))) v
  data_list inner v items is are =
      subst (λ w. IsData (completed {V = V} table (ref.List inner) (Some (kind.Value w))) w) (sym is)
      (ap data_of (list_value inner items)
      ∙ data-List V (completing {V = V} table inner).non_null (map (λ item. completed table inner (Some item)) (map kind.Value items))
      ∙ ap (λ os. option_map value.List (all_items os)) (each_at inner items)
      ∙ ap (option_map value.List) are)

module _ (f : Value → Option Value) where
  one_more : (xs : List Value) (i : ℕ) (x : Value) → all_items (map f (take i xs)) ≡ Some (take i xs) → slice_get xs i ≡ Some x → f x ≡ Some x
      → all_items (map f (take (suc i) xs)) ≡ Some (take (suc i) xs)
  one_more [] i x before at this = cc
  one_more (y ∷ []) zero x before at this =
      let same : y ≡ x = cc in
      subst (λ z. all_items (f z ∷ []) ≡ Some (z ∷ [])) (sym same) (ap (λ o. all_items (o ∷ [])) this)
  one_more (y ∷ z ∷ zs) zero x before at this =
      let same : y ≡ x = cc in
      subst (λ z. all_items (f z ∷ []) ≡ Some (z ∷ [])) (sym same) (ap (λ o. all_items (o ∷ [])) this)
  one_more (y ∷ ys) (suc i) x before at this =
      let parts = parted (f y) (map f (take i ys)) (y ∷ take i ys) before in
      let first : parts.first ≡ y = let whole : y ∷ take i ys ≡ parts.first ∷ parts.others = parts.whole in cc in
      let others : parts.others ≡ take i ys = let whole : y ∷ take i ys ≡ parts.first ∷ parts.others = parts.whole in cc in
      ap (λ o. all_items (o ∷ map f (take (suc i) ys))) (parts.first_is ∙ ap Some first)
      ∙ ap (with_first y) (one_more ys i x (parts.others_are ∙ ap Some others) at this)

  -- one more item is itself
  pub each_more : (xs : List Value) (i : ℕ) (x : Value) → all_items (map f (take i xs)) ≡ Some (take i xs) → slice_get xs i ≡ Some x → f x ≡ Some x
      → all_items (map f (take (i + 1) xs)) ≡ Some (take (i + 1) xs)
  each_more xs i x before at this = rw add-one (one_more xs i x before at this)

  -- all items are, once the last is passed
  pub each_passed : (xs : List Value) (i : ℕ) → all_items (map f (take i xs)) ≡ Some (take i xs) → length xs ≤ i → all_items (map f xs) ≡ Some xs
  each_passed xs i before over = subst (λ ys. all_items (map f ys) ≡ Some ys) (take_all i xs over) before

  -- and none is not
  pub each_begins : (xs : List Value) → all_items (map f (take 0 xs)) ≡ Some (take 0 xs)
  each_begins [] = refl
  each_begins (x ∷ xs) = refl

module _ {V : Type 0} (pos : Pos) (below : List ℕ → FieldValue V → Members) where
  -- a completed answer comes to no object, and tells what a leaf tells
  record IsAlone (c : Completed V) (v : Value) : Type 0 where
    none : (path : List PathSegment) → spots c path ≡ []
    same : AreAlikeTrees (tree.Leaf v) (fill pos below c)

  Comes : Completed V → Type 0
  Comes c = (v : Value) → data_of c ≡ Some v → IsAlone c v

  item_alone : (non_null : Bool) (v : Value) (t : Tree) → AreAlikeTrees (tree.Leaf v) t → AreAlike (data_place v) (item_of pos non_null t)
  item_alone non_null v t is =
      same_trans false (data_place v) (item_of pos non_null (tree.Leaf v)) (item_of pos non_null t)
      (leaf_same false v (item_of pos non_null (tree.Leaf v)) refl refl refl refl) (item_same false pos non_null (tree.Leaf v) t is)

  module _ (E : Type 0) (s : E → Completed V) (is : (e : E) → Comes (s e)) where
    items_none : (es : List E) (n : ℕ) (vs : List Value) → all_items (map data_of (map s es)) ≡ Some vs → (path : List PathSegment)
        → numbered n (map spots (map s es)) path ≡ []
    unfolding Comes
    items_none [] n vs e path = refl
    items_none (x ∷ es) n vs e path =
        let parts = parted (data_of (s x)) (map data_of (map s es)) vs e in
        λ i. (is x parts.first parts.first_is).none (path ++ segment.Index n ∷ []) i ++ items_none es (suc n) parts.others parts.others_are path i

    items_same : (non_null : Bool) (es : List E) (vs : List Value) → all_items (map data_of (map s es)) ≡ Some vs
        → SameItems false (map data_place vs) (map (item_of pos non_null) (map (fill pos below) (map s es)))
    unfolding Comes
    items_same non_null [] vs e =
        let none : [] ≡ vs = cc in
        subst (λ us. SameItems false (map data_place us) []) none tt
    items_same non_null (x ∷ es) vs e =
        let parts = parted (data_of (s x)) (map data_of (map s es)) vs e in
        subst (λ us. SameItems false (map data_place us) (map (item_of pos non_null) (map (fill pos below) (map s (x ∷ es))))) (sym parts.whole)
        (item_alone non_null parts.first (fill pos below (s x)) (is x parts.first parts.first_is).same, items_same non_null es parts.others parts.others_are)

    middle_none : (y : Shape-F (List ℕ) (FieldValue V) E) (v : Value)
        → data_step (map-Shape (List ℕ) (FieldValue V) (Completed V) (Option Value) data_of (map-Shape (List ℕ) (FieldValue V) E (Completed V) s y)) ≡ Some v
        → (path : List PathSegment)
        → spots_step (map-Shape (List ℕ) (FieldValue V) (Completed V) (List PathSegment → List (Spot V)) spots (map-Shape (List ℕ) (FieldValue V) E (Completed V) s y)) path ≡ []
    middle_none Shape-F.Absent v e path = refl
    middle_none (Shape-F.Leaf leaf) v e path = refl
    middle_none (Shape-F.Fault error) v e path = refl
    middle_none (Shape-F.Object object parent) v e path = absurd (cc)
    middle_none (Shape-F.List non_null es) v e path =
        let listed = list_parted (all_items (map data_of (map s es))) v e in
        items_none es 0 listed.0 listed.1 path

    middle_same : (y : Shape-F (List ℕ) (FieldValue V) E) (v : Value)
        → data_step (map-Shape (List ℕ) (FieldValue V) (Completed V) (Option Value) data_of (map-Shape (List ℕ) (FieldValue V) E (Completed V) s y)) ≡ Some v
        → AreAlikeTrees (tree.Leaf v)
        (fill_step pos below (map-Shape (List ℕ) (FieldValue V) (Completed V) Tree (fill pos below) (map-Shape (List ℕ) (FieldValue V) E (Completed V) s y)))
    middle_same Shape-F.Absent v e =
        let null : value.Null ≡ v = cc in
        subst (λ w. AreAlikeTrees (tree.Leaf w) tree.Absent) null (absent_same false refl)
    middle_same (Shape-F.Leaf leaf) v e =
        let same : leaf ≡ v = cc in
        subst (λ w. AreAlikeTrees (tree.Leaf w) (tree.Leaf leaf)) same (tree_refl false (tree.Leaf leaf))
    middle_same (Shape-F.Fault error) v e = absurd (cc)
    middle_same (Shape-F.Object object parent) v e = absurd (cc)
    middle_same (Shape-F.List non_null es) v e =
        let listed = list_parted (all_items (map data_of (map s es))) v e in
        let items = map (item_of pos non_null) (map (fill pos below) (map s es)) in
        subst (λ w. AreAlikeTrees (tree.Leaf w) (tree.List items)) listed.2
        (tree_trans false (tree.Leaf (value.List listed.0)) (tree.List (map data_place listed.0)) (tree.List items) (data_list_same false listed.0 refl)
        (list_same false (map data_place listed.0) items (items_same non_null es listed.0 listed.1)))

    layer : (y : Shape-F (List ℕ) (FieldValue V) E) → Comes (roll-Shape (List ℕ) (FieldValue V) (map-Shape (List ℕ) (FieldValue V) E (Completed V) s y))
    unfolding Comes
    layer y = λ v e.
        let x : Shape-F (List ℕ) (FieldValue V) (Completed V) = map-Shape (List ℕ) (FieldValue V) E (Completed V) s y in
        let here = sym (fold-roll-Shape (List ℕ) (FieldValue V) (Option Value) data_step x) ∙ e in
        record {
          none = λ path.
              (λ i. fold-roll-Shape (List ℕ) (FieldValue V) (List PathSegment → List (Spot V)) spots_step x i path) ∙ middle_none y v here path;
          same = subst (AreAlikeTrees (tree.Leaf v)) (sym (fold-roll-Shape (List ℕ) (FieldValue V) Tree (fill_step pos below) x)) (middle_same y v here);
        }

  comes : (c : Completed V) → Comes c
  comes = ind-Shape (List ℕ) (FieldValue V) Comes (λ x y is. subst (λ z. Comes (roll-Shape (List ℕ) (FieldValue V) z)) is (layer _ (λ e. e.0) (λ e. e.1) y))

  data_alone : (c : Completed V) (v : Value) → IsData c v → IsAlone c v
  unfolding Comes
  data_alone c v is = comes c v is

  made_alone : (c : Completed V) → spots c [] ≡ [] → tree_with pos (bare c) [] ≡ fill pos below c
  made_alone c none =
      ap (λ found. tree_with pos (bare c) (map (λ (spot : Spot V). below spot.object spot.parent) found ++ [])) (sym none)
      ∙ ap (λ (m : Made). m.tree) (filled_is pos below c [] [])

module _ {V : Type 0} (c : Completed V) (v : Value) (is : IsData c v) where
  -- a completed answer that is data has no object
  pub data_without : (path : List PathSegment) → spots c path ≡ []
  data_without path = (data_alone (record { line = 0; column = 0 }) (λ object parent. []) c v is).none path

  -- and tells what the leaf of the data tells
  pub data_made : (pos : Pos) → AreAlikeTrees (tree.Leaf v) (tree_with pos (bare c) [])
  data_made pos =
      let alone = data_alone pos (λ object parent. []) c v is in
      subst (AreAlikeTrees (tree.Leaf v)) (sym (made_alone pos (λ object parent. []) c (alone.none []))) alone.same

-- what tells what the leaf of some data tells, with nothing beside it, is kept as that data, where the whole isn't wanted
pub data_kept : (whole : Bool) (v : Value) (place : Place) → whole ≡ false → place.added ≡ [] → place.headers ≡ [] → AreAlikeTrees (tree.Leaf v) place.tree
    → Same whole (data_place v) place
data_kept true v place part added headers is = absurd (cc)
data_kept false v place part added headers is =
    let leaf : Place = record { pos = place.pos; non_null = place.non_null; added = place.added; headers = place.headers; tree = tree.Leaf v } in
    same_trans false (data_place v) leaf place (leaf_same false v leaf refl added headers refl)
    (place_same false place.pos place.non_null place.added place.headers (tree.Leaf v) place.tree is)
