-- Places that are the same, as a whole or in what they tell.
use Rattle.std.proofs.Common.{rules, ◌≡◌, ℕ, ◌+◌, Bool, true, false, List, [], ◌∷◌, ◌++◌, length, map, Option, Some, option_map, unwrap_or, refl, ap, sym, ◌∙◌, subst}
use Rattle.std.specs.List.{flat_map, zip}
use Rattle.std.proofs.lemmas.List.{length-map}
use Rattle.gql_base.proofs.PairLemmas.{zipped_again}
use Rattle.gql_base.specs.Pairs.{names_of, values_of}
use Rattle.gql_base.specs.declared.error.Error.{Error}
use Rattle.gql_base.specs.declared.path_segment.PathSegment.{PathSegment}
use Rattle.gql_base.specs.declared.path_segment.PathSegment.TheVariants.{Field, Index}
use Rattle.gql_base.specs.declared.pos.Pos.{Pos}
use Rattle.gql_base.specs.declared.value.Value.{Value}
use Rattle.gql_base.specs.declared.value.Value.TheVariants as value
use Rattle.gql_request.specs.declared.header_op.HeaderOp.{HeaderOp}
use Rattle.gql_place.specs.Alike.{AreAlike, AreAlikeMembers, AreAlikeTrees, Paired, Same, SameItems, SameMembers, SameTree}
use Rattle.gql_place.specs.Faults.{AtPath, beneath_items, beneath_members, faults_at, faults_of, located, tree_faults}
use Rattle.gql_place.specs.Filled.{item_of}
use Rattle.gql_place.specs.HeaderOps.{ops_of, tree_ops}
use Rattle.gql_place.specs.Pieces.{data_place}
use Rattle.gql_place.specs.Raised.{all_items, all_members, null_if, raised, tree_value, value_at, with_first}
use Rattle.gql_place.specs.declared.place.Place.{Place}
use Rattle.gql_place.specs.declared.place.Tree.{Tree, the_lemmas}
use Rattle.gql_place.specs.declared.place.Tree.TheVariants as tree

alike_refl : (a : Place) → AreAlike a a
alike_refl a = record { data_is = refl; faults_are = λ path. refl; ops_are = refl }

alike_trans : (a b c : Place) → AreAlike a b → AreAlike b c → AreAlike a c
alike_trans a b c one other = record {
  data_is = one.data_is ∙ other.data_is;
  faults_are = λ path. one.faults_are path ∙ other.faults_are path;
  ops_are = one.ops_are ∙ other.ops_are;
}

trees_refl : (a : Tree) → AreAlikeTrees a a
trees_refl a = record { data_is = refl; faults_are = λ pos path. refl; ops_are = refl }

trees_trans : (a b c : Tree) → AreAlikeTrees a b → AreAlikeTrees b c → AreAlikeTrees a c
trees_trans a b c one other = record {
  data_is = one.data_is ∙ other.data_is;
  faults_are = λ pos path. one.faults_are pos path ∙ other.faults_are pos path;
  ops_are = one.ops_are ∙ other.ops_are;
}

member_refl : (m : List ℕ × Place) → AreAlikeMembers m m
member_refl m = (refl, alike_refl m.1)

member_trans : (l m n : List ℕ × Place) → AreAlikeMembers l m → AreAlikeMembers m n → AreAlikeMembers l n
member_trans l m n one other = (one.0 ∙ other.0, alike_trans l.1 m.1 n.1 one.1 other.1)

-- lists are paired with themselves, where each item stands in the relation with itself
pub paired_refl : {X : Type 0} (R : X → X → Type 0) → ((x : X) → R x x) → (xs : List X) → Paired R xs xs
paired_refl R is [] = tt
paired_refl R is (x ∷ xs) = (is x, paired_refl R is xs)

-- with third ones, by second ones
pub paired_trans : {X : Type 0} (R : X → X → Type 0) → ((x y z : X) → R x y → R y z → R x z) → (xs ys zs : List X) → Paired R xs ys → Paired R ys zs → Paired R xs zs
paired_trans R is [] [] [] one other = tt
paired_trans R is [] [] (z ∷ zs) one other = absurd other
paired_trans R is [] (y ∷ ys) zs one other = absurd one
paired_trans R is (x ∷ xs) [] zs one other = absurd one
paired_trans R is (x ∷ xs) (y ∷ ys) [] one other = absurd other
paired_trans R is (x ∷ xs) (y ∷ ys) (z ∷ zs) one other = (is x y z one.0 other.0, paired_trans R is xs ys zs one.1 other.1)

paired_end : {X : Type 0} (R : X → X → Type 0) (xs ys : List X) (x y : X) → Paired R xs ys → R x y → Paired R (xs ++ x ∷ []) (ys ++ y ∷ [])
paired_end R [] [] x y are is = (is, tt)
paired_end R [] (b ∷ ys) x y are is = absurd are
paired_end R (a ∷ xs) [] x y are is = absurd are
paired_end R (a ∷ xs) (b ∷ ys) x y are is = (are.0, paired_end R xs ys x y are.1 is)

-- a place is the same as itself
pub same_refl : (whole : Bool) (a : Place) → Same whole a a
same_refl true a = refl
same_refl false a = alike_refl a

-- as a third place, by a second
pub same_trans : (whole : Bool) (a b c : Place) → Same whole a b → Same whole b c → Same whole a c
same_trans true a b c one other = one ∙ other
same_trans false a b c one other = alike_trans a b c one other

-- as one that it is equal to
pub same_of : (whole : Bool) (a b : Place) → a ≡ b → Same whole a b
same_of whole a b e = subst (Same whole a) e (same_refl whole a)

-- what stands at a place is the same as itself
pub tree_refl : (whole : Bool) (a : Tree) → SameTree whole a a
tree_refl true a = refl
tree_refl false a = trees_refl a

-- as a third, by a second
pub tree_trans : (whole : Bool) (a b c : Tree) → SameTree whole a b → SameTree whole b c → SameTree whole a c
tree_trans true a b c one other = one ∙ other
tree_trans false a b c one other = trees_trans a b c one other

-- as what it is equal to
pub tree_of : (whole : Bool) (a b : Tree) → a ≡ b → SameTree whole a b
tree_of whole a b e = subst (SameTree whole a) e (tree_refl whole a)

-- items are the same as themselves
pub items_refl : (whole : Bool) (ps : List Place) → SameItems whole ps ps
items_refl true ps = refl
items_refl false ps = paired_refl AreAlike alike_refl ps

-- as third ones, by second ones
pub items_trans : (whole : Bool) (ps qs rs : List Place) → SameItems whole ps qs → SameItems whole qs rs → SameItems whole ps rs
items_trans true ps qs rs one other = one ∙ other
items_trans false ps qs rs one other = paired_trans AreAlike alike_trans ps qs rs one other

-- as those that they are equal to
pub items_of : (whole : Bool) (ps qs : List Place) → ps ≡ qs → SameItems whole ps qs
items_of whole ps qs e = subst (SameItems whole ps) e (items_refl whole ps)

-- members are the same as themselves
pub members_refl : (whole : Bool) (ps : List (List ℕ × Place)) → SameMembers whole ps ps
members_refl true ps = refl
members_refl false ps = paired_refl AreAlikeMembers member_refl ps

-- as third ones, by second ones
pub members_trans : (whole : Bool) (ps qs rs : List (List ℕ × Place)) → SameMembers whole ps qs → SameMembers whole qs rs → SameMembers whole ps rs
members_trans true ps qs rs one other = one ∙ other
members_trans false ps qs rs one other = paired_trans AreAlikeMembers member_trans ps qs rs one other

-- as those that they are equal to
pub members_of : (whole : Bool) (ps qs : List (List ℕ × Place)) → ps ≡ qs → SameMembers whole ps qs
members_of whole ps qs e = subst (SameMembers whole ps) e (members_refl whole ps)

-- one more item in front
pub items_cons : (whole : Bool) (a b : Place) (ps qs : List Place) → Same whole a b → SameItems whole ps qs → SameItems whole (a ∷ ps) (b ∷ qs)
items_cons true a b ps qs is are = λ i. is i ∷ are i
items_cons false a b ps qs is are = (is, are)

-- one more item at the end
pub items_end : (whole : Bool) (ps qs : List Place) (a b : Place) → SameItems whole ps qs → Same whole a b → SameItems whole (ps ++ a ∷ []) (qs ++ b ∷ [])
items_end true ps qs a b are is = λ i. are i ++ is i ∷ []
items_end false ps qs a b are is = paired_end AreAlike ps qs a b are is

-- one more member in front
pub members_cons : (whole : Bool) (k : List ℕ) (a b : Place) (ps qs : List (List ℕ × Place)) → Same whole a b → SameMembers whole ps qs
    → SameMembers whole ((k, a) ∷ ps) ((k, b) ∷ qs)
members_cons true k a b ps qs is are = λ i. (k, is i) ∷ are i
members_cons false k a b ps qs is are = ((refl, is), are)

zip_alike : (names : List (List ℕ)) (ps qs : List Place) → Paired AreAlike ps qs → Paired AreAlikeMembers (zip names ps) (zip names qs)
zip_alike [] ps qs are = tt
zip_alike (k ∷ ks) [] [] are = tt
zip_alike (k ∷ ks) [] (b ∷ qs) are = absurd are
zip_alike (k ∷ ks) (a ∷ ps) [] are = absurd are
zip_alike (k ∷ ks) (a ∷ ps) (b ∷ qs) are = ((refl, are.0), zip_alike ks ps qs are.1)

-- the same items under the same names
pub members_zip : (whole : Bool) (names : List (List ℕ)) (ps qs : List Place) → SameItems whole ps qs → SameMembers whole (zip names ps) (zip names qs)
members_zip true names ps qs are = ap (zip names) are
members_zip false names ps qs are = zip_alike names ps qs are

place_value : (pos : Pos) (non_null : Bool) (added : List Error) (headers : List HeaderOp) (t : Tree)
    → value_at (record { pos = pos; non_null = non_null; added = added; headers = headers; tree = t }) ≡ null_if non_null (tree_value t)
place_value pos non_null added headers t = search (rules, the_lemmas)

place_faults : (pos : Pos) (non_null : Bool) (added : List Error) (headers : List HeaderOp) (t : Tree) (path : List PathSegment)
    → faults_at (record { pos = pos; non_null = non_null; added = added; headers = headers; tree = t }) path ≡ map (located pos path) added ++ tree_faults t pos path
place_faults pos non_null added headers t path = search (rules, the_lemmas)

place_ops : (pos : Pos) (non_null : Bool) (added : List Error) (headers : List HeaderOp) (t : Tree)
    → ops_of (record { pos = pos; non_null = non_null; added = added; headers = headers; tree = t }) ≡ headers ++ tree_ops t
place_ops pos non_null added headers t = search (rules, the_lemmas)

-- places with the same under them
pub place_same : (whole : Bool) (pos : Pos) (non_null : Bool) (added : List Error) (headers : List HeaderOp) (t u : Tree) → SameTree whole t u
    → Same whole (record { pos = pos; non_null = non_null; added = added; headers = headers; tree = t })
    (record { pos = pos; non_null = non_null; added = added; headers = headers; tree = u })
place_same true pos non_null added headers t u is =
    λ i. record { pos = pos; non_null = non_null; added = added; headers = headers; tree = is i }
place_same false pos non_null added headers t u is = record {
  data_is = place_value pos non_null added headers t ∙ ap (null_if non_null) is.data_is ∙ sym (place_value pos non_null added headers u);
  faults_are = λ path.
      place_faults pos non_null added headers t path ∙ ap (λ rest. map (located pos path) added ++ rest) (is.faults_are pos path)
      ∙ sym (place_faults pos non_null added headers u path);
  ops_are = place_ops pos non_null added headers t ∙ ap (λ rest. headers ++ rest) is.ops_are ∙ sym (place_ops pos non_null added headers u);
}

-- items with the same under them
pub item_same : (whole : Bool) (pos : Pos) (non_null : Bool) (t u : Tree) → SameTree whole t u → Same whole (item_of pos non_null t) (item_of pos non_null u)
item_same whole pos non_null t u is = place_same whole pos non_null [] [] t u is

module _ {C : Type 0} (f : Place → C) (is : (a b : Place) → AreAlike a b → f a ≡ f b) where
  members_folded : (ms ns : List (List ℕ × Place)) → Paired AreAlikeMembers ms ns
      → map {B = List ℕ × C} (λ (m : List ℕ × Place). (m.0, f m.1)) ms ≡ map {B = List ℕ × C} (λ (m : List ℕ × Place). (m.0, f m.1)) ns
  members_folded [] [] are = refl
  members_folded [] (n ∷ ns) are = absurd are
  members_folded (m ∷ ms) [] are = absurd are
  members_folded (m ∷ ms) (n ∷ ns) are = λ i. (are.0.0 i, is m.1 n.1 are.0.1 i) ∷ members_folded ms ns are.1 i

  items_folded : (ps qs : List Place) → Paired AreAlike ps qs → map f ps ≡ map f qs
  items_folded [] [] are = refl
  items_folded [] (b ∷ qs) are = absurd are
  items_folded (a ∷ ps) [] are = absurd are
  items_folded (a ∷ ps) (b ∷ qs) are = λ i. is a b are.0 i ∷ items_folded ps qs are.1 i

object_value : (ms : List (List ℕ × Place)) → tree_value (tree.Object ms) ≡ option_map value.Object (all_members (map {B = List ℕ × Option Value} (λ (m : List ℕ × Place). (m.0, value_at m.1)) ms))
object_value ms = search (rules, the_lemmas)

object_faults : (ms : List (List ℕ × Place)) (pos : Pos) (path : List PathSegment) → tree_faults (tree.Object ms) pos path ≡ beneath_members (map {B = List ℕ × AtPath} (λ (m : List ℕ × Place). (m.0, faults_at m.1)) ms) path
object_faults ms pos path = search (rules, the_lemmas)

object_ops : (ms : List (List ℕ × Place)) → tree_ops (tree.Object ms) ≡ flat_map {X = List ℕ × List HeaderOp} (λ m. m.1) (map {B = List ℕ × List HeaderOp} (λ (m : List ℕ × Place). (m.0, ops_of m.1)) ms)
object_ops ms = search (rules, the_lemmas)

list_value : (ps : List Place) → tree_value (tree.List ps) ≡ option_map value.List (all_items (map value_at ps))
list_value ps = search (rules, the_lemmas)

list_faults : (ps : List Place) (pos : Pos) (path : List PathSegment) → tree_faults (tree.List ps) pos path ≡ beneath_items 0 (map faults_at ps) path
list_faults ps pos path = search (rules, the_lemmas)

list_ops : (ps : List Place) → tree_ops (tree.List ps) ≡ flat_map (λ ops. ops) (map ops_of ps)
list_ops ps = search (rules, the_lemmas)

data_same : (a b : Place) → AreAlike a b → value_at a ≡ value_at b
data_same a b is = is.data_is

faults_same : (a b : Place) → AreAlike a b → faults_at a ≡ faults_at b
faults_same a b is = λ i path. is.faults_are path i

ops_same : (a b : Place) → AreAlike a b → ops_of a ≡ ops_of b
ops_same a b is = is.ops_are

objects_alike : (ms ns : List (List ℕ × Place)) → Paired AreAlikeMembers ms ns → AreAlikeTrees (tree.Object ms) (tree.Object ns)
objects_alike ms ns are = record {
  data_is = object_value ms ∙ ap (λ os. option_map value.Object (all_members os)) (members_folded value_at data_same ms ns are) ∙ sym (object_value ns);
  faults_are = λ pos path.
      object_faults ms pos path ∙ ap (λ fs. beneath_members fs path) (members_folded faults_at faults_same ms ns are)
      ∙ sym (object_faults ns pos path);
  ops_are =
      object_ops ms ∙ ap (flat_map {X = List ℕ × List HeaderOp} (λ m. m.1)) (members_folded ops_of ops_same ms ns are) ∙ sym (object_ops ns);
}

lists_alike : (ps qs : List Place) → Paired AreAlike ps qs → AreAlikeTrees (tree.List ps) (tree.List qs)
lists_alike ps qs are = record {
  data_is = list_value ps ∙ ap (λ os. option_map value.List (all_items os)) (items_folded value_at data_same ps qs are) ∙ sym (list_value qs);
  faults_are = λ pos path.
      list_faults ps pos path ∙ ap (λ fs. beneath_items 0 fs path) (items_folded faults_at faults_same ps qs are) ∙ sym (list_faults qs pos path);
  ops_are = list_ops ps ∙ ap (flat_map (λ ops. ops)) (items_folded ops_of ops_same ps qs are) ∙ sym (list_ops qs);
}

-- objects of the same members
pub object_same : (whole : Bool) (ms ns : List (List ℕ × Place)) → SameMembers whole ms ns → SameTree whole (tree.Object ms) (tree.Object ns)
object_same true ms ns are = ap tree.Object are
object_same false ms ns are = objects_alike ms ns are

-- lists of the same items
pub list_same : (whole : Bool) (ps qs : List Place) → SameItems whole ps qs → SameTree whole (tree.List ps) (tree.List qs)
list_same true ps qs are = ap tree.List are
list_same false ps qs are = lists_alike ps qs are

leaf_value : (value : Value) (pos : Pos) (non_null : Bool) → value_at (record { pos = pos; non_null = non_null; added = []; headers = []; tree = tree.Leaf value }) ≡ Some value
leaf_value value pos non_null = search (rules, the_lemmas)

leaf_faults : (value : Value) (pos : Pos) (non_null : Bool) (path : List PathSegment) → faults_at (record { pos = pos; non_null = non_null; added = []; headers = []; tree = tree.Leaf value }) path ≡ []
leaf_faults value pos non_null path = search (rules, the_lemmas)

leaf_ops : (value : Value) (pos : Pos) (non_null : Bool) → ops_of (record { pos = pos; non_null = non_null; added = []; headers = []; tree = tree.Leaf value }) ≡ []
leaf_ops value pos non_null = search (rules, the_lemmas)

abbrev nowhere : Pos
nowhere = record { line = 0; column = 0 }

-- a place that tells nothing but data
pub data_alike : (value : Value) (pos : Pos) (non_null : Bool) → AreAlike (data_place value) (record { pos = pos; non_null = non_null; added = []; headers = []; tree = tree.Leaf value })
data_alike value pos non_null = record {
  data_is = leaf_value value nowhere false ∙ sym (leaf_value value pos non_null);
  faults_are = λ path. leaf_faults value nowhere false path ∙ sym (leaf_faults value pos non_null path);
  ops_are = leaf_ops value nowhere false ∙ sym (leaf_ops value pos non_null);
}

abbrev data_members : List (List ℕ × Value) → List (List ℕ × Place)
data_members values = map {B = List ℕ × Place} (λ (m : List ℕ × Value). (m.0, data_place m.1)) values

members_given : (values : List (List ℕ × Value))
    → map {B = List ℕ × Option Value} (λ (m : List ℕ × Place). (m.0, value_at m.1)) (data_members values) ≡ map {B = List ℕ × Option Value} (λ (m : List ℕ × Value). (m.0, Some m.1)) values
members_given [] = refl
members_given (m ∷ ms) = λ i. (m.0, leaf_value m.1 nowhere false i) ∷ members_given ms i

given_names : (values : List (List ℕ × Value)) → names_of (map {B = List ℕ × Option Value} (λ (m : List ℕ × Value). (m.0, Some m.1)) values) ≡ names_of values
given_names [] = refl
given_names (m ∷ ms) = ap (λ ks. m.0 ∷ ks) (given_names ms)

given_values : (values : List (List ℕ × Value)) → all_items (values_of (map {B = List ℕ × Option Value} (λ (m : List ℕ × Value). (m.0, Some m.1)) values)) ≡ Some (values_of values)
given_values [] = refl
given_values (m ∷ ms) = ap (with_first m.1) (given_values ms)

all_given : (values : List (List ℕ × Value)) → all_members (map {B = List ℕ × Option Value} (λ (m : List ℕ × Value). (m.0, Some m.1)) values) ≡ Some values
all_given values = (λ i. option_map (zip (given_names values i)) (given_values values i)) ∙ ap Some (zipped_again values)

members_quiet : (values : List (List ℕ × Value)) (path : List PathSegment) → beneath_members (map {B = List ℕ × AtPath} (λ (m : List ℕ × Place). (m.0, faults_at m.1)) (data_members values)) path ≡ []
members_quiet [] path = refl
members_quiet (m ∷ ms) path = λ i. leaf_faults m.1 nowhere false (path ++ Field m.0 ∷ []) i ++ members_quiet ms path i

members_still : (values : List (List ℕ × Value)) → flat_map {X = List ℕ × List HeaderOp} (λ m. m.1) (map {B = List ℕ × List HeaderOp} (λ (m : List ℕ × Place). (m.0, ops_of m.1)) (data_members values)) ≡ []
members_still [] = refl
members_still (m ∷ ms) = λ i. leaf_ops m.1 nowhere false i ++ members_still ms i

tree_leaf_value : (value : Value) → tree_value (tree.Leaf value) ≡ Some value
tree_leaf_value value = search (rules, the_lemmas)

tree_leaf_faults : (value : Value) (pos : Pos) (path : List PathSegment) → tree_faults (tree.Leaf value) pos path ≡ []
tree_leaf_faults value pos path = search (rules, the_lemmas)

tree_leaf_ops : (value : Value) → tree_ops (tree.Leaf value) ≡ []
tree_leaf_ops value = search (rules, the_lemmas)

-- an object of data, as one value
pub object_of_data : (values : List (List ℕ × Value))
    → AreAlikeTrees (tree.Leaf (value.Object values)) (tree.Object (map {B = List ℕ × Place} (λ (m : List ℕ × Value). (m.0, data_place m.1)) values))
object_of_data values = record {
  data_is =
      tree_leaf_value (value.Object values)
      ∙ sym (object_value (data_members values) ∙ ap (λ os. option_map value.Object (all_members os)) (members_given values) ∙ ap (option_map value.Object) (all_given values));
  faults_are = λ pos path. tree_leaf_faults (value.Object values) pos path ∙ sym (object_faults (data_members values) pos path ∙ members_quiet values path);
  ops_are = tree_leaf_ops (value.Object values) ∙ sym (object_ops (data_members values) ∙ members_still values);
}

items_given : (values : List Value) → all_items (map value_at (map data_place values)) ≡ Some values
items_given [] = refl
items_given (v ∷ vs) =
    ap (λ o. all_items (o ∷ map value_at (map data_place vs))) (leaf_value v nowhere false) ∙ ap (with_first v) (items_given vs)

items_quiet : (n : ℕ) (values : List Value) (path : List PathSegment) → beneath_items n (map faults_at (map data_place values)) path ≡ []
items_quiet n [] path = refl
items_quiet n (v ∷ vs) path = λ i. leaf_faults v nowhere false (path ++ Index n ∷ []) i ++ items_quiet (n + 1) vs path i

items_still : (values : List Value) → flat_map (λ ops. ops) (map ops_of (map data_place values)) ≡ []
items_still [] = refl
items_still (v ∷ vs) = λ i. leaf_ops v nowhere false i ++ items_still vs i

-- a list of data, as one value
pub list_of_data : (values : List Value) → AreAlikeTrees (tree.Leaf (value.List values)) (tree.List (map data_place values))
list_of_data values = record {
  data_is =
      tree_leaf_value (value.List values) ∙ sym (list_value (map data_place values) ∙ ap (option_map value.List) (items_given values));
  faults_are = λ pos path. tree_leaf_faults (value.List values) pos path ∙ sym (list_faults (map data_place values) pos path ∙ items_quiet 0 values path);
  ops_are = tree_leaf_ops (value.List values) ∙ sym (list_ops (map data_place values) ∙ items_still values);
}

-- null, where nothing stands
pub absent_alike : AreAlikeTrees (tree.Leaf value.Null) tree.Absent
absent_alike = record {
  data_is = search (rules, the_lemmas);
  faults_are = λ pos path. search (rules, the_lemmas);
  ops_are = search (rules, the_lemmas);
}

-- the same places tell a response the same
pub told_same : (whole : Bool) (a b : Place) → Same whole a b → (raised a ≡ raised b) × (faults_of a ≡ faults_of b) × (ops_of a ≡ ops_of b)
told_same true a b is = (ap raised is, ap faults_of is, ap ops_of is)
told_same false a b is = (ap (λ o. unwrap_or o value.Null) is.data_is, is.faults_are [], is.ops_are)

alike_by : (value : Value) (place : Place) → place.added ≡ [] → place.headers ≡ [] → place.tree ≡ tree.Leaf value → AreAlike (data_place value) place
alike_by value place added headers leaf =
    subst (AreAlike (data_place value))
    (sym (let e : place ≡ record { pos = place.pos; non_null = place.non_null; added = []; headers = []; tree = tree.Leaf value }
    = λ i. record { pos = place.pos; non_null = place.non_null; added = added i; headers = headers i; tree = leaf i } in e))
    (data_alike value place.pos place.non_null)

-- a leaf with nothing beside it, of which the whole isn't wanted
pub leaf_same : (whole : Bool) (value : Value) (place : Place) → whole ≡ false → place.added ≡ [] → place.headers ≡ [] → place.tree ≡ tree.Leaf value
    → Same whole (data_place value) place
leaf_same true value place part added headers leaf = absurd (cc)
leaf_same false value place part added headers leaf = alike_by value place added headers leaf

-- nothing, where the whole isn't wanted
pub absent_same : (whole : Bool) → whole ≡ false → SameTree whole (tree.Leaf value.Null) tree.Absent
absent_same true part = absurd (cc)
absent_same false part = absent_alike

-- a list of data, where the whole isn't wanted
pub data_list_same : (whole : Bool) (values : List Value) → whole ≡ false → SameTree whole (tree.Leaf (value.List values)) (tree.List (map data_place values))
data_list_same true values part = absurd (cc)
data_list_same false values part = list_of_data values

-- an object of data, where the whole isn't wanted
pub data_object_same : (whole : Bool) (values : List (List ℕ × Value)) → whole ≡ false
    → SameTree whole (tree.Leaf (value.Object values)) (tree.Object (map {B = List ℕ × Place} (λ (m : List ℕ × Value). (m.0, data_place m.1)) values))
data_object_same true values part = absurd (cc)
data_object_same false values part = object_of_data values

zipped_data : (values : List (List ℕ × Value)) → zip (names_of values) (map data_place (values_of values)) ≡ map {B = List ℕ × Place} (λ (m : List ℕ × Value). (m.0, data_place m.1)) values
zipped_data [] = refl
zipped_data (m ∷ ms) = ap (λ ps. (m.0, data_place m.1) ∷ ps) (zipped_data ms)

-- the names of an object of data and the places of its values are the object
pub data_object_made : (whole : Bool) (values : List (List ℕ × Value)) (names : List (List ℕ)) (given : List Value) (places : List Place) (made : List (List ℕ × Place))
    → names ≡ names_of values → given ≡ values_of values → places ≡ map data_place given → made ≡ zip names places
    → SameTree whole (tree.Object made) (tree.Object (map {B = List ℕ × Place} (λ (m : List ℕ × Value). (m.0, data_place m.1)) values))
data_object_made whole values names given places made named valued placed zipped =
    tree_of whole _ _ (ap tree.Object (zipped ∙ (λ i. zip (named i) (placed i)) ∙ ap (λ vs. zip (names_of values) (map data_place vs)) valued ∙ zipped_data values))

-- there are as many places as names
pub data_long : (values : List (List ℕ × Value)) (names : List (List ℕ)) (given : List Value) (places : List Place) → names ≡ names_of values
    → given ≡ values_of values → places ≡ map data_place given → length places ≡ length names
data_long values names given places named valued placed =
    ap length placed ∙ length-map given data_place ∙ ap length valued ∙ length-map values (λ m. m.1)
    ∙ sym (ap length named ∙ length-map values (λ m. m.0))

zip_data : (names : List (List ℕ)) (values : List Value) → map {B = List ℕ × Place} (λ (m : List ℕ × Value). (m.0, data_place m.1)) (zip names values) ≡ zip names (map data_place values)
zip_data [] values = refl
zip_data (k ∷ ks) [] = refl
zip_data (k ∷ ks) (v ∷ vs) = ap (λ ps. (k, data_place v) ∷ ps) (zip_data ks vs)

-- data under keys is places of data under them
pub keyed_data : (names : List (List ℕ)) (values : List Value) (given : List (List ℕ × Value)) → given ≡ zip names values
    → map {B = List ℕ × Place} (λ (m : List ℕ × Value). (m.0, data_place m.1)) given ≡ zip names (map data_place values)
keyed_data names values given is = ap (map {B = List ℕ × Place} (λ (m : List ℕ × Value). (m.0, data_place m.1))) is ∙ zip_data names values
