-- A place joined with itself is itself, where no object has a key twice.
use Rattle.std.proofs.Common.{◌≡◌, ℕ, Bool, true, false, not, ◌&&◌, ◌||◌, List, [], ◌∷◌, map, Some, refl, ap, sym, subst, ◌∙◌}
use Rattle.std.specs.List.{list_all, list_any}
use Rattle.std.specs.Str.{bytes_eq}
use Rattle.std.specs.Cmp.Lexicographic.{bytes_decides}
use Rattle.gql_base.specs.Pairs.{names_of, under, unite, unite_all}
use Rattle.gql_place.specs.declared.place.Place.{Place}
use Rattle.gql_place.specs.declared.place.Tree.{Tree, roll-Tree}
use Rattle.gql_place.specs.declared.place.Tree.TheFolds.{fold-roll-Place, fold-roll-Tree, ind-Place, map-Place, map-Tree}
use Rattle.gql_place.specs.declared.place.Tree.TheOpen.{Tree-F, Place-F}
use Rattle.gql_place.specs.declared.place.Tree.TheVariants as tree
use Rattle.gql_place.specs.declared.place.Tree.TheViews.{roll-Place, rolls-Absent, rolls-Fault, rolls-Leaf, rolls-List, rolls-Object}
use Rattle.gql_place.specs.Join.{join, join_items, join_trees}
use Rattle.gql_place.specs.KeysApart.{has_keys_apart, names_apart, place_step, tree_keys_apart, tree_step}
use Rattle.gql_place.proofs.FillLemmas.{fault-onto, leaf-onto}
use Rattle.gql_place.proofs.JoinLemmas.{absent-onto, join_is, join-List, joined_objects}
use Rattle.gql_select.proofs.UnitingLemmas.{either, same_itself, unite_here, unite_past}

both_true : (a b : Bool) → (a && b) ≡ true → (a ≡ true) × (b ≡ true)
both_true true b h = (refl, h)
both_true false b h = absurd (cc)

not_true : (b : Bool) → not b ≡ true → b ≡ false
not_true true h = absurd (cc)
not_true false h = refl

none_true : (a b : Bool) → (a || b) ≡ false → (a ≡ false) × (b ≡ false)
none_true true b h = absurd (cc)
none_true false b h = (refl, h)

turned : (a b : List ℕ) → bytes_eq a b ≡ false → bytes_eq b a ≡ false
turned a b apart =
    either (bytes_eq b a) (bytes_eq b a ≡ false)
    (λ same. let e : bytes_eq a b ≡ true = (bytes_decides a b).1 (sym ((bytes_decides b a).0 same)) in absurd (cc))
    (λ differs. differs)

-- a value that stands under a key, joined with itself
unite_same : (ms : List (List ℕ × Place)) (k : List ℕ) (v : Place) → under k ms ≡ Some v → join v v ≡ v → unite join ms k v ≡ ms
unite_same [] k v at same = absurd (cc)
unite_same (m ∷ ms) k v at same =
    either (bytes_eq k m.0) (unite join (m ∷ ms) k v ≡ m ∷ ms)
    (λ e.
    let found : under k (m ∷ ms) ≡ Some m.1 = rw e refl in
    let is : m.1 ≡ v = cc in
    unite_here join m ms k v e
    ∙ ap (λ w. let p : List ℕ × Place = (m.0, join w v) in p ∷ ms) is
    ∙ ap (λ w. let p : List ℕ × Place = (m.0, w) in p ∷ ms) same
    ∙ sym (ap (λ w. let p : List ℕ × Place = (m.0, w) in p ∷ ms) is))
    (λ e.
    let past : under k (m ∷ ms) ≡ under k ms = rw e refl in
    unite_past join m ms k v e ∙ ap (λ ps. m ∷ ps) (unite_same ms k v (sym past ∙ at) same))

-- each of these stands under its key among those, and is itself when it is joined with itself
abbrev Stand : List (List ℕ × Place) → List (List ℕ × Place) → Type 0
Stand ms [] = Unit {0}
Stand ms (n ∷ ns) = (under n.0 ms ≡ Some n.1) × ((join n.1 n.1 ≡ n.1) × Stand ms ns)

all_same : (ms ns : List (List ℕ × Place)) → Stand ms ns → unite_all join ms ns ≡ ms
all_same ms [] stand = refl
all_same ms (n ∷ ns) stand = ap (λ ps. unite_all join ps ns) (unite_same ms n.0 n.1 stand.0 stand.1.0) ∙ all_same ms ns stand.1.1

stand_past : (m : List ℕ × Place) (ms ns : List (List ℕ × Place)) → list_any (bytes_eq m.0) (names_of ns) ≡ false → Stand ms ns → Stand (m ∷ ms) ns
stand_past m ms [] apart stand = tt
stand_past m ms (n ∷ ns) apart stand =
    let parts = none_true (bytes_eq m.0 n.0) (list_any (bytes_eq m.0) (names_of ns)) apart in
    let differs : bytes_eq n.0 m.0 ≡ false = turned m.0 n.0 parts.0 in
    let past : under n.0 (m ∷ ms) ≡ under n.0 ms = rw differs refl in
    (past ∙ stand.0, (stand.1.0, stand_past m ms ns parts.1 stand.1.1))

names_kept : {A B : Type 0} (h : A → B) (ms : List (List ℕ × A)) → names_of (map {B = List ℕ × B} (λ (m : List ℕ × A). (m.0, h m.1)) ms) ≡ names_of ms
names_kept h [] = refl
names_kept h (m ∷ ms) = ap (λ names. m.0 ∷ names) (names_kept h ms)

module _ (E E' : Type 0) (t : E → Tree) (p : E' → Place)
    (tree_is : (e : E) → tree_keys_apart (t e) ≡ true → join_trees (t e) (t e) ≡ t e)
    (place_is : (e : E') → has_keys_apart (p e) ≡ true → join (p e) (p e) ≡ p e) where
  abbrev placed : List (List ℕ × E') → List (List ℕ × Place)
  placed ms = map {B = List ℕ × Place} (λ (m : List ℕ × E'). (m.0, p m.1)) ms

  abbrev tested : List (List ℕ × Place) → List (List ℕ × Bool)
  tested ms = map {B = List ℕ × Bool} (λ (m : List ℕ × Place). (m.0, has_keys_apart m.1)) ms

  members_stand : (ms : List (List ℕ × E')) → names_apart (names_of (placed ms)) ≡ true → list_all (λ (m : List ℕ × Bool). m.1) (tested (placed ms)) ≡ true
      → Stand (placed ms) (placed ms)
  members_stand [] apart each = tt
  members_stand (m ∷ ms) apart each =
      let names = both_true (not (list_any (bytes_eq m.0) (names_of (placed ms)))) (names_apart (names_of (placed ms))) apart in
      let parts = both_true (has_keys_apart (p m.1)) (list_all (λ (q : List ℕ × Bool). q.1) (tested (placed ms))) each in
      let here : under m.0 (placed (m ∷ ms)) ≡ Some (p m.1) = rw (same_itself m.0) refl in
      (here, (place_is m.1 parts.0, stand_past (m.0, p m.1) (placed ms) (placed ms) (not_true _ names.0) (members_stand ms names.1 parts.1)))

  items_same : (es : List E') → list_all (λ (b : Bool). b) (map has_keys_apart (map p es)) ≡ true → join_items (map p es) (map p es) ≡ map p es
  items_same [] each = refl
  items_same (e ∷ es) each =
      let parts = both_true (has_keys_apart (p e)) (list_all (λ (b : Bool). b) (map has_keys_apart (map p es))) each in
      λ i. place_is e parts.0 i ∷ items_same es parts.1 i

  tree_same : (y : Tree-F E E') → tree_keys_apart (roll-Tree (map-Tree E E' Tree Place t p y)) ≡ true
      → join_trees (roll-Tree (map-Tree E E' Tree Place t p y)) (roll-Tree (map-Tree E E' Tree Place t p y)) ≡ roll-Tree (map-Tree E E' Tree Place t p y)
  tree_same Tree-F.Absent apart = subst (λ z. join_trees z z ≡ z) (sym rolls-Absent) (absent-onto tree.Absent)
  tree_same (Tree-F.Leaf leaf) apart = subst (λ z. join_trees z z ≡ z) (sym (rolls-Leaf leaf)) (leaf-onto (tree.Leaf leaf) leaf)
  tree_same (Tree-F.Fault error) apart = subst (λ z. join_trees z z ≡ z) (sym (rolls-Fault error)) (fault-onto (tree.Fault error) error)
  tree_same (Tree-F.Object ms) apart =
      let tests : (names_apart (names_of (tested (placed ms))) && list_all (λ (m : List ℕ × Bool). m.1) (tested (placed ms))) ≡ true
      = sym (fold-roll-Tree Bool Bool tree_step place_step (Tree-F.Object (placed ms))) ∙ apart in
      let parts = both_true (names_apart (names_of (tested (placed ms)))) (list_all (λ (m : List ℕ × Bool). m.1) (tested (placed ms))) tests in
      let names : names_apart (names_of (placed ms)) ≡ true = ap names_apart (sym (names_kept has_keys_apart (placed ms))) ∙ parts.0 in
      subst (λ z. join_trees z z ≡ z) (sym (rolls-Object (placed ms)))
      (joined_objects (placed ms) (placed ms) ∙ ap tree.Object (all_same (placed ms) (placed ms) (members_stand ms names parts.1)))
  tree_same (Tree-F.List es) apart =
      let tests : list_all (λ (b : Bool). b) (map has_keys_apart (map p es)) ≡ true
      = sym (fold-roll-Tree Bool Bool tree_step place_step (Tree-F.List (map p es))) ∙ apart in
      subst (λ z. join_trees z z ≡ z) (sym (rolls-List (map p es))) (join-List (map p es) (map p es) ∙ ap tree.List (items_same es tests))

  place_same : (y : Place-F E E') → has_keys_apart (roll-Place (map-Place E E' Tree Place t p y)) ≡ true
      → join (roll-Place (map-Place E E' Tree Place t p y)) (roll-Place (map-Place E E' Tree Place t p y)) ≡ roll-Place (map-Place E E' Tree Place t p y)
  place_same y apart =
      let test : tree_keys_apart (t y.tree) ≡ true
      = sym (fold-roll-Place Bool Bool tree_step place_step (map-Place E E' Tree Place t p y)) ∙ apart in
      join_is (roll-Place (map-Place E E' Tree Place t p y)) (roll-Place (map-Place E E' Tree Place t p y))
      ∙ (λ i. record { pos = y.pos; non_null = y.non_null; added = y.added; headers = y.headers; tree = tree_is y.tree test i })

pub joined_with_itself : (place : Place) → has_keys_apart place ≡ true → join place place ≡ place
joined_with_itself =
    ind-Place (λ t. tree_keys_apart t ≡ true → join_trees t t ≡ t) (λ p. has_keys_apart p ≡ true → join p p ≡ p)
    (λ x y is. subst (λ z. tree_keys_apart (roll-Tree z) ≡ true → join_trees (roll-Tree z) (roll-Tree z) ≡ roll-Tree z) is (tree_same _ _ (λ e. e.0) (λ e. e.0) (λ e. e.1) (λ e. e.1) y))
    (λ x y is. subst (λ z. has_keys_apart (roll-Place z) ≡ true → join (roll-Place z) (roll-Place z) ≡ roll-Place z) is (place_same _ _ (λ e. e.0) (λ e. e.0) (λ e. e.1) (λ e. e.1) y))
