-- What the joined place of two places is.
use Rattle.std.proofs.Common.{rules, ◌≡◌, ℕ, Bool, true, false, cond, List, [], ◌∷◌, map, Some, None, refl, ap, sym, ◌∙◌, subst}
use Rattle.std.specs.Str.{bytes_eq}
use Rattle.gql_base.specs.Pairs.{under, put, unite, unite_all}
use Rattle.gql_place.specs.declared.place.Place.{Place}
use Rattle.gql_place.specs.declared.place.Tree.{Tree, the_lemmas, roll-Tree}
use Rattle.gql_place.specs.declared.place.Tree.TheFolds.{fold-roll-Place, fold-roll-Tree, ind-Place, map-Place, map-Tree}
use Rattle.gql_place.specs.declared.place.Tree.TheViews.{roll-Place, rolls-Absent, rolls-Fault, rolls-Leaf, rolls-List, rolls-Object}
use Rattle.gql_place.specs.declared.place.Tree.TheVariants as tree
use Rattle.gql_place.specs.declared.place.Tree.TheOpen.{Tree-F, Place-F}
use Rattle.gql_place.specs.Join.{OntoPlace, OntoTree, join, join_trees, join_items, onto_members, placed_onto, tree_onto, tree_step, place_step}

pub join_is : (first second : Place) → join first second ≡ record first { tree = join_trees first.tree second.tree }
join_is first second = search (rules, the_lemmas)

alone-is : (p : Place) → placed_onto p None ≡ record p { tree = tree_onto p.tree None }
alone-is p = search (rules, the_lemmas)

pub absent-onto : (t : Tree) → join_trees t tree.Absent ≡ t
absent-onto t = search (rules, the_lemmas)

pub join-Object : (ms ns : List (List ℕ × Place)) → join_trees (tree.Object ms) (tree.Object ns) ≡ tree.Object (onto_members ms (map {B = List ℕ × OntoPlace} (λ (p : List ℕ × Place). (p.0, placed_onto p.1)) ns))
join-Object ms ns = search (rules, the_lemmas)

pub join-List : (ms ns : List Place) → join_trees (tree.List ms) (tree.List ns) ≡ tree.List (join_items ms ns)
join-List ms ns = search (rules, the_lemmas)

alone-Object : (ns : List (List ℕ × Place)) → tree_onto (tree.Object ns) None ≡ tree.Object (map {B = List ℕ × Place} (λ (p : List ℕ × OntoPlace). (p.0, p.1 None)) (map {B = List ℕ × OntoPlace} (λ (p : List ℕ × Place). (p.0, placed_onto p.1)) ns))
alone-Object ns = search (rules, the_lemmas)

module _ (E E' : Type 0) (t : E → Tree) (p : E' → Place) (tree_is : (e : E) → tree_onto (t e) None ≡ t e) (place_is : (e : E') → placed_onto (p e) None ≡ p e) where
  members_alone : (ms : List (List ℕ × E')) → map {B = List ℕ × Place} (λ (q : List ℕ × OntoPlace). (q.0, q.1 None)) (map {B = List ℕ × OntoPlace} (λ (q : List ℕ × Place). (q.0, placed_onto q.1)) (map {B = List ℕ × Place} (λ (m : List ℕ × E'). (m.0, p m.1)) ms)) ≡ map {B = List ℕ × Place} (λ (m : List ℕ × E'). (m.0, p m.1)) ms
  members_alone [] = refl
  members_alone (m ∷ ms) = λ i. (m.0, place_is m.1 i) ∷ members_alone ms i

  items_alone : (es : List E') → map (λ (q : OntoPlace). q None) (map placed_onto (map p es)) ≡ map p es
  items_alone [] = refl
  items_alone (e ∷ es) = λ i. place_is e i ∷ items_alone es i

  tree_alone : (y : Tree-F E E') → tree_onto (roll-Tree (map-Tree E E' Tree Place t p y)) None ≡ roll-Tree (map-Tree E E' Tree Place t p y)
  tree_alone Tree-F.Absent = ap (λ f. f None) (fold-roll-Tree OntoTree OntoPlace tree_step place_step Tree-F.Absent) ∙ sym rolls-Absent
  tree_alone (Tree-F.Leaf leaf) = ap (λ f. f None) (fold-roll-Tree OntoTree OntoPlace tree_step place_step (Tree-F.Leaf leaf)) ∙ sym (rolls-Leaf leaf)
  tree_alone (Tree-F.Fault error) = ap (λ f. f None) (fold-roll-Tree OntoTree OntoPlace tree_step place_step (Tree-F.Fault error)) ∙ sym (rolls-Fault error)
  tree_alone (Tree-F.Object ms) =
      ap (λ f. f None) (fold-roll-Tree OntoTree OntoPlace tree_step place_step (Tree-F.Object (map {B = List ℕ × Place} (λ (m : List ℕ × E'). (m.0, p m.1)) ms)))
      ∙ ap tree.Object (members_alone ms) ∙ sym (rolls-Object (map {B = List ℕ × Place} (λ (m : List ℕ × E'). (m.0, p m.1)) ms))
  tree_alone (Tree-F.List es) =
      ap (λ f. f None) (fold-roll-Tree OntoTree OntoPlace tree_step place_step (Tree-F.List (map p es)))
      ∙ ap tree.List (items_alone es) ∙ sym (rolls-List (map p es))

  place_alone : (y : Place-F E E') → placed_onto (roll-Place (map-Place E E' Tree Place t p y)) None ≡ roll-Place (map-Place E E' Tree Place t p y)
  place_alone y =
      ap (λ f. f None) (fold-roll-Place OntoTree OntoPlace tree_step place_step (map-Place E E' Tree Place t p y))
      ∙ (λ i. record { pos = y.pos; non_null = y.non_null; added = y.added; headers = y.headers; tree = tree_is y.tree i })

-- alone a place is itself
pub alone : (p : Place) → placed_onto p None ≡ p
alone =
    ind-Place (λ t. tree_onto t None ≡ t) (λ p. placed_onto p None ≡ p)
    (λ x y is. subst (λ z. tree_onto (roll-Tree z) None ≡ roll-Tree z) is (tree_alone _ _ (λ e. e.0) (λ e. e.0) (λ e. e.1) (λ e. e.1) y))
    (λ x y is. subst (λ z. placed_onto (roll-Place z) None ≡ roll-Place z) is (place_alone _ _ (λ e. e.0) (λ e. e.0) (λ e. e.1) (λ e. e.1) y))

by_test : (b : Bool) (m : List ℕ × Place) (ms : List (List ℕ × Place)) (k : List ℕ) (q : Place) → put ms k (placed_onto q (under k ms)) ≡ unite join ms k q
    → cond b ((m.0, placed_onto q (cond b (Some m.1) (under k ms))) ∷ ms) (m ∷ put ms k (placed_onto q (cond b (Some m.1) (under k ms))))
    ≡ cond b ((m.0, join m.1 q) ∷ ms) (m ∷ unite join ms k q)
by_test true m ms k q e = refl
by_test false m ms k q e = ap (λ ps. m ∷ ps) e

-- a place that comes onto the one of its key is joined with it
pub put_under : (ms : List (List ℕ × Place)) (k : List ℕ) (q : Place) → put ms k (placed_onto q (under k ms)) ≡ unite join ms k q
put_under [] k q = ap (λ r. (k, r) ∷ []) (alone q)
put_under (m ∷ ms) k q = by_test (bytes_eq k m.0) m ms k q (put_under ms k q)

onto_united : (ms ns : List (List ℕ × Place)) → onto_members ms (map {B = List ℕ × OntoPlace} (λ (p : List ℕ × Place). (p.0, placed_onto p.1)) ns) ≡ unite_all join ms ns
onto_united ms [] = refl
onto_united ms (n ∷ ns) =
    ap (λ ps. onto_members ps (map {B = List ℕ × OntoPlace} (λ (p : List ℕ × Place). (p.0, placed_onto p.1)) ns)) (put_under ms n.0 n.1) ∙ onto_united (unite join ms n.0 n.1) ns

-- objects are united key by key
pub joined_objects : (ms ns : List (List ℕ × Place)) → join_trees (tree.Object ms) (tree.Object ns) ≡ tree.Object (unite_all join ms ns)
joined_objects ms ns = join-Object ms ns ∙ ap tree.Object (onto_united ms ns)
