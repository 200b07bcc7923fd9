-- Completed answers, with what is under their objects.
use Rattle.std.proofs.Common.{rules, ◌≡◌, ℕ, Bool, List, [], ◌∷◌, map, refl, ap, sym, ◌∙◌, subst}
use Rattle.std.specs.List.{Contains, flat_map}
use Rattle.std.proofs.lemmas.List.Elements.{Contains-append_left, Contains-append_right}
use Rattle.gql_base.specs.Pairs.{unite_all}
use Rattle.gql_base.specs.declared.pos.Pos.{Pos}
use Rattle.gql_base.specs.declared.value.Value.{Value}
use Rattle.gql_base.specs.declared.error.Error.{Error}
use Rattle.gql_place.specs.declared.place.Place.{Place}
use Rattle.gql_place.specs.declared.place.Tree.{Tree, the_lemmas}
use Rattle.gql_place.specs.declared.place.Tree.TheVariants as tree
use Rattle.gql_place.specs.declared.shape.Shape.{Shape, roll-Shape}
use Rattle.gql_place.specs.declared.shape.Shape.TheOpen.{Shape-F}
use Rattle.gql_place.specs.declared.shape.Shape.TheFolds.{fold-roll-Shape, ind-Shape, map-Shape}
use Rattle.gql_place.specs.Filled.{fill, fill_step, item_of, objects_in, objects_step}
use Rattle.gql_place.specs.Join.{join, join_items, join_trees}
use Rattle.gql_place.proofs.JoinLemmas.{absent-onto, join_is, joined_objects, join-List}
use Rattle.gql_select.proofs.MergeLemmas.{first_in}

pub leaf-onto : (t : Tree) (v : Value) → join_trees t (tree.Leaf v) ≡ t
leaf-onto t v = search (rules, the_lemmas)

pub fault-onto : (t : Tree) (e : Error) → join_trees t (tree.Fault e) ≡ t
fault-onto t e = search (rules, the_lemmas)

join_item : (one other : Pos) (non_null : Bool) (t u : Tree) → join (item_of one non_null t) (item_of other non_null u) ≡ item_of one non_null (join_trees t u)
join_item one other non_null t u = join_is (item_of one non_null t) (item_of other non_null u)

module _ {O P : Type 0} (one other : Pos) (b c : O → P → List (List ℕ × Place)) where
  abbrev all : O → P → List (List ℕ × Place)
  all = λ object parent. unite_all join (b object parent) (c object parent)

  module _ (E : Type 0) (s : E → Shape O P) (is : (e : E) → join_trees (fill one b (s e)) (fill other c (s e)) ≡ fill one all (s e)) where
    items_filled : (non_null : Bool) (es : List E)
        → join_items (map (item_of one non_null) (map (fill one b) (map s es))) (map (item_of other non_null) (map (fill other c) (map s es)))
        ≡ map (item_of one non_null) (map (fill one all) (map s es))
    items_filled non_null [] = refl
    items_filled non_null (e ∷ es) =
        λ i. (join_item one other non_null (fill one b (s e)) (fill other c (s e)) ∙ ap (item_of one non_null) (is e)) i ∷ items_filled non_null es i

    middle : (y : Shape-F O P E)
        → join_trees (fill_step one b (map-Shape O P (Shape O P) Tree (fill one b) (map-Shape O P E (Shape O P) s y))) (fill_step other c (map-Shape O P (Shape O P) Tree (fill other c) (map-Shape O P E (Shape O P) s y)))
        ≡ fill_step one all (map-Shape O P (Shape O P) Tree (fill one all) (map-Shape O P E (Shape O P) s y))
    middle Shape-F.Absent = absent-onto tree.Absent
    middle (Shape-F.Leaf leaf) = leaf-onto (tree.Leaf leaf) leaf
    middle (Shape-F.Fault error) = fault-onto (tree.Fault error) error
    middle (Shape-F.Object object parent) = joined_objects (b object parent) (c object parent)
    middle (Shape-F.List non_null es) =
        join-List (map (item_of one non_null) (map (fill one b) (map s es))) (map (item_of other non_null) (map (fill other c) (map s es)))
        ∙ ap tree.List (items_filled non_null es)

    layer : (y : Shape-F O P E)
        → join_trees (fill one b (roll-Shape O P (map-Shape O P E (Shape O P) s y))) (fill other c (roll-Shape O P (map-Shape O P E (Shape O P) s y)))
        ≡ fill one all (roll-Shape O P (map-Shape O P E (Shape O P) s y))
    layer y =
        let x : Shape-F O P (Shape O P) = map-Shape O P E (Shape O P) s y in
        (λ i. join_trees (fold-roll-Shape O P Tree (fill_step one b) x i) (fold-roll-Shape O P Tree (fill_step other c) x i))
        ∙ middle y ∙ sym (fold-roll-Shape O P Tree (fill_step one all) x)

  -- an answer completed with all members is that with the first ones, joined with that with the second ones
  pub filled_both : (s : Shape O P) → join_trees (fill one b s) (fill other c s) ≡ fill one all s
  filled_both =
      ind-Shape O P (λ s. join_trees (fill one b s) (fill other c s) ≡ fill one all s)
      (λ x y is. subst (λ z. join_trees (fill one b (roll-Shape O P z)) (fill other c (roll-Shape O P z)) ≡ fill one all (roll-Shape O P z)) is
      (layer _ (λ e. e.0) (λ e. e.1) y))

module _ {O P : Type 0} (pos : Pos) (b c : O → P → List (List ℕ × Place)) where
  -- the members of each of these objects are the same
  Same : List O → Type 0
  Same objects = (object : O) (parent : P) → Contains objects object → b object parent ≡ c object parent

  module _ (E : Type 0) (s : E → Shape O P) (is : (e : E) → Same (objects_in (s e)) → fill pos b (s e) ≡ fill pos c (s e)) where
    items_same : (non_null : Bool) (es : List E) → Same (flat_map (λ objects. objects) (map objects_in (map s es)))
        → map (item_of pos non_null) (map (fill pos b) (map s es)) ≡ map (item_of pos non_null) (map (fill pos c) (map s es))
    unfolding Same
    items_same non_null [] same = refl
    items_same non_null (e ∷ es) same =
        let here = is e (λ object parent at. same object parent (Contains-append_left (objects_in (s e)) (flat_map (λ objects. objects) (map objects_in (map s es))) object at)) in
        let rest = items_same non_null es (λ object parent at. same object parent (Contains-append_right (objects_in (s e)) (flat_map (λ objects. objects) (map objects_in (map s es))) object at)) in
        λ i. item_of pos non_null (here i) ∷ rest i

    same_middle : (y : Shape-F O P E) → Same (objects_step (map-Shape O P (Shape O P) (List O) objects_in (map-Shape O P E (Shape O P) s y)))
        → fill_step pos b (map-Shape O P (Shape O P) Tree (fill pos b) (map-Shape O P E (Shape O P) s y)) ≡ fill_step pos c (map-Shape O P (Shape O P) Tree (fill pos c) (map-Shape O P E (Shape O P) s y))
    unfolding Same
    same_middle Shape-F.Absent same = refl
    same_middle (Shape-F.Leaf leaf) same = refl
    same_middle (Shape-F.Fault error) same = refl
    same_middle (Shape-F.Object object parent) same = ap tree.Object (same object parent (first_in object []))
    same_middle (Shape-F.List non_null es) same = ap tree.List (items_same non_null es same)

    same_layer : (y : Shape-F O P E) → Same (objects_in (roll-Shape O P (map-Shape O P E (Shape O P) s y)))
        → fill pos b (roll-Shape O P (map-Shape O P E (Shape O P) s y)) ≡ fill pos c (roll-Shape O P (map-Shape O P E (Shape O P) s y))
    same_layer y same =
        let x : Shape-F O P (Shape O P) = map-Shape O P E (Shape O P) s y in
        fold-roll-Shape O P Tree (fill_step pos b) x
        ∙ same_middle y (subst Same (fold-roll-Shape O P (List O) objects_step x) same) ∙ sym (fold-roll-Shape O P Tree (fill_step pos c) x)

  -- a completed answer hangs on what is under its own objects alone
  pub filled_same : (s : Shape O P) → ((object : O) (parent : P) → Contains (objects_in s) object → b object parent ≡ c object parent) → fill pos b s ≡ fill pos c s
  unfolding Same
  filled_same =
      ind-Shape O P (λ s. Same (objects_in s) → fill pos b s ≡ fill pos c s)
      (λ x y is. subst (λ z. Same (objects_in (roll-Shape O P z)) → fill pos b (roll-Shape O P z) ≡ fill pos c (roll-Shape O P z)) is
      (same_layer _ (λ e. e.0) (λ e. e.1) y))
