-- A completed answer that gets the members of its objects one after another is the one that is filled with them.
use Rattle.std.proofs.Common.{rules, ◌≡◌, ℕ, suc, Bool, false, List, [], ◌∷◌, ◌++◌, map, refl, ap, sym, ◌∙◌, subst, append_assoc}
use Rattle.std.proofs.lemmas.List.{append-nil, map-append}
use Rattle.std.specs.Prelude.{Err, Ok, OnOk, Result}
use Rattle.gql_base.specs.declared.error.Error.{Error}
use Rattle.gql_base.specs.declared.path_segment.PathSegment.{PathSegment}
use Rattle.gql_base.specs.declared.path_segment.PathSegment.TheVariants as segment
use Rattle.gql_base.specs.declared.pos.Pos.{Pos}
use Rattle.gql_base.specs.declared.value.Value.{Value}
use Rattle.gql_meaning.specs.Completion.{Completed}
use Rattle.gql_meaning.specs.Responses.{Members}
use Rattle.gql_place.specs.Alike.{Same, SameItems, SameTree}
use Rattle.gql_place.specs.Filled.{fill, fill_step, item_of}
use Rattle.gql_place.specs.declared.place.Place.{Place}
use Rattle.gql_place.specs.declared.place.Tree.{Tree}
use Rattle.gql_place.specs.declared.place.Tree.TheVariants as tree
use Rattle.gql_place.specs.declared.shape.Shape.{roll-Shape, the_lemmas}
use Rattle.gql_place.specs.declared.shape.Shape.TheFolds.{fold-roll-Shape, ind-Shape, map-Shape}
use Rattle.gql_place.specs.declared.shape.Shape.TheOpen.{Shape-F}
use Rattle.gql_place.specs.declared.shape.Shape.TheVariants as shape
use Rattle.gql_place.proofs.PieceLemmas.{item_same, items_cons, items_of, items_refl, items_trans, list_same, same_refl, same_trans, tree_trans}
use Rattle.gql_resolve.specs.declared.field_value.FieldValue.{FieldValue}
use Rattle.gql_complete.specs.FillShape.{all_trees, AllMade, left_after, left_after_all, Made, made_all, made_of, tree_with}
use Rattle.gql_complete.specs.FoundObjects.{Bare, bare, bare_step, numbered, Spot, spots, spots_step}

module _ (pos : Pos) where
  made-Absent : (members : List Members) → made_of pos shape.Absent members ≡ record { tree = tree.Absent; left = members }
  made-Absent members = search (rules, the_lemmas)

  made-Leaf : (leaf : Value) (members : List Members) → made_of pos (shape.Leaf leaf) members ≡ record { tree = tree.Leaf leaf; left = members }
  made-Leaf leaf members = search (rules, the_lemmas)

  made-Fault : (error : Error) (members : List Members) → made_of pos (shape.Fault error) members ≡ record { tree = tree.Fault error; left = members }
  made-Fault error members = search (rules, the_lemmas)

  made-Object : (first : Members) (members : List Members) → made_of pos (shape.Object tt tt) (first ∷ members) ≡ record { tree = tree.Object first; left = members }
  made-Object first members = search (rules, the_lemmas)

  made-List : (non_null : Bool) (items : List Bare) (members : List Members)
      → made_of pos (shape.List non_null items) members
      ≡ record { tree = tree.List (made_all pos non_null (map (made_of pos) items) members).places; left = (made_all pos non_null (map (made_of pos) items) members).left }
  made-List non_null items members = search (rules, the_lemmas)

module _ {V : Type 0} (pos : Pos) (below : List ℕ → FieldValue V → Members) where
  -- the members of an object
  abbrev at : Spot V → Members
  at spot = below spot.object spot.parent

  -- what is made of a shape with its own members in front
  Fills : Completed V → Type 0
  Fills c = (path : List PathSegment) (rest : List Members) → made_of pos (bare c) (map at (spots c path) ++ rest) ≡ record { tree = fill pos below c; left = rest }

  module _ (E : Type 0) (s : E → Completed V) (is : (e : E) → Fills (s e)) where
    items_made : (non_null : Bool) (es : List E) (n : ℕ) (path : List PathSegment) (rest : List Members)
        → made_all pos non_null (map (made_of pos) (map bare (map s es))) (map at (numbered n (map spots (map s es)) path) ++ rest)
        ≡ record { places = map (item_of pos non_null) (map (fill pos below) (map s es)); left = rest }
    unfolding Fills
    items_made non_null [] n path rest = refl
    items_made non_null (e ∷ es) n path rest =
        let here : List PathSegment = path ++ segment.Index n ∷ [] in
        let own : List (Spot V) = spots (s e) here in
        let others : List (Spot V) = numbered (suc n) (map spots (map s es)) path in
        let ms : List (List Members → Made) = map (made_of pos) (map bare (map s es)) in
        let behind : List Members = map at others ++ rest in
        let split : map at (own ++ others) ++ rest ≡ map at own ++ behind
        = ap (λ xs. xs ++ rest) (map-append at own others) ∙ append_assoc (map at own) (map at others) rest in
        let next : Made → AllMade = λ r. record { places = item_of pos non_null r.tree ∷ (made_all pos non_null ms r.left).places; left = (made_all pos non_null ms r.left).left } in
        let add : AllMade → AllMade = λ r. record { places = item_of pos non_null (fill pos below (s e)) ∷ r.places; left = r.left } in
        ap (λ xs. next (made_of pos (bare (s e)) xs)) split
        ∙ ap next (is e here behind)
        ∙ ap add (items_made non_null es (suc n) path rest)

    middle : (y : Shape-F (List ℕ) (FieldValue V) E) (path : List PathSegment) (rest : List Members)
        → made_of pos (bare_step (map-Shape (List ℕ) (FieldValue V) (Completed V) Bare bare (map-Shape (List ℕ) (FieldValue V) E (Completed V) s y)))
        (map at (spots_step (map-Shape (List ℕ) (FieldValue V) (Completed V) (List PathSegment → List (Spot V)) spots (map-Shape (List ℕ) (FieldValue V) E (Completed V) s y)) path) ++ rest)
        ≡ record { tree = fill_step pos below (map-Shape (List ℕ) (FieldValue V) (Completed V) Tree (fill pos below) (map-Shape (List ℕ) (FieldValue V) E (Completed V) s y)); left = rest }
    middle Shape-F.Absent path rest = made-Absent pos rest
    middle (Shape-F.Leaf leaf) path rest = made-Leaf pos leaf rest
    middle (Shape-F.Fault error) path rest = made-Fault pos error rest
    middle (Shape-F.Object object parent) path rest = made-Object pos (below object parent) rest
    middle (Shape-F.List non_null es) path rest =
        made-List pos non_null (map bare (map s es)) (map at (numbered 0 (map spots (map s es)) path) ++ rest)
        ∙ ap (λ (r : AllMade). (let m : Made = record { tree = tree.List r.places; left = r.left } in m)) (items_made non_null es 0 path rest)

    layer : (y : Shape-F (List ℕ) (FieldValue V) E) → Fills (roll-Shape (List ℕ) (FieldValue V) (map-Shape (List ℕ) (FieldValue V) E (Completed V) s y))
    unfolding Fills
    layer y = λ path rest.
        let x : Shape-F (List ℕ) (FieldValue V) (Completed V) = map-Shape (List ℕ) (FieldValue V) E (Completed V) s y in
        (λ i. made_of pos (fold-roll-Shape (List ℕ) (FieldValue V) Bare bare_step x i)
        (map at (fold-roll-Shape (List ℕ) (FieldValue V) (List PathSegment → List (Spot V)) spots_step x i path) ++ rest))
        ∙ middle y path rest
        ∙ ap (λ t. (let m : Made = record { tree = t; left = rest } in m)) (sym (fold-roll-Shape (List ℕ) (FieldValue V) Tree (fill_step pos below) x))

  fills : (c : Completed V) → Fills c
  fills = ind-Shape (List ℕ) (FieldValue V) Fills (λ x y is. subst (λ z. Fills (roll-Shape (List ℕ) (FieldValue V) z)) is (layer _ (λ e. e.0) (λ e. e.1) y))

  -- a completed answer, filled with the members of its objects
  pub filled_is : (c : Completed V) (path : List PathSegment) (rest : List Members)
      → made_of pos (bare c) (map (λ (spot : Spot V). below spot.object spot.parent) (spots c path) ++ rest) ≡ record { tree = fill pos below c; left = rest }
  unfolding Fills
  filled_is c path rest = fills c path rest

-- one place among others that stand in both lists
pub items_at : (whole : Bool) (ps : List Place) (a b : Place) (rest : List Place) → Same whole a b → SameItems whole (ps ++ a ∷ rest) (ps ++ b ∷ rest)
items_at whole [] a b rest same = items_cons whole a b rest rest same (items_refl whole rest)
items_at whole (p ∷ ps) a b rest same = items_cons whole p p (ps ++ a ∷ rest) (ps ++ b ∷ rest) (same_refl whole p) (items_at whole ps a b rest same)

-- one more item gets its members
pub filled_more : (pos : Pos) (non_null whole : Bool) (places places' all : List Place) (its rest : List Bare) (item : Bare) (members members' : List Members) (t : Tree) (place : Place)
    → its ≡ item ∷ rest → SameTree whole t (tree_with pos item members) → members' ≡ left_after pos item members → Same whole place (item_of pos non_null t)
    → places' ≡ places ++ place ∷ [] → SameItems whole (places ++ all_trees pos non_null its members) all → SameItems whole (places' ++ all_trees pos non_null rest members') all
filled_more pos non_null whole places places' all its rest item members members' t place is tree_is left_is place_is added before =
    let next = item_of pos non_null (tree_with pos item members) in
    let others = all_trees pos non_null rest (left_after pos item members) in
    let now : places' ++ all_trees pos non_null rest members' ≡ places ++ place ∷ others
    = (λ i. added i ++ all_trees pos non_null rest (left_is i)) ∙ append_assoc places (place ∷ []) others in
    items_trans whole (places' ++ all_trees pos non_null rest members') (places ++ next ∷ others) all
    (subst (λ xs. SameItems whole xs (places ++ next ∷ others)) (sym now)
    (items_at whole places place next others
    (same_trans whole place (item_of pos non_null t) next place_is (item_same whole pos non_null t (tree_with pos item members) tree_is))))
    (subst (λ xs. SameItems whole (places ++ all_trees pos non_null xs members) all) is before)

pub left_more : (pos : Pos) (all : List Members) (its rest : List Bare) (item : Bare) (members members' : List Members)
    → its ≡ item ∷ rest → members' ≡ left_after pos item members → left_after_all pos its members ≡ all → left_after_all pos rest members' ≡ all
left_more pos all its rest item members members' is left_is before =
    ap (left_after_all pos rest) left_is ∙ ap (λ xs. left_after_all pos xs members) (sym is) ∙ before

-- which members are left is the same whether null may stand at items or not
pub left_same : (pos : Pos) (non_null : Bool) (items : List (List Members → Made)) (members : List Members)
    → (made_all pos false items members).left ≡ (made_all pos non_null items members).left
left_same pos non_null [] members = refl
left_same pos non_null (item ∷ items) members = left_same pos non_null items (item members).left

-- what a list leaves is what its items leave
pub left_list : (pos : Pos) (non_null : Bool) (items : List Bare) (members : List Members)
    → left_after_all pos items members ≡ left_after pos (shape.List non_null items) members
left_list pos non_null items members =
    left_same pos non_null (map (made_of pos) items) members ∙ sym (ap (λ (m : Made). m.left) (made-List pos non_null items members))

-- all items got theirs
pub filled_all : (pos : Pos) (non_null whole : Bool) (places all : List Place) (its : List Bare) (members : List Members) → its ≡ []
    → SameItems whole (places ++ all_trees pos non_null its members) all → SameItems whole places all
filled_all pos non_null whole places all its members none filled =
    subst (λ xs. SameItems whole xs all) (ap (λ xs. places ++ all_trees pos non_null xs members) none ∙ append-nil places) filled

-- none has any yet
pub filled_none : (whole : Bool) (places none all : List Place) → none ≡ [] → places ≡ all → SameItems whole (none ++ places) all
filled_none whole places none all is same = items_of whole (none ++ places) all (ap (λ xs. xs ++ places) is ∙ same)

-- what stands at the place of a list, of its items
pub list_made : (pos : Pos) (non_null whole : Bool) (items : List Bare) (members : List Members) (places : List Place) (t : Tree)
    → SameTree whole t (tree.List places) → SameItems whole places (all_trees pos non_null items members)
    → SameTree whole t (tree_with pos (shape.List non_null items) members)
list_made pos non_null whole items members places t listed filled =
    tree_trans whole t (tree.List places) (tree_with pos (shape.List non_null items) members) listed
    (subst (SameTree whole (tree.List places)) (sym (ap (λ (m : Made). m.tree) (made-List pos non_null items members)))
    (list_same whole places (all_trees pos non_null items members) filled))

pub left_all : (pos : Pos) (its items : List Bare) (members first : List Members) → its ≡ []
    → left_after_all pos its members ≡ left_after_all pos items first → members ≡ left_after_all pos items first
left_all pos its items members first none whole = ap (λ xs. left_after_all pos xs members) (sym none) ∙ whole

-- what holds is ensured where memory suffices
pub on_ok : {T E : Type 0} (r : Result T E) (P : Type 0) → P → OnOk r P
on_ok (Ok x) P p = p
on_ok (Err e) P p = tt
