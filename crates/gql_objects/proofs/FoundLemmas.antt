-- The objects of completed answers, stored one after another.
use Rattle.std.proofs.Common.{rules, ◌≡◌, ℕ, suc, ◌+◌, Bool, List, [], ◌∷◌, ◌++◌, length, map, take, refl, ap, sym, ◌∙◌, arith, append_assoc, length-append}
use Rattle.std.proofs.lemmas.List.{append-nil, map-append}
use Rattle.gql_base.specs.declared.error.Error.{Error}
use Rattle.gql_base.specs.declared.path_segment.PathSegment.{PathSegment}
use Rattle.gql_base.specs.declared.path_segment.PathSegment.TheVariants as segment
use Rattle.gql_base.specs.declared.value.Value.{Value}
use Rattle.gql_meaning.specs.Completion.{Completed}
use Rattle.gql_place.specs.declared.shape.Shape.{the_lemmas}
use Rattle.gql_place.specs.declared.shape.Shape.TheVariants as shape
use Rattle.gql_resolve.specs.declared.field_value.FieldValue.{FieldValue}
use Rattle.gql_objects.specs.Paths.{path_of, segment_of}
use Rattle.gql_complete.specs.FoundObjects.{Bare, bare, numbered, Spot, spots}
use Rattle.gql_objects.specs.declared.step.Step.{Step}
use Rattle.gql_objects.specs.declared.step.Step.TheVariants as step

module _ (V : Type 0) where
  spots-Absent : (path : List PathSegment) → spots {V = V} shape.Absent path ≡ []
  spots-Absent path = search (rules, the_lemmas)

  pub spots-Leaf : (leaf : Value) (path : List PathSegment) → spots {V = V} (shape.Leaf leaf) path ≡ []
  spots-Leaf leaf path = search (rules, the_lemmas)

  spots-Fault : (error : Error) (path : List PathSegment) → spots {V = V} (shape.Fault error) path ≡ []
  spots-Fault error path = search (rules, the_lemmas)

  pub spots-Object : (object : List ℕ) (parent : FieldValue V) (path : List PathSegment)
      → spots (shape.Object object parent) path ≡ record { object = object; parent = parent; path = path } ∷ []
  spots-Object object parent path = search (rules, the_lemmas)

  pub spots-List : (non_null : Bool) (items : List (Completed V)) (path : List PathSegment)
      → spots (shape.List non_null items) path ≡ numbered 0 (map spots items) path
  spots-List non_null items path = search (rules, the_lemmas)

  -- nothing is found where there is no object
  pub found_absent : (found : List (Spot V)) (path : List PathSegment) → found ≡ found ++ spots shape.Absent path
  found_absent found path = sym (append-nil found) ∙ ap (λ ss. found ++ ss) (sym (spots-Absent path))

  pub found_leaf : (found : List (Spot V)) (leaf : Value) (path : List PathSegment) → found ≡ found ++ spots (shape.Leaf leaf) path
  found_leaf found leaf path = sym (append-nil found) ∙ ap (λ ss. found ++ ss) (sym (spots-Leaf leaf path))

  pub found_fault : (found : List (Spot V)) (error : Error) (path : List PathSegment) → found ≡ found ++ spots (shape.Fault error) path
  found_fault found error path = sym (append-nil found) ∙ ap (λ ss. found ++ ss) (sym (spots-Fault error path))

  -- an object is found
  pub found_object : (found found' : List (Spot V)) (object : List ℕ) (parent : FieldValue V) (path : List PathSegment)
      → found' ≡ found ++ record { object = object; parent = parent; path = path } ∷ []
      → found' ≡ found ++ spots (shape.Object object parent) path
  found_object found found' object parent path added = added ∙ ap (λ ss. found ++ ss) (sym (spots-Object object parent path))

  pub found_list : (found found' : List (Spot V)) (non_null : Bool) (items : List (Completed V)) (path : List PathSegment)
      → found' ≡ found ++ numbered 0 (map spots items) path → found' ≡ found ++ spots (shape.List non_null items) path
  found_list found found' non_null items path added = added ∙ ap (λ ss. found ++ ss) (sym (spots-List non_null items path))

  -- one more item is stored
  pub found_more : (found found' all : List (Spot V)) (its rest : List (Completed V)) (item : Completed V) (left left' : List Bare)
      (b : Bare) (steps path : List Step) (own : List PathSegment)
      → its ≡ item ∷ rest → left' ≡ left ++ b ∷ [] → path ≡ steps ++ step.Index (length left) ∷ [] → own ≡ path_of path
      → found' ≡ found ++ spots item own
      → found ++ numbered (length left) (map spots its) (path_of steps) ≡ all
      → found' ++ numbered (length left') (map spots rest) (path_of steps) ≡ all
  found_more found found' all its rest item left left' b steps path own is left_is path_is own_is added before =
      let long : length left' ≡ suc (length left) = ap length left_is ∙ length-append left (b ∷ [])
      ∙ (let e : length left + 1 ≡ suc (length left) = omega arith in e) in
      let at : own ≡ path_of steps ++ segment.Index (length left) ∷ []
      = own_is ∙ ap path_of path_is ∙ map-append segment_of steps (step.Index (length left) ∷ []) in
      let others = numbered (suc (length left)) (map spots rest) (path_of steps) in
      (λ i. added i ++ numbered (long i) (map spots rest) (path_of steps))
      ∙ append_assoc found (spots item own) others
      ∙ ap (λ p. found ++ (spots item p ++ others)) at
      ∙ ap (λ xs. found ++ numbered (length left) (map spots xs) (path_of steps)) (sym is)
      ∙ before

  -- one more item is bare
  pub bare_more : (left left' all : List Bare) (its rest : List (Completed V)) (item : Completed V) (b : Bare) → its ≡ item ∷ rest
      → left' ≡ left ++ b ∷ [] → b ≡ bare item
      → left ++ map bare its ≡ all → left' ++ map bare rest ≡ all
  bare_more left left' all its rest item b is left_is bare_is before =
      ap (λ bs. bs ++ map bare rest) left_is
      ∙ append_assoc left (b ∷ []) (map bare rest)
      ∙ ap (λ x. left ++ x ∷ map bare rest) bare_is
      ∙ ap (λ xs. left ++ map bare xs) (sym is)
      ∙ before

take_front : {X : Type 0} (xs ys : List X) → take (length xs) (xs ++ ys) ≡ xs
take_front [] ys = refl
take_front (x ∷ xs) ys = ap (λ zs. x ∷ zs) (take_front xs ys)

-- a step that was added is taken off
pub steps_kept : (steps pushed stored new : List Step) (step : Step) (n : ℕ) → pushed ≡ steps ++ step ∷ [] → stored ≡ pushed
    → n ≡ length steps → new ≡ take n stored → new ≡ steps
steps_kept steps pushed stored new step n added same long cut =
    cut ∙ (λ i. take (long i) ((same ∙ added) i)) ∙ take_front steps (step ∷ [])
