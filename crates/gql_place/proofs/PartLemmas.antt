-- Folds of places, part by part.
use Rattle.std.proofs.Common.{rules, ◌≡◌, ℕ, zero, suc, ◌+◌, ◌<◌, List, [], ◌∷◌, ◌++◌, length, map, take, Option, Some, None, option_map, slice_get, refl, ap, sym, ◌∙◌, arith, append_assoc}
use Rattle.std.specs.List.{flat_map, zip}
use Rattle.std.specs.Prelude.{MatchOption}
use Rattle.std.proofs.lemmas.List.{append-nil, length-map, length-take-le}
use Rattle.gql_base.specs.Pairs.{names_of, values_of}
use Rattle.gql_base.specs.declared.path_segment.PathSegment.{PathSegment}
use Rattle.gql_base.specs.declared.path_segment.PathSegment.TheVariants.{Field, Index}
use Rattle.gql_base.specs.declared.server_error.ServerError.{ServerError}
use Rattle.gql_base.specs.declared.value.Value.{Value}
use Rattle.gql_request.specs.declared.header_op.HeaderOp.{HeaderOp}
use Rattle.gql_place.specs.Steps.{path_of, segment_of}
use Rattle.gql_place.specs.declared.place_faults.Step.{Step}
use Rattle.gql_place.specs.declared.place.Place.{Place}
use Rattle.gql_place.specs.declared.place.Tree.{the_lemmas}
use Rattle.gql_place.specs.declared.place.Tree.TheVariants as tree
use Rattle.gql_place.specs.Faults.{AtPath, beneath_items, faults_at, item_faults, member_faults}
use Rattle.gql_place.specs.HeaderOps.{ops_of, tree_ops}
use Rattle.gql_place.specs.Raised.{all_items, member_values, value_at, with_first}

pub flat_map_of_map : {A B C : Type 0} (h : B → List C) (f : A → B) (xs : List A) → flat_map h (map f xs) ≡ flat_map (λ x. h (f x)) xs
flat_map_of_map h f [] = refl
flat_map_of_map h f (x ∷ xs) = ap (λ rest. h (f x) ++ rest) (flat_map_of_map h f xs)

-- one more item of a list that is gone through
pub next_item : {A : Type 0} (xs : List A) (i : ℕ) (x : A) → slice_get xs i ≡ Some x → take (i + 1) xs ≡ take i xs ++ x ∷ []
next_item [] i x at = cc
next_item (y ∷ ys) zero x at = let same : y ≡ x = cc in ap (λ z. z ∷ []) same
next_item (y ∷ ys) (suc i) x at =
    ap (λ k. take k (y ∷ ys)) (let e : suc i + 1 ≡ suc (i + 1) = omega arith in e) ∙ ap (λ zs. y ∷ zs) (next_item ys i x at)

flat_map_end : {A B : Type 0} (f : A → List B) (xs : List A) (x : A) → flat_map f (xs ++ x ∷ []) ≡ flat_map f xs ++ f x
flat_map_end f [] x = append-nil (f x)
flat_map_end f (y ∷ ys) x = ap (λ rest. f y ++ rest) (flat_map_end f ys x) ∙ sym (append_assoc (f y) (flat_map f ys) (f x))

-- what is appended for one more item is appended for all so far
pub next_of : {A B : Type 0} (f : A → List B) (xs : List A) (i : ℕ) (x : A) (old grown new : List B) → slice_get xs i ≡ Some x
    → grown ≡ old ++ flat_map f (take i xs) → new ≡ grown ++ f x → new ≡ old ++ flat_map f (take (i + 1) xs)
next_of f xs i x old grown new at before step =
    step ∙ ap (λ g. g ++ f x) before ∙ append_assoc old (flat_map f (take i xs)) (f x)
    ∙ ap (λ rest. old ++ rest) (sym (ap (flat_map f) (next_item xs i x at) ∙ flat_map_end f (take i xs) x))

members-ops : (members : List (List ℕ × Place)) → flat_map {X = List ℕ × List HeaderOp} (λ member. member.1) (map (λ (p : List ℕ × Place). (p.0, ops_of p.1)) members) ≡ flat_map {X = List ℕ × Place} (λ member. ops_of member.1) members
members-ops [] = refl
members-ops (m ∷ ms) = ap (λ rest. ops_of m.1 ++ rest) (members-ops ms)

pub ops_of_object : (members : List (List ℕ × Place)) → tree_ops (tree.Object members) ≡ flat_map {X = List ℕ × Place} (λ member. ops_of member.1) members
ops_of_object members = search (rules, the_lemmas, members-ops)

pub ops_of_list : (items : List Place) → tree_ops (tree.List items) ≡ flat_map ops_of items
ops_of_list items = search (rules, the_lemmas, flat_map_of_map (λ ops. ops) ops_of items)

map_end : {A B : Type 0} (f : A → B) (xs : List A) (x : A) → map f (xs ++ x ∷ []) ≡ map f xs ++ f x ∷ []
map_end f [] x = refl
map_end f (y ∷ ys) x = ap (λ rest. f y ∷ rest) (map_end f ys x)

names_kept : (ms : List (List ℕ × Place)) → names_of (map (λ m. (m.0, value_at m.1)) ms) ≡ names_of ms
names_kept [] = refl
names_kept (m ∷ ms) = ap (λ rest. m.0 ∷ rest) (names_kept ms)

values_kept : (ms : List (List ℕ × Place)) → values_of (map (λ m. (m.0, value_at m.1)) ms) ≡ map (λ m. value_at m.1) ms
values_kept [] = refl
values_kept (m ∷ ms) = ap (λ rest. value_at m.1 ∷ rest) (values_kept ms)

-- the values of members, all there or not
pub members_there : (ms : List (List ℕ × Place)) (os : Option (List Value)) → all_items (map (λ m. value_at m.1) ms) ≡ os
    → member_values ms ≡ option_map (zip (names_of ms)) os
members_there ms os all =
    (λ i. option_map (zip (names_kept ms i)) (all_items (values_kept ms i))) ∙ ap (option_map (zip (names_of ms))) all

first_long : (w : Value) (rest : Option (List Value)) (vs : List Value) (n : ℕ) → with_first w rest ≡ Some vs → ((us : List Value) → rest ≡ Some us → length us ≡ n)
    → length vs ≡ suc n
first_long w None vs n e long = cc
first_long w (Some us) vs n e long = let same : vs ≡ w ∷ us = cc in ap length same ∙ ap suc (long us refl)

by_first : (o : Option Value) (os : List (Option Value)) (vs : List Value) (n : ℕ) → all_items (o ∷ os) ≡ Some vs
    → ((us : List Value) → all_items os ≡ Some us → length us ≡ n) → length vs ≡ suc n
by_first None os vs n e long = cc
by_first (Some w) os vs n e long = first_long w (all_items os) vs n e long

pub all_long : {A : Type 0} (f : A → Option Value) (xs : List A) (vs : List Value) → all_items (map f xs) ≡ Some vs → length vs ≡ length xs
all_long f [] vs e = let none : vs ≡ [] = cc in ap length none
all_long f (x ∷ xs) vs e =
    by_first (f x) (map f xs) vs (length xs) e (all_long f xs)

members-faults : (path : List PathSegment) (ms : List (List ℕ × Place)) → member_faults ms path ≡ flat_map (λ p. faults_at p.1 (path ++ Field p.0 ∷ [])) ms
members-faults path [] = refl
members-faults path (m ∷ ms) = ap (λ rest. faults_at m.1 (path ++ Field m.0 ∷ []) ++ rest) (members-faults path ms)

-- the errors of one more member
pub next_member : (ms : List (List ℕ × Place)) (i : ℕ) (m : List ℕ × Place) (path : List PathSegment) (old grown new : List ServerError)
    → slice_get ms i ≡ Some m → grown ≡ old ++ member_faults (take i ms) path → new ≡ grown ++ faults_at m.1 (path ++ Field m.0 ∷ [])
    → new ≡ old ++ member_faults (take (i + 1) ms) path
next_member ms i m path old grown new at before step =
    let is : (xs : List (List ℕ × Place)) → member_faults xs path ≡ flat_map (λ p. faults_at p.1 (path ++ Field p.0 ∷ [])) xs
    = members-faults path in
    next_of (λ p. faults_at p.1 (path ++ Field p.0 ∷ [])) ms i m old grown new at (before ∙ ap (λ rest. old ++ rest) (is (take i ms))) step
    ∙ ap (λ rest. old ++ rest) (sym (is (take (i + 1) ms)))

never_nil : {A : Type 0} (xs : List A) (x : A) → xs ++ x ∷ [] ≡ [] → ⊥
never_nil [] x e = cc
never_nil (y ∷ ys) x e = cc

front_same : {A : Type 0} (xs ys : List A) (x y : A) → xs ++ x ∷ [] ≡ ys ++ y ∷ [] → xs ≡ ys
front_same [] [] x y e = refl
front_same [] (b ∷ ys) x y e = let tail : ys ++ y ∷ [] ≡ [] = cc in absurd (never_nil ys y tail)
front_same (a ∷ xs) [] x y e = let tail : xs ++ x ∷ [] ≡ [] = cc in absurd (never_nil xs x tail)
front_same (a ∷ xs) (b ∷ ys) x y e =
    let head : a ≡ b = cc in
    let tail : xs ++ x ∷ [] ≡ ys ++ y ∷ [] = cc in
    λ i. head i ∷ front_same xs ys x y tail i

-- steps that lose the one that they got are the path before
back : (path : List PathSegment) (behind after : List Step) (segment : PathSegment) (popped : Option Step) → path_of behind ≡ path ++ segment ∷ []
    → MatchOption popped ((behind ≡ []) × (after ≡ [])) (λ last. behind ≡ after ++ last ∷ []) → path_of after ≡ path
back path behind after segment None grown (none, rest) = absurd (never_nil path segment (sym grown ∙ ap path_of none))
back path behind after segment (Some last) grown popped =
    front_same (path_of after) path (segment_of last) segment (sym (map_end segment_of after last) ∙ sym (ap path_of popped) ∙ grown)

items_end : (n : ℕ) (ps : List AtPath) (p : AtPath) (path : List PathSegment)
    → beneath_items n (ps ++ p ∷ []) path ≡ beneath_items n ps path ++ p (path ++ Index (n + length ps) ∷ [])
items_end n [] p path =
    append-nil (p (path ++ Index n ∷ [])) ∙ ap (λ k. p (path ++ Index k ∷ [])) (let e : n ≡ n + 0 = omega arith in e)
items_end n (q ∷ qs) p path =
    ap (λ rest. q (path ++ Index n ∷ []) ++ rest) (items_end (n + 1) qs p path)
    ∙ sym (append_assoc (q (path ++ Index n ∷ [])) (beneath_items (n + 1) qs path) (p (path ++ Index (n + 1 + length qs) ∷ [])))
    ∙ ap (λ k. (q (path ++ Index n ∷ []) ++ beneath_items (n + 1) qs path) ++ p (path ++ Index k ∷ [])) (let e : n + 1 + length qs ≡ n + length (q ∷ qs) = omega arith in e)

taken-long : {A : Type 0} (xs : List A) (i : ℕ) → i < length xs → length (take i xs) ≡ i
taken-long xs i within = length-take-le i xs (omega arith)

-- the errors of one more item
pub next_fault : (xs : List Place) (i : ℕ) (x : Place) (path : List PathSegment) (old grown new : List ServerError)
    → slice_get xs i ≡ Some x → i < length xs → grown ≡ old ++ item_faults (take i xs) path → new ≡ grown ++ faults_at x (path ++ Index i ∷ [])
    → new ≡ old ++ item_faults (take (i + 1) xs) path
next_fault xs i x path old grown new at within before step =
    let long : length (map faults_at (take i xs)) ≡ i = length-map (take i xs) faults_at ∙ taken-long xs i within in
    let more : item_faults (take (i + 1) xs) path ≡ item_faults (take i xs) path ++ faults_at x (path ++ Index i ∷ [])
    = ap (λ ys. beneath_items 0 (map faults_at ys) path) (next_item xs i x at)
    ∙ ap (λ ys. beneath_items 0 ys path) (map_end faults_at (take i xs) x)
    ∙ items_end 0 (map faults_at (take i xs)) (faults_at x) path
    ∙ ap (λ k. item_faults (take i xs) path ++ faults_at x (path ++ Index k ∷ [])) (let e : 0 + length (map faults_at (take i xs)) ≡ i = omega arith in e) in
    step ∙ ap (λ g. g ++ faults_at x (path ++ Index i ∷ [])) before
    ∙ append_assoc old (item_faults (take i xs) path) (faults_at x (path ++ Index i ∷ [])) ∙ ap (λ rest. old ++ rest) (sym more)

-- one more member, with the path back as it was
pub member_preserved : (ms : List (List ℕ × Place)) (i : ℕ) (m : List ℕ × Place) (path : List PathSegment) (now pushed behind after : List Step) (step : Step)
    (old grown new : List ServerError) (popped : Option Step) → slice_get ms i ≡ Some m
    → (grown ≡ old ++ member_faults (take i ms) path) × (path_of now ≡ path) → segment_of step ≡ Field m.0 → pushed ≡ now ++ step ∷ []
    → new ≡ grown ++ faults_at m.1 (path_of pushed) → path_of behind ≡ path_of pushed
    → MatchOption popped ((behind ≡ []) × (after ≡ [])) (λ last. behind ≡ after ++ last ∷ [])
    → (new ≡ old ++ member_faults (take (i + 1) ms) path) × (path_of after ≡ path)
member_preserved ms i m path now pushed behind after step old grown new popped at (before, here) named entered made stays left =
    let there : path_of pushed ≡ path ++ Field m.0 ∷ [] = ap path_of entered ∙ map_end segment_of now step ∙ (λ j. here j ++ named j ∷ []) in (
      next_member ms i m path old grown new at before (made ∙ ap (λ p. grown ++ faults_at m.1 p) there),
      back path behind after (Field m.0) popped (stays ∙ there) left,
    )

pub item_preserved : (xs : List Place) (i : ℕ) (x : Place) (path : List PathSegment) (now pushed behind after : List Step) (step : Step)
    (old grown new : List ServerError) (popped : Option Step) → slice_get xs i ≡ Some x → i < length xs
    → (grown ≡ old ++ item_faults (take i xs) path) × (path_of now ≡ path) → segment_of step ≡ Index i → pushed ≡ now ++ step ∷ []
    → new ≡ grown ++ faults_at x (path_of pushed) → path_of behind ≡ path_of pushed
    → MatchOption popped ((behind ≡ []) × (after ≡ [])) (λ last. behind ≡ after ++ last ∷ [])
    → (new ≡ old ++ item_faults (take (i + 1) xs) path) × (path_of after ≡ path)
item_preserved xs i x path now pushed behind after step old grown new popped at within (before, here) named entered made stays left =
    let there : path_of pushed ≡ path ++ Index i ∷ [] = ap path_of entered ∙ map_end segment_of now step ∙ (λ j. here j ++ named j ∷ []) in (
      next_fault xs i x path old grown new at within before (made ∙ ap (λ p. grown ++ faults_at x p) there),
      back path behind after (Index i) popped (stays ∙ there) left,
    )
