-- Pairs in byte order of their names: what `set_in_order`, `unset_in` and a look-up come to at a place, and that they keep the order.
use Rattle.std.proofs.Common.{◌≡◌, ℕ, zero, suc, ◌+◌, ◌<◌, ◌≤◌, Bool, true, false, cond, not, List, [], ◌∷◌, ◌++◌, length, get_or}
use Rattle.std.proofs.Common.{slice_set, Some, None, Result, Ok, Err, MatchResult, Ordering, refl, ap, sym, ◌∙◌, subst, arith}
use Rattle.std.proofs.Common.{filter, Less, Equal, Greater}
use Rattle.std.proofs.lemmas.Cmp.{nat_list_cmp_total, tied_itself}
use Rattle.std.proofs.lemmas.List.{length-map}
use Rattle.std.proofs.Math.ListN.{get_or-map}
use Rattle.std.proofs.lemmas.List.Kept.{IsStrictlySortedBy-filter}
use Rattle.std.proofs.lemmas.List.Sorted.{searchable_from_sorted}
use Rattle.std.proofs.lemmas.Map.Keys.{Less-from_sorted, sorted_head, sorted_tail}
use Rattle.std.specs.Cmp.Lexicographic.{bytes_decides, texts_ties}
use Rattle.std.specs.List.{AllByRecursion, AllWithin, HoldsAt, insert, remove}
use Rattle.std.specs.List.Sorted.{IsStrictlySortedBy, IsSortedBy, IsBinarySearchResult, IsSearchInRange}
use Rattle.std.specs.Ordering.{ordering_reverse, is_lt, is_eq}
use Rattle.std.specs.Str.{bytes_eq}
use Rattle.gql_base.specs.ErrorExtensionValues.{name_order, precedes, IsInOrder, set_in_order, unset_in, StandsAt, BelongsAt}
use Rattle.gql_base.specs.Pairs.{names_of, under}

-- ---- names

reversed : (a b : List ℕ) → name_order a b ≡ ordering_reverse (name_order b a)
reversed a b = nat_list_cmp_total.antisymm a b

same-order : (a b : List ℕ) → a ≡ b → name_order a b ≡ Equal
same-order a b same = subst (λ n. name_order a n ≡ Equal) same (tied_itself nat_list_cmp_total a)

same-from-order : (a b : List ℕ) → name_order a b ≡ Equal → a ≡ b
same-from-order a b tied = (bytes_decides a b).0 (texts_ties a b ∙ ap is_eq tied)

test-of-order : (a b : List ℕ) → bytes_eq a b ≡ is_eq (ordering_reverse (name_order b a))
test-of-order a b = texts_ties a b ∙ ap is_eq (reversed a b)

module _ {T : Type 0} (name : List ℕ) where
  -- ---- names after this one

  none-before : (ps : List (List ℕ × T)) → AllByRecursion (λ q. name_order q.0 name ≡ Greater) ps → filter (λ p. precedes p.0 name) ps ≡ []
  none-before [] behind = refl
  none-before (p ∷ ps) (here, behind) = rw here (none-before ps behind)

  all-behind : (ps : List (List ℕ × T)) → AllByRecursion (λ q. name_order q.0 name ≡ Greater) ps → filter (λ p. precedes name p.0) ps ≡ ps
  all-behind [] behind = refl
  all-behind (p ∷ ps) (here, behind) =
      let after : name_order name p.0 ≡ Less = reversed name p.0 ∙ ap ordering_reverse here in
      rw after (ap (λ qs. p ∷ qs) (all-behind ps behind))

  all-others : (ps : List (List ℕ × T)) → AllByRecursion (λ q. name_order q.0 name ≡ Greater) ps → unset_in ps name ≡ ps
  all-others [] behind = refl
  all-others (p ∷ ps) (here, behind) =
      let other : bytes_eq name p.0 ≡ false = test-of-order name p.0 ∙ ap (λ o. is_eq (ordering_reverse o)) here in
      rw other (ap (λ qs. p ∷ qs) (all-others ps behind))

  none-under : (ps : List (List ℕ × T)) → AllByRecursion (λ q. name_order q.0 name ≡ Greater) ps → under name ps ≡ None
  none-under [] behind = refl
  none-under (p ∷ ps) (here, behind) =
      let other : bytes_eq name p.0 ≡ false = test-of-order name p.0 ∙ ap (λ o. is_eq (ordering_reverse o)) here in
      rw other (none-under ps behind)

  -- ---- a name before this one

  set-step : (p : List ℕ × T) (ps : List (List ℕ × T)) (value : T) → name_order p.0 name ≡ Less
      → set_in_order (p ∷ ps) name value ≡ p ∷ set_in_order ps name value
  set-step p ps value before =
      let after : name_order name p.0 ≡ Greater = reversed name p.0 ∙ ap ordering_reverse before in
      rw (before, after) refl

  unset-step : (p : List ℕ × T) (ps : List (List ℕ × T)) → name_order p.0 name ≡ Less → unset_in (p ∷ ps) name ≡ p ∷ unset_in ps name
  unset-step p ps before =
      let other : bytes_eq name p.0 ≡ false = test-of-order name p.0 ∙ ap (λ o. is_eq (ordering_reverse o)) before in
      rw other refl

  under-step : (p : List ℕ × T) (ps : List (List ℕ × T)) → name_order p.0 name ≡ Less → under name (p ∷ ps) ≡ under name ps
  under-step p ps before =
      let other : bytes_eq name p.0 ≡ false = test-of-order name p.0 ∙ ap (λ o. is_eq (ordering_reverse o)) before in
      rw other refl

  -- ---- where the name stands

  pub stands-within : (ps : List (List ℕ × T)) (i : ℕ) → StandsAt name ps i → i < length ps
  stands-within [] i at = absurd at
  stands-within (p ∷ ps) zero at = omega arith
  stands-within (p ∷ ps) (suc i) at = omega (arith, stands-within ps i at.1)

  pub set-standing : (ps : List (List ℕ × T)) (i : ℕ) (value : T) → StandsAt name ps i
      → set_in_order ps name value ≡ slice_set ps i (name, value)
  set-standing [] i value at = absurd at
  set-standing (p ∷ ps) zero value at =
      let here : name_order p.0 name ≡ Equal = same-order p.0 name at.0 in
      let back : name_order name p.0 ≡ Equal = same-order name p.0 (sym at.0) in
      rw (here, back) (λ j. none-before ps at.1 j ++ (name, value) ∷ all-behind ps at.1 j)
  set-standing (p ∷ ps) (suc i) value at = set-step p ps value at.0 ∙ ap (λ qs. p ∷ qs) (set-standing ps i value at.1)

  pub unset-standing : (ps : List (List ℕ × T)) (i : ℕ) → StandsAt name ps i → unset_in ps name ≡ remove ps i
  unset-standing [] i at = absurd at
  unset-standing (p ∷ ps) zero at =
      let same : bytes_eq name p.0 ≡ true = (bytes_decides name p.0).1 (sym at.0) in
      rw same (all-others ps at.1)
  unset-standing (p ∷ ps) (suc i) at = unset-step p ps at.0 ∙ ap (λ qs. p ∷ qs) (unset-standing ps i at.1)

  pub under-standing : (ps : List (List ℕ × T)) (i : ℕ) (x : List ℕ × T) → StandsAt name ps i → x ≡ get_or ps i x → Some x.1 ≡ under name ps
  under-standing [] i x at read = absurd at
  under-standing (p ∷ ps) zero x at read =
      let same : bytes_eq name p.0 ≡ true = (bytes_decides name p.0).1 (sym at.0) in
      rw same (ap (λ q. Some q.1) read)
  under-standing (p ∷ ps) (suc i) x at read = under-standing ps i x at.1 read ∙ sym (under-step p ps at.0)

  pub named-standing : (ps : List (List ℕ × T)) (i : ℕ) (x : List ℕ × T) → StandsAt name ps i → x ≡ get_or ps i x → x.0 ≡ name
  named-standing [] i x at read = absurd at
  named-standing (p ∷ ps) zero x at read = ap (λ q. q.0) read ∙ at.0
  named-standing (p ∷ ps) (suc i) x at read = named-standing ps i x at.1 read

  -- ---- where it belongs

  pub belongs-within : (ps : List (List ℕ × T)) (i : ℕ) → BelongsAt name ps i → i ≤ length ps
  belongs-within ps zero at = omega arith
  belongs-within [] (suc i) at = absurd at
  belongs-within (p ∷ ps) (suc i) at = omega (arith, belongs-within ps i at.1)

  pub set-belonging : (ps : List (List ℕ × T)) (i : ℕ) (value : T) → BelongsAt name ps i
      → set_in_order ps name value ≡ insert ps i (name, value)
  set-belonging ps zero value at = λ j. none-before ps at j ++ (name, value) ∷ all-behind ps at j
  set-belonging [] (suc i) value at = absurd at
  set-belonging (p ∷ ps) (suc i) value at = set-step p ps value at.0 ∙ ap (λ qs. p ∷ qs) (set-belonging ps i value at.1)

  pub unset-belonging : (ps : List (List ℕ × T)) (i : ℕ) → BelongsAt name ps i → unset_in ps name ≡ ps
  unset-belonging ps zero at = all-others ps at
  unset-belonging [] (suc i) at = absurd at
  unset-belonging (p ∷ ps) (suc i) at = unset-step p ps at.0 ∙ ap (λ qs. p ∷ qs) (unset-belonging ps i at.1)

  pub under-belonging : (ps : List (List ℕ × T)) (i : ℕ) → BelongsAt name ps i → None ≡ under name ps
  under-belonging ps zero at = sym (none-under ps at)
  under-belonging [] (suc i) at = absurd at
  under-belonging (p ∷ ps) (suc i) at = under-belonging ps i at.1 ∙ sym (under-step p ps at.0)

-- ---- the order

pub empty-in-order : (T : Type 0) (ps : List (List ℕ × T)) → ps ≡ [] → IsInOrder ps
unfolding IsStrictlySortedBy
empty-in-order T ps empty = subst IsInOrder (sym empty) tt

names-filtered : {T : Type 0} (q : List ℕ → Bool) (ps : List (List ℕ × T)) → names_of (filter (λ p. q p.0) ps) ≡ filter q (names_of ps)
names-filtered q [] = refl
names-filtered q (p ∷ ps) =
    let P : Bool → Type 0 = λ b. names_of (cond b (p ∷ filter (λ p. q p.0) ps) (filter (λ p. q p.0) ps)) ≡ cond b (p.0 ∷ filter q (names_of ps)) (filter q (names_of ps)) in
    elim (q p.0) as P [ true ↦ ap (λ ns. p.0 ∷ ns) (names-filtered q ps) | false ↦ names-filtered q ps ]

filtered-in-order : {T : Type 0} (q : List ℕ → Bool) (ps : List (List ℕ × T)) → IsInOrder ps → IsInOrder (filter (λ p. q p.0) ps)
filtered-in-order q ps ordered =
    subst (IsStrictlySortedBy name_order) (sym (names-filtered q ps)) (IsStrictlySortedBy-filter name_order q (names_of ps) ordered)

pub unset-in-order : {T : Type 0} (ps : List (List ℕ × T)) (name : List ℕ) → IsInOrder ps → IsInOrder (unset_in ps name)
unset-in-order ps name ordered = filtered-in-order (λ n. not (bytes_eq name n)) ps ordered

each-passes : {X : Type 0} (q : X → Bool) (xs : List X) → AllByRecursion (λ x. q x ≡ true) (filter q xs)
each-passes q [] = tt
each-passes q (x ∷ xs) =
    let P : Bool → Type 0 = λ b. (q x ≡ b) → AllByRecursion (λ y. q y ≡ true) (cond b (x ∷ filter q xs) (filter q xs)) in
    (elim (q x) as P [ true ↦ λ here. (here, each-passes q xs) | false ↦ λ here. each-passes q xs ]) refl

each-so : {X : Type 0} {P Q : X → Type 0} → ((x : X) → P x → Q x) → (xs : List X) → AllByRecursion P xs → AllByRecursion Q xs
each-so so [] all = tt
each-so so (x ∷ xs) (here, all) = (so x here, each-so so xs all)

each-joined : {X : Type 0} (P : X → Type 0) (xs ys : List X) → AllByRecursion P xs → AllByRecursion P ys → AllByRecursion P (xs ++ ys)
each-joined P [] ys first second = second
each-joined P (x ∷ xs) ys (here, first) second = (here, each-joined P xs ys first second)

is-less : (a b : List ℕ) → precedes a b ≡ true → name_order a b ≡ Less
is-less a b = elim (name_order a b) as (λ o. is_lt o ≡ true → o ≡ Less) [ Less ↦ λ e. refl | Equal ↦ λ e. cc | Greater ↦ λ e. cc ]

-- names before one, that name, and names after it
joined-in-order : (name : List ℕ) (front back : List (List ℕ)) → AllByRecursion (λ n. name_order n name ≡ Less) front
    → AllByRecursion (λ n. name_order name n ≡ Less) back → IsStrictlySortedBy name_order front → IsStrictlySortedBy name_order back
    → IsStrictlySortedBy name_order (front ++ name ∷ back)
unfolding IsStrictlySortedBy
joined-in-order name [] back before behind one two = (behind, two)
joined-in-order name (n ∷ ns) back (here, before) behind one two =
    let across : AllByRecursion (λ m. name_order n m ≡ Less) back = each-so (λ m b. nat_list_cmp_total.trans n name m here b) back behind in
    (each-joined (λ m. name_order n m ≡ Less) ns (name ∷ back) one.0 (here, across), joined-in-order name ns back before behind one.1 two)

names-joined : {T : Type 0} (ps qs : List (List ℕ × T)) → names_of (ps ++ qs) ≡ names_of ps ++ names_of qs
names-joined [] qs = refl
names-joined (p ∷ ps) qs = ap (λ ns. p.0 ∷ ns) (names-joined ps qs)

pub set-in-order : {T : Type 0} (ps : List (List ℕ × T)) (name : List ℕ) (value : T) → IsInOrder ps → IsInOrder (set_in_order ps name value)
set-in-order {T} ps name value ordered =
    let front : List (List ℕ × T) = filter (λ p. precedes p.0 name) ps in
    let back : List (List ℕ × T) = filter (λ p. precedes name p.0) ps in
    let is-front : names_of front ≡ filter (λ n. precedes n name) (names_of ps) = names-filtered (λ n. precedes n name) ps in
    let is-back : names_of back ≡ filter (λ n. precedes name n) (names_of ps) = names-filtered (λ n. precedes name n) ps in
    let before : AllByRecursion (λ n. name_order n name ≡ Less) (names_of front)
    = subst (AllByRecursion (λ n. name_order n name ≡ Less)) (sym is-front)
    (each-so (λ n passes. is-less n name passes) (filter (λ n. precedes n name) (names_of ps)) (each-passes (λ n. precedes n name) (names_of ps))) in
    let behind : AllByRecursion (λ n. name_order name n ≡ Less) (names_of back)
    = subst (AllByRecursion (λ n. name_order name n ≡ Less)) (sym is-back)
    (each-so (λ n passes. is-less name n passes) (filter (λ n. precedes name n) (names_of ps)) (each-passes (λ n. precedes name n) (names_of ps))) in
    subst (IsStrictlySortedBy name_order) (sym (names-joined front ((name, value) ∷ back)))
    (joined-in-order name (names_of front) (names_of back) before behind (filtered-in-order (λ n. precedes n name) ps ordered)
    (filtered-in-order (λ n. precedes name n) ps ordered))

-- ---- what a binary search answers

rises : {T : Type 0} (ps : List (List ℕ × T)) → IsInOrder ps → IsSortedBy (λ p q. is_lt (name_order p.0 q.0)) ps
rises ps ordered k d low high =
    let long : length (names_of ps) ≡ length ps = length-map ps (λ p. p.0) in
    let less : name_order (get_or (names_of ps) k d.0) (get_or (names_of ps) (k + 1) d.0) ≡ Less
    = Less-from_sorted name_order (names_of ps) k (k + 1) d.0 ordered (omega arith) (omega arith) in
    let read : name_order (get_or ps k d).0 (get_or ps (k + 1) d).0 ≡ Less
    = (λ i. name_order (sym (get_or-map (λ p. p.0) ps k d) i) (sym (get_or-map (λ p. p.0) ps (k + 1) d) i)) ∙ less in
    ap is_lt (reversed (get_or ps (k + 1) d).0 (get_or ps k d).0 ∙ ap ordering_reverse read)

module _ {T : Type 0} (name : List ℕ) where
  -- the order of a pair to the name
  abbrev pub to_name : List ℕ × T → Ordering
  to_name p = name_order p.0 name

  behind-found : (n : List ℕ) (ps : List (List ℕ × T)) → n ≡ name → AllByRecursion (λ m. name_order n m ≡ Less) (names_of ps)
      → AllByRecursion (λ q. name_order q.0 name ≡ Greater) ps
  behind-found n [] same below = tt
  behind-found n (p ∷ ps) same (here, below) =
      let turned : name_order name p.0 ≡ Less = subst (λ m. name_order m p.0 ≡ Less) same here in
      (reversed p.0 name ∙ ap ordering_reverse turned, behind-found n ps same below)

  before-found : (n : List ℕ) (ps : List (List ℕ × T)) (i : ℕ) → StandsAt name ps i
      → AllByRecursion (λ m. name_order n m ≡ Less) (names_of ps)
      → name_order n name ≡ Less
  before-found n [] i at below = absurd at
  before-found n (p ∷ ps) zero at (here, below) = subst (λ m. name_order n m ≡ Less) at.0 here
  before-found n (p ∷ ps) (suc i) at (here, below) = before-found n ps i at.1 below

  stands : (ps : List (List ℕ × T)) (i : ℕ) → IsInOrder ps → i < length ps → HoldsAt (λ p. to_name p ≡ Equal) ps i → StandsAt name ps i
  stands [] i ordered within at = absurd (omega arith)
  stands (p ∷ ps) zero ordered within at =
      let same : p.0 ≡ name = same-from-order p.0 name (at p) in
      (same, behind-found p.0 ps same (sorted_head name_order p.0 (names_of ps) ordered))
  stands (p ∷ ps) (suc i) ordered within at =
      let rest : StandsAt name ps i = stands ps i (sorted_tail name_order p.0 (names_of ps) ordered) (omega arith) at in
      (before-found p.0 ps i rest (sorted_head name_order p.0 (names_of ps) ordered), rest)

  behind-place : (ps : List (List ℕ × T)) → AllWithin (λ p. to_name p ≡ Greater) ps 0 (length ps)
      → AllByRecursion (λ q. name_order q.0 name ≡ Greater) ps
  behind-place [] behind = tt
  behind-place (p ∷ ps) behind =
      (behind 0 p (omega arith) (omega arith), behind-place ps (λ k d low high. behind (suc k) d (omega arith) (omega arith)))

  belongs : (ps : List (List ℕ × T)) (i : ℕ) → i ≤ length ps → AllWithin (λ p. to_name p ≡ Less) ps 0 i
      → AllWithin (λ p. to_name p ≡ Greater) ps i (length ps) → BelongsAt name ps i
  belongs ps zero within before behind = behind-place ps behind
  belongs [] (suc i) within before behind = absurd (omega arith)
  belongs (p ∷ ps) (suc i) within before behind = (
    before 0 p (omega arith) (omega arith),
    belongs ps i (omega arith) (λ k d low high. before (suc k) d (omega arith) (omega arith)) (λ k d low high. behind (suc k) d (omega arith) (omega arith)),
  )

  pub placed : (ps : List (List ℕ × T)) (r : Result ℕ ℕ) → IsInOrder ps → IsSearchInRange r (length ps) → IsBinarySearchResult to_name ps r
      → MatchResult r (StandsAt name ps) (BelongsAt name ps)
  placed ps (Ok i) ordered within at = stands ps i ordered within at
  placed ps (Err i) ordered within at =
      let rising : IsSortedBy (λ p q. is_lt (name_order p.0 q.0)) ps = rises ps ordered in
      let parts = at (searchable_from_sorted nat_list_cmp_total (λ p. p.0) ps name rising) in
      belongs ps i within parts.0 parts.1
