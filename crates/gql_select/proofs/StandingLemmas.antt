-- What stands in a part of a document is what stands in its parts, and what may still be looked at falls as
-- fragments are entered.
use Rattle.std.proofs.Common.{arith, rules, ◌≡◌, ℕ, zero, suc, ◌+◌, ◌≤◌, ◌<◌, Bool, true, false, cond, List, [], ◌∷◌, Some, drop, length, map, slice_get, slice_index_or, slice_set, refl, ap, ◌∙◌, ◌⊎◌, inl, inr, add-one}
use Rattle.gql_doc.specs.Depth.{field_set}
use Rattle.gql_doc.specs.declared.document.Field.{Field}
use Rattle.gql_doc.specs.declared.document.FragmentDefinition.{FragmentDefinition}
use Rattle.gql_doc.specs.declared.document.FragmentSpread.{FragmentSpread}
use Rattle.gql_doc.specs.declared.document.InlineFragment.{InlineFragment, out-InlineFragment}
use Rattle.gql_doc.specs.declared.document.Positioned.{Positioned}
use Rattle.gql_doc.specs.declared.document.Selection.{Selection, the_lemmas}
use Rattle.gql_doc.specs.declared.document.Selection.TheVariants as selections
use Rattle.gql_doc.specs.declared.document.SelectionSet.{SelectionSet, out-SelectionSet}
use Rattle.gql_select.specs.Standing.{count_of, is_marked, standing, standing_among, standing_under, standing_unless, total, unentered}

map_twice : {A B C : Type 0} (f : B → C) (g : A → B) (xs : List A) → map f (map g xs) ≡ map (λ x. f (g x)) xs
map_twice f g [] = refl
map_twice f g (x ∷ xs) = ap (λ cs. f (g x) ∷ cs) (map_twice f g xs)

-- in a set stands what stands in its selections
pub standing_items : (set : SelectionSet) → standing set ≡ standing_among (out-SelectionSet set).items
standing_items set = search (rules, the_lemmas, map_twice)

-- a selection is one more than what stands under it
pub count_field : (selection : Selection) (field : Positioned Field) → selection ≡ selections.Field field
    → count_of selection ≡ suc (standing (field_set field).node)
count_field selection field is = rw is (search (rules, the_lemmas))

pub count_spread : (selection : Selection) (spread : Positioned FragmentSpread) → selection ≡ selections.FragmentSpread spread
    → count_of selection ≡ 1
count_spread selection spread is = rw is (search (rules, the_lemmas))

pub count_inline : (selection : Selection) (inline : Positioned InlineFragment) → selection ≡ selections.InlineFragment inline
    → count_of selection ≡ suc (standing (out-InlineFragment inline.node).selection_set.node)
count_inline selection inline is = rw is (search (rules, the_lemmas))

left_next : {A : Type 0} (f : A → ℕ) (xs : List A) (i : ℕ) (x : A) → slice_get xs i ≡ Some x
    → total (map f (drop i xs)) ≡ f x + total (map f (drop (suc i) xs))
left_next f [] i x at = cc
left_next f (y ∷ xs) zero x at =
    let same : y ≡ x = cc in
    ap (λ z. f z + total (map f xs)) same
left_next f (y ∷ xs) (suc i) x at = left_next f xs i x at

-- what is left of some numbers, by the next of them
pub left_more : {A : Type 0} (f : A → ℕ) (xs : List A) (i : ℕ) (x : A) → slice_get xs i ≡ Some x
    → total (map f (drop i xs)) ≡ f x + total (map f (drop (i + 1) xs))
left_more f xs i x at = rw add-one (left_next f xs i x at)

part_less : (a b : Bool) (n : ℕ) → (a ≡ true → b ≡ true) → cond b 0 n ≤ cond a 0 n
part_less true true n so = omega arith
part_less true false n so = let e : false ≡ true = so refl in cc
part_less false true n so = omega arith
part_less false false n so = omega arith

-- where more places pass, less stands in the others
pub unless_less : (fragments : List (Positioned FragmentDefinition)) (a b : ℕ → Bool) → ((k : ℕ) → a k ≡ true → b k ≡ true)
    → standing_unless b fragments ≤ standing_unless a fragments
unless_less [] a b so = omega arith
unless_less (f ∷ fragments) a b so =
    let here = part_less (a 0) (b 0) (standing_under f) (so 0) in
    let rest = unless_less fragments (λ k. a (suc k)) (λ k. b (suc k)) (λ k. so (suc k)) in
    omega (arith, here, rest)

-- a place that passes now takes what stands in its fragment away
pub unless_drops : (fragments : List (Positioned FragmentDefinition)) (a b : ℕ → Bool) (place : ℕ) (fragment : Positioned FragmentDefinition)
    → slice_get fragments place ≡ Some fragment → a place ≡ false → b place ≡ true → ((k : ℕ) → a k ≡ true → b k ≡ true)
    → standing_unless b fragments + standing_under fragment ≤ standing_unless a fragments
unless_drops [] a b place fragment at fails passes so = cc
unless_drops (f ∷ fragments) a b zero fragment at fails passes so =
    let same : f ≡ fragment = cc in
    let size : standing_under f ≡ standing_under fragment = ap standing_under same in
    let old : cond (a 0) 0 (standing_under f) ≡ standing_under f = ap (λ t. cond t 0 (standing_under f)) fails in
    let new : cond (b 0) 0 (standing_under f) ≡ 0 = ap (λ t. cond t 0 (standing_under f)) passes in
    let rest = unless_less fragments (λ k. a (suc k)) (λ k. b (suc k)) (λ k. so (suc k)) in
    omega (arith, size, old, new, rest)
unless_drops (f ∷ fragments) a b (suc place) fragment at fails passes so =
    let here = part_less (a 0) (b 0) (standing_under f) (so 0) in
    let rest = unless_drops fragments (λ k. a (suc k)) (λ k. b (suc k)) place fragment at fails passes (λ k. so (suc k)) in
    omega (arith, here, rest)

-- what stands in a fragment whose place doesn't pass is among it
pub unless_has : (fragments : List (Positioned FragmentDefinition)) (a : ℕ → Bool) (place : ℕ) (fragment : Positioned FragmentDefinition)
    → slice_get fragments place ≡ Some fragment → a place ≡ false → standing_under fragment ≤ standing_unless a fragments
unless_has fragments a place fragment at fails =
    let most = unless_drops fragments a (λ k. true) place fragment at fails refl (λ k h. refl) in
    omega (arith, most)

-- and there are no others
pub unless_most : (fragments : List (Positioned FragmentDefinition)) (a : ℕ → Bool)
    → standing_unless a fragments ≤ total (map standing_under fragments)
unless_most [] a = omega arith
unless_most (f ∷ fragments) a =
    let here : cond (a 0) 0 (standing_under f) ≤ standing_under f = part (a 0) (standing_under f) in
    let rest = unless_most fragments (λ k. a (suc k)) in
    omega (arith, here, rest)
  where
    part : (t : Bool) (n : ℕ) → cond t 0 n ≤ n
    part true n = omega arith
    part false n = omega arith

-- what stands at a place of a list after a write
pub set_at : {A : Type 0} (xs : List A) (i j : ℕ) (v d : A)
    → (slice_index_or (slice_set xs i v) j d ≡ slice_index_or xs j d) ⊎ ((i ≡ j) × (slice_index_or (slice_set xs i v) j d ≡ v))
set_at [] i j v d = inl refl
set_at (x ∷ xs) zero zero v d = inr (refl, refl)
set_at (x ∷ xs) zero (suc j) v d = inl refl
set_at (x ∷ xs) (suc i) zero v d = inl refl
set_at (x ∷ xs) (suc i) (suc j) v d = elim (set_at xs i j v d) [ inl h ↦ inl h | inr h ↦ inr (ap suc h.0, h.1) ]

pub set_here : {A : Type 0} (xs : List A) (i : ℕ) (v d : A) → i < length xs → slice_index_or (slice_set xs i v) i d ≡ v
set_here [] i v d within = absurd (omega arith)
set_here (x ∷ xs) zero v d within = refl
set_here (x ∷ xs) (suc i) v d within = set_here xs i v d (omega arith)

-- a fragment that is entered takes what stands in it away
pub entered_counted : (fragments : List (Positioned FragmentDefinition)) (entered : List Bool) (place : ℕ) (fragment : Positioned FragmentDefinition)
    → slice_get fragments place ≡ Some fragment → place < length entered → is_marked entered place ≡ false
    → unentered fragments (slice_set entered place true) + standing_under fragment ≤ unentered fragments entered
entered_counted fragments entered place fragment at within new =
    unless_drops fragments (is_marked entered) (is_marked (slice_set entered place true)) place fragment at new (set_here entered place true false within)
    (λ k so. elim (set_at entered place k true false) [ inl same ↦ same ∙ so | inr (is, here) ↦ here ])
