-- A walk that enters each fragment once, step by step.
use Rattle.std.proofs.Common.{rules, ◌≡◌, ◌≤◌, ◌<◌, ◌+◌, ◌-◌, ℕ, zero, suc, ◌||◌, Bool, true, false, cond, List, [], ◌∷◌, ◌++◌, length, take, drop, Option, Some, None, slice_get, get_or, fold, refl, sym, ap, ◌∙◌, subst, inl, inr, arith}
use Rattle.std.proofs.lemmas.Bool.{cases_eq}
use Rattle.std.proofs.lemmas.Grind.{flat_map-append, fold-append}
use Rattle.std.proofs.lemmas.List.{append-nil, drop_more, take_all, take_more}
use Rattle.std.proofs.lemmas.Option.{slice_get-map}
use Rattle.std.specs.Borrow.{Bor}
use Rattle.std.specs.Cmp.Lexicographic.{bytes_decides}
use Rattle.std.specs.Option.{option_map, option_map_or}
use Rattle.std.specs.Str.{bytes_eq}
use Rattle.gql_base.proofs.NamesLemmas.{next}
use Rattle.gql_base.proofs.PairLemmas.{under_in_place, under_no_place}
use Rattle.gql_base.specs.Names.{place_of}
use Rattle.gql_base.specs.Pairs.{names_of, under, values_of}
use Rattle.gql_doc.specs.Depth.{fragment_set, Fragments, selections_of}
use Rattle.gql_doc.specs.declared.document.Field.{Field}
use Rattle.gql_doc.specs.declared.document.FragmentDefinition.{FragmentDefinition}
use Rattle.gql_doc.specs.declared.document.FragmentSpread.{FragmentSpread}
use Rattle.gql_doc.specs.declared.document.Positioned.{Positioned}
use Rattle.gql_doc.specs.declared.document.Selection.{out-Selection, Selection, the_lemmas}
use Rattle.gql_doc.specs.declared.document.Selection.TheOpen.{Selection-F}
use Rattle.gql_doc.specs.declared.document.Selection.TheVariants as selection
use Rattle.gql_doc.specs.declared.document.SelectionSet.{out-SelectionSet, SelectionSet}
use Rattle.gql_select.proofs.OccurrenceLemmas.{with_one_more}
use Rattle.gql_select.proofs.DocumentLemmas.{set_of_both}
use Rattle.gql_select.proofs.StandingLemmas.{unless_drops, unless_most}
use Rattle.gql_select.specs.Behind.{all_behind}
use Rattle.gql_select.specs.Collected.{own_selections}
use Rattle.gql_select.specs.Documents.{both, with_others}
use Rattle.gql_select.specs.Once.{is_entered, nothing, once_of, once_spread, Walk}
use Rattle.gql_select.specs.Standing.{count_of, is_marked, standing_among, standing_in, standing_under}
use Rattle.gql_collect.proofs.OccurrenceLemmas.{behind_more}
use Rattle.gql_collect.specs.CollectFields.{setting_by}
use Rattle.gql_collect.specs.CollectOnce.{IsAt, left_in, selections_of_all, walked}
use Rattle.gql_collect.specs.declared.collect.Collector.{Collector}
use Rattle.gql_collect.specs.declared.collect_once.Found.{Found}

-- Marks.

-- the name at the place of a name
place_name : (name : List ℕ) (names : List (List ℕ)) (place : ℕ) → place_of name names ≡ Some place → slice_get names place ≡ Some name
place_name name [] place at = cc
place_name name (x ∷ xs) place at =
    let P : Bool → Type 0 = λ b. (b ≡ true → name ≡ x) → cond b (Some 0) (next (place_of name xs)) ≡ Some place → slice_get (x ∷ xs) place ≡ Some name in
    (elim (bytes_eq name x) as P [
      | true ↦ λ same h. (let first : 0 ≡ place = ap (λ o. option_map_or (λ k. k) o 0) h in
          subst (λ k. slice_get (x ∷ xs) k ≡ Some name) first (ap Some (sym (same refl))))
      | false ↦ λ same h. later (λ j is. place_name name xs j is) (place_of name xs) refl h
    ]) (bytes_decides name x).0 at
  where
    later : ((j : ℕ) → place_of name xs ≡ Some j → slice_get xs j ≡ Some name) → (o : Option ℕ) → place_of name xs ≡ o → next o ≡ Some place
        → slice_get (x ∷ xs) place ≡ Some name
    later further None is h = cc
    later further (Some j) is h =
        let more : suc j ≡ place = ap (λ o. option_map_or (λ k. k) o 0) h in
        subst (λ k. slice_get (x ∷ xs) k ≡ Some name) more (further j is)

one_name : (name other : List ℕ) (names : List (List ℕ)) (place : ℕ) → place_of name names ≡ Some place → place_of other names ≡ Some place → name ≡ other
one_name name other names place at at' =
    let same : Some name ≡ Some other = sym (place_name name names place at) ∙ place_name other names place at' in
    ap (λ o. option_map_or (λ n. n) o name) same

-- the fragment at a place
pub fragment_at : (fragments : Fragments) (place : ℕ) (name : List ℕ) (fragment : Positioned FragmentDefinition) → slice_get fragments place ≡ Some (name, fragment)
    → slice_get (values_of fragments) place ≡ Some fragment
fragment_at fragments place name fragment at = slice_get-map (λ p. p.1) fragments place ∙ ap (option_map (λ p. p.1)) at

-- What was found.

pub at_nothing : (fragments : Fragments) (found : Found) → found.entered.items ≡ [] → found.fields.items ≡ [] → IsAt fragments nothing found
at_nothing fragments found none empty = record {
  marked = λ name place at. ap (λ entered. is_marked entered place) none;
  fields_are = ap all_behind empty;
}

pub left_most : (fragments : Fragments) (found : Found) → left_in fragments found ≤ standing_in fragments
left_most fragments found = unless_most (values_of fragments) (is_marked found.entered.items)

module _ (fragments : Fragments) (place : ℕ) (old new : Found)
    (here : is_marked new.entered.items place ≡ true)
    (others : (other : ℕ) → (other ≡ place → ⊥) → is_marked new.entered.items other ≡ is_marked old.entered.items other) where
  -- one more fragment is entered
  pub at_entered : (walk : Walk) (name : List ℕ) → place_of name (names_of fragments) ≡ Some place → new.fields.items ≡ old.fields.items
      → IsAt fragments walk old → IsAt fragments (record walk { entered = name ∷ walk.entered }) new
  at_entered walk name at kept is = record {
    marked = λ other q at'. elim (cases_eq q place) [
      | inl same ↦
          (let named : other ≡ name = one_name other name (names_of fragments) place (subst (λ k. place_of other (names_of fragments) ≡ Some k) same at') at in
          ap (is_marked new.entered.items) same ∙ here ∙ sym (ap (λ b. b || is_entered other walk) ((bytes_decides other name).1 named)))
      | inr apart ↦
          others q apart ∙ is.marked other q at'
          ∙ sym (ap (λ b. b || is_entered other walk) (differs other name (λ named. apart (one_place other q named at'))))
    ];
    fields_are = ap all_behind kept ∙ is.fields_are;
  }
    where
      differs : (a b : List ℕ) → (a ≡ b → ⊥) → bytes_eq a b ≡ false
      differs a b apart =
          let P : Bool → Type 0 = λ t. (t ≡ true → a ≡ b) → t ≡ false in
          (elim (bytes_eq a b) as P [ true ↦ λ same. absurd (apart (same refl)) | false ↦ λ same. refl ]) (bytes_decides a b).0

      one_place : (other : List ℕ) (q : ℕ) → other ≡ name → place_of other (names_of fragments) ≡ Some q → q ≡ place
      one_place other q named at' =
          let same : Some q ≡ Some place = sym at' ∙ ap (λ n. place_of n (names_of fragments)) named ∙ at in
          ap (λ o. option_map_or (λ k. k) o q) same

  -- and takes what stands in it away
  pub left_entered : (fragment : Positioned FragmentDefinition) → slice_get (values_of fragments) place ≡ Some fragment → is_marked old.entered.items place ≡ false
      → left_in fragments new + standing_under fragment ≤ left_in fragments old
  left_entered fragment at unmarked =
      unless_drops (values_of fragments) (is_marked old.entered.items) (is_marked new.entered.items) place fragment at unmarked here
      (λ k so. elim (cases_eq k place) [ inl same ↦ ap (is_marked new.entered.items) same ∙ here | inr apart ↦ others k apart ∙ so ])

-- Steps of the walk.

module _ (collector : Collector) (object : List ℕ) where
  abbrev Fr : Fragments
  Fr = collector.fragments.now

  module _ (left : ℕ) where
    abbrev step : Walk → Positioned Selection → Walk
    step walk x = once_of (setting_by collector) object (walked collector left object) walk (out-Selection x.node)

    -- one selection more
    pub walked_more : (walk : Walk) (xs : List (Positioned Selection)) (i : ℕ) (x : Positioned Selection) (found : Found) → i < length xs → x ≡ get_or xs i x
        → IsAt Fr (step (fold step walk (take i xs)) x) found → IsAt Fr (fold step walk (take (i + 1) xs)) found
    walked_more walk xs i x found within read is =
        subst (λ w. IsAt Fr w found)
        (sym (ap (fold step walk) (take_more xs i x within ∙ ap (λ y. take i xs ++ y ∷ []) (sym read)) ∙ fold-append step walk (take i xs) (x ∷ []))) is

  -- all of them
  pub walked_all : (left : ℕ) (walk : Walk) (xs : List (Positioned Selection)) (i : ℕ) (found : Found) → (left ≡ 0 → ⊥) → length xs ≤ i
      → IsAt Fr (fold (step (left - 1)) walk (take i xs)) found → IsAt Fr (walked collector left object walk xs) found
  walked_all zero walk xs i found some most is = absurd (some refl)
  walked_all (suc left) walk xs i found some most is =
      let less : suc left - 1 ≡ left = omega arith in
      subst (λ ys. IsAt Fr (fold (step left) walk ys) found) (take_all i xs most) (subst (λ n. IsAt Fr (fold (step n) walk (take i xs)) found) less is)

  -- one set after another
  walked_append : (left : ℕ) (walk : Walk) (xs ys : List (Positioned Selection))
      → walked collector left object walk (xs ++ ys) ≡ walked collector left object (walked collector left object walk xs) ys
  walked_append zero walk xs ys = refl
  walked_append (suc left) walk xs ys = fold-append (step left) walk xs ys

-- what the selections of a loop are
pub standing_more : (xs : List (Positioned Selection)) (i : ℕ) (x : Positioned Selection) → i < length xs → x ≡ get_or xs i x
    → standing_among (drop i xs) ≡ count_of x.node + standing_among (drop (i + 1) xs)
standing_more xs i x within read =
    ap standing_among (drop_more xs i x within) ∙ ap (λ y. count_of y.node + standing_among (drop (i + 1) xs)) (sym read)

standing_append : (xs ys : List (Positioned Selection)) → standing_among (xs ++ ys) ≡ standing_among xs + standing_among ys
standing_append [] ys = omega arith
standing_append (x ∷ xs) ys = omega (arith, standing_append xs ys)

-- a spread
pub opened_spread : (x : Selection) (spread : Positioned FragmentSpread) → x ≡ selection.FragmentSpread spread → Selection-F.FragmentSpread spread ≡ out-Selection x
opened_spread x spread is = rw is (search (rules, the_lemmas))

module _ (collector : Collector) (object : List ℕ) (left : ℕ) (walk : Walk) (name : List ℕ) where
  -- no fragment has the name
  pub spread_unknown : None ≡ place_of name (names_of collector.fragments.now)
      → once_spread (setting_by collector) object (walked collector left object) walk name ≡ walk
  spread_unknown none =
      let unknown : under name collector.fragments.now ≡ None = sym (under_no_place name collector.fragments.now none) in
      rw unknown (same (is_entered name walk))
    where
      same : (b : Bool) → cond b walk walk ≡ walk
      same true = refl
      same false = refl

  module _ (place : ℕ) (found : Found) (at : place_of name (names_of collector.fragments.now) ≡ Some place) (is : IsAt collector.fragments.now walk found) where
    module _ (fragment : Positioned FragmentDefinition) (read : slice_get (values_of collector.fragments.now) place ≡ Some fragment)
        (unmarked : is_marked found.entered.items place ≡ false) where
      known : under name collector.fragments.now ≡ Some fragment
      known = sym (under_in_place name collector.fragments.now place fragment (sym at) read)

      -- it doesn't apply to the object
      pub spread_other : (setting_by collector).covers fragment.node.type_condition.node object ≡ false
          → once_spread (setting_by collector) object (walked collector left object) walk name ≡ walk
      spread_other other =
          let e : is_entered name walk ≡ false = sym (is.marked name place at) ∙ unmarked in
          rw (e, known, other) refl

      -- it is entered
      pub spread_entered : (setting_by collector).covers fragment.node.type_condition.node object ≡ true
          → once_spread (setting_by collector) object (walked collector left object) walk name
          ≡ walked collector left object (record walk { entered = name ∷ walk.entered }) (selections_of (fragment_set fragment))
      spread_entered covered =
          let e : is_entered name walk ≡ false = sym (is.marked name place at) ∙ unmarked in
          rw (e, known, covered) refl

-- through nothing
walked_none : (collector : Collector) (object : List ℕ) (left : ℕ) (walk : Walk) → walk ≡ walked collector left object walk []
walked_none collector object zero walk = refl
walked_none collector object (suc left) walk = refl

take_none : {A : Type 0} (xs : List A) → [] ≡ take 0 xs
take_none [] = refl
take_none (x ∷ xs) = refl

-- with more occurrences no less stands in the sets
own_grows : (field : Positioned Field) (others : List (Positioned Field))
    → standing_among (own_selections field) ≤ standing_among (own_selections (with_others field others))
own_grows field [] = omega arith
own_grows field (other ∷ others) =
    omega (
      arith,
      own_grows (both field other) others,
      ap standing_among (set_of_both field other),
      standing_append (own_selections field) (own_selections other),
    )

pub own_less : (first : Positioned Field) (more : List (Bor (Positioned Field))) (i : ℕ)
    → standing_among (own_selections (with_others first (all_behind (take i more))))
    ≤ standing_among (own_selections (with_others first (all_behind more)))
own_less first [] zero = omega arith
own_less first [] (suc i) = omega arith
own_less first (occurrence ∷ more) zero = own_grows first (occurrence.now ∷ all_behind more)
own_less first (occurrence ∷ more) (suc i) = own_less (both first occurrence.now) more i

-- The sets of occurrences, one after another.
module _ (first : Positioned Field) (more : List (Bor (Positioned Field))) where
  -- those of the first, and of so many more
  abbrev pub own_of : ℕ → List (Positioned Selection)
  own_of i = own_selections (with_others first (all_behind (take i more)))

  pub own_none : own_selections first ≡ own_of 0
  own_none = ap (λ fs. own_selections (with_others first (all_behind fs))) (take_none more)

  own_more : (i : ℕ) (occurrence : Bor (Positioned Field)) → i < length more → occurrence ≡ get_or more i occurrence
      → own_of (i + 1) ≡ own_of i ++ own_selections occurrence.now
  own_more i occurrence within read =
      let front = all_behind (take i more) in
      ap (λ fs. own_selections (with_others first fs)) (behind_more more i occurrence within read)
      ∙ ap own_selections (with_one_more first front occurrence.now)
      ∙ set_of_both (with_others first front) occurrence.now

  pub own_walked : (collector : Collector) (object : List ℕ) (i : ℕ) (occurrence : Bor (Positioned Field)) (found : Found)
      → i < length more → occurrence ≡ get_or more i occurrence
      → IsAt collector.fragments.now
      (walked collector collector.levels object (walked collector collector.levels object nothing (own_of i)) (own_selections occurrence.now)) found
      → IsAt collector.fragments.now (walked collector collector.levels object nothing (own_of (i + 1))) found
  own_walked collector object i occurrence found within read is =
      subst (λ w. IsAt collector.fragments.now w found)
      (sym (ap (walked collector collector.levels object nothing) (own_more i occurrence within read)
      ∙ walked_append collector object collector.levels nothing (own_of i) (own_selections occurrence.now))) is

  pub own_standing : (i : ℕ) (occurrence : Bor (Positioned Field)) → i < length more → occurrence ≡ get_or more i occurrence
      → standing_among (own_of (i + 1)) ≡ standing_among (own_of i) + standing_among (own_selections occurrence.now)
  own_standing i occurrence within read =
      ap standing_among (own_more i occurrence within read) ∙ standing_append (own_of i) (own_selections occurrence.now)

  pub own_all : (i : ℕ) → length more ≤ i → own_of i ≡ own_selections (with_others first (all_behind more))
  own_all i most = ap (λ fs. own_selections (with_others first (all_behind fs))) (take_all i more most)

-- Sets, one after another.
pub sets_none : (sets : List SelectionSet) (collector : Collector) (object : List ℕ) (found : Found) → IsAt collector.fragments.now nothing found
    → IsAt collector.fragments.now (walked collector collector.levels object nothing (selections_of_all (take 0 sets))) found
sets_none sets collector object found is =
    subst (λ w. IsAt collector.fragments.now w found)
    (walked_none collector object collector.levels nothing
    ∙ ap (λ s. walked collector collector.levels object nothing (selections_of_all s)) (take_none sets)) is

pub sets_all : (sets : List SelectionSet) (i : ℕ) → length sets ≤ i → selections_of_all (take i sets) ≡ selections_of_all sets
sets_all sets i most = ap selections_of_all (take_all i sets most)

pub sets_less : (sets : List SelectionSet) (i : ℕ) → standing_among (selections_of_all (take i sets)) ≤ standing_among (selections_of_all sets)
sets_less [] zero = omega arith
sets_less [] (suc i) = omega arith
sets_less (set ∷ sets) zero = omega arith
sets_less (set ∷ sets) (suc i) =
    omega (
      arith,
      sets_less sets i,
      standing_append (out-SelectionSet set).items (selections_of_all (take i sets)),
      standing_append (out-SelectionSet set).items (selections_of_all sets),
    )

module _ (sets : List SelectionSet) (i : ℕ) (set : SelectionSet) (within : i < length sets) (read : set ≡ get_or sets i set) where
  sets_more : selections_of_all (take (i + 1) sets) ≡ selections_of_all (take i sets) ++ (out-SelectionSet set).items
  sets_more =
      ap selections_of_all (take_more sets i set within ∙ ap (λ s. take i sets ++ s ∷ []) (sym read))
      ∙ flat_map-append (λ s. (out-SelectionSet s).items) (take i sets) (set ∷ [])
      ∙ ap (λ xs. selections_of_all (take i sets) ++ xs) (append-nil (out-SelectionSet set).items)

  pub sets_walked : (collector : Collector) (object : List ℕ) (found : Found)
      → IsAt collector.fragments.now
      (walked collector collector.levels object (walked collector collector.levels object nothing (selections_of_all (take i sets))) (out-SelectionSet set).items) found
      → IsAt collector.fragments.now (walked collector collector.levels object nothing (selections_of_all (take (i + 1) sets))) found
  sets_walked collector object found is =
      subst (λ w. IsAt collector.fragments.now w found)
      (sym (ap (walked collector collector.levels object nothing) sets_more
      ∙ walked_append collector object collector.levels nothing (selections_of_all (take i sets)) (out-SelectionSet set).items)) is

  pub sets_standing : standing_among (selections_of_all (take (i + 1) sets))
      ≡ standing_among (selections_of_all (take i sets)) + standing_among (out-SelectionSet set).items
  sets_standing = ap standing_among sets_more ∙ standing_append (selections_of_all (take i sets)) (out-SelectionSet set).items
