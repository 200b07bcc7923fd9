-- In whichever levels a set nests, the same fields are collected in it, and the same conflicts stand in it.
use Rattle.std.proofs.Common.{◌≡◌, ◌≤◌, ◌&&◌, ℕ, zero, suc, Bool, true, false, cond, not, List, [], ◌∷◌, ◌++◌, Option, Some, None, refl, ap, sym, subst, ◌∙◌, if◌then◌else◌, arith}
use Rattle.std.specs.Prelude.{option_and_then, option_map}
use Rattle.std.specs.List.{AllByRecursion, Contains, flat_map}
use Rattle.std.specs.Str.{bytes_eq}
use Rattle.gql_base.specs.Pairs.{under, unite, unite_all}
use Rattle.gql_doc.proofs.DepthLaws.{deep_less, nests_beneath}
use Rattle.gql_doc.specs.Depth.{Fragments, deep_from, field_set, fragment_set, if_any, selections_of, set_beneath, set_under}
use Rattle.gql_doc.specs.Document.{key_of}
use Rattle.gql_doc.specs.First.{first_in}
use Rattle.gql_doc.specs.declared.document.Field.{Field}
use Rattle.gql_doc.specs.declared.document.FragmentDefinition.{FragmentDefinition}
use Rattle.gql_doc.specs.declared.document.InlineFragment.{InlineFragment, out-InlineFragment}
use Rattle.gql_doc.specs.declared.document.Positioned.{Positioned}
use Rattle.gql_doc.specs.declared.document.Selection.{out-Selection, Selection}
use Rattle.gql_doc.specs.declared.document.Selection.TheOpen.{Selection-F}
use Rattle.gql_doc.specs.declared.document.SelectionSet.{SelectionSet}
use Rattle.gql_lists.proofs.FirstLemmas.{none_behind, none_here}
use Rattle.gql_select.proofs.DocumentLemmas.{set_of_both}
use Rattle.gql_select.proofs.NestLemmas.{collected_all, none_both}
use Rattle.gql_select.specs.Alike.{alike, name_of}
use Rattle.gql_select.specs.Collected.{collect, collect_within, fields_of, fields_of_spread, fields_under, own_selections, Setting}
use Rattle.gql_select.specs.Conflicts.{agreeing, both_alike, conflicts, first_differing}
use Rattle.gql_select.specs.Documents.{both, reading}
use Rattle.gql_select.specs.Reading.{keyed, Reading}

-- two looks that give the same of each, where two others find nothing
pub flat_same : {A B C D : Type 0} (f : A → Option B) (g : A → Option C) (h k : A → List D) → ((x : A) → f x ≡ None → g x ≡ None → h x ≡ k x)
    → (xs : List A) → first_in f xs ≡ None → first_in g xs ≡ None → flat_map h xs ≡ flat_map k xs
flat_same f g h k same [] none also = refl
flat_same f g h k same (x ∷ xs) none also =
    let here = same x (none_here _ _ none) (none_here _ _ also) in
    let behind = flat_same f g h k same xs (none_behind _ _ none) (none_behind _ _ also) in
    λ i. here i ++ behind i

-- two looks that give the same of each of which something holds
each_flat : {A B : Type 0} (P : A → Type 0) (h k : A → List B) → ((x : A) → P x → h x ≡ k x) → (xs : List A) → AllByRecursion P xs
    → flat_map h xs ≡ flat_map k xs
each_flat P h k same [] all = refl
each_flat P h k same (x ∷ xs) all =
    let here = same x all.0 in
    let behind = each_flat P h k same xs all.1 in
    λ i. here i ++ behind i

both_hold : {A : Type 0} (P Q : A → Type 0) (xs : List A) → AllByRecursion P xs → AllByRecursion Q xs → AllByRecursion (λ x. P x × Q x) xs
both_hold P Q [] one other = tt
both_hold P Q (x ∷ xs) one other = ((one.0, other.0), both_hold P Q xs one.1 other.1)

module _ (fragments : Fragments) (covers : List ℕ → List ℕ → Bool) (beneath : List ℕ → List ℕ → List (List ℕ)) where
  -- the setting in which so many levels are entered
  abbrev pub setting_in : ℕ → Setting
  setting_in levels = record { fragments = fragments; levels = levels; covers = covers; beneath = beneath }

  abbrev pub reading_in : ℕ → Reading (List ℕ) (Positioned Field) (Positioned Selection)
  reading_in levels = reading (setting_in levels)

  -- the selections of a field's own set nest within so many levels, and where there are none, within any
  abbrev pub Nests : ℕ → List (Positioned Selection) → Type 0
  Nests zero selections = selections ≡ []
  Nests (suc n) selections = first_in (λ selection. option_and_then (deep_from fragments n) (set_beneath fragments selection)) selections ≡ None

  pub nests_set : (n : ℕ) (set : Positioned SelectionSet) → deep_from fragments n set ≡ None → Nests n (selections_of set)
  nests_set zero set none = cc
  nests_set (suc n) set none = none

  nests_none : (n : ℕ) → Nests n []
  nests_none zero = refl
  nests_none (suc n) = refl

  nests_append : (n : ℕ) (xs ys : List (Positioned Selection)) → Nests n xs → Nests n ys → Nests n (xs ++ ys)
  nests_append zero xs ys one other = λ i. one i ++ other i
  nests_append (suc n) xs ys one other = none_both _ xs ys one other

  nests_more : (n m : ℕ) (set : Positioned SelectionSet) → n ≤ m → Nests n (selections_of set) → Nests m (selections_of set)
  nests_more zero m set most none = subst (Nests m) (sym none) (nests_none m)
  nests_more (suc n) zero set most none = absurd (omega arith)
  nests_more (suc n) (suc m) set most none = deep_less fragments (suc n) (suc m) set most none

  nests_both : (n : ℕ) (f g : Positioned Field) → Nests n (own_selections f) → Nests n (own_selections g) → Nests n (own_selections (both f g))
  nests_both n f g one other = subst (Nests n) (sym (set_of_both f g)) (nests_append n (own_selections f) (own_selections g) one other)

  -- the set of a field nests within one level less than the set that the field stands in
  own_nests : (n : ℕ) (set : Positioned SelectionSet) (selection : Positioned Selection) (field : Positioned Field)
      → deep_from fragments (suc n) set ≡ None → Contains (selections_of set) selection → out-Selection selection.node ≡ Selection-F.Field field
      → Nests n (own_selections field)
  own_nests n set selection field none at is =
      let by : (xs : List (Positioned Selection)) → own_selections field ≡ xs → Nests n (own_selections field) =
      elim [
        | [] ↦ λ empty. subst (Nests n) (sym empty) (nests_none n)
        | (x ∷ xs) ↦ λ some.
            let leads : set_beneath fragments selection ≡ Some (field_set field) = ap (set_under fragments) is ∙ ap (λ ys. if_any ys (field_set field)) some in
            nests_set n (field_set field) (nests_beneath fragments n set selection (field_set field) none at leads)
      ] in
      by _ refl

  module _ (one other : ℕ) (object : List ℕ) where
    module _ (n k : ℕ)
        (same : (xs : List (Positioned Selection)) → Nests n xs → Nests k xs
        → collect_within (setting_in one) n object xs ≡ collect_within (setting_in other) k object xs) where
      inner_same : (inner : Positioned SelectionSet) → deep_from fragments n inner ≡ None → deep_from fragments k inner ≡ None
          → collect_within (setting_in one) n object (selections_of inner) ≡ collect_within (setting_in other) k object (selections_of inner)
      inner_same inner none also = same (selections_of inner) (nests_set n inner none) (nests_set k inner also)

      spread_same : (found : Option (Positioned FragmentDefinition)) → option_and_then (deep_from fragments n) (option_map fragment_set found) ≡ None
          → option_and_then (deep_from fragments k) (option_map fragment_set found) ≡ None
          → fields_of_spread (setting_in one) object (collect_within (setting_in one) n object) found
          ≡ fields_of_spread (setting_in other) object (collect_within (setting_in other) k object) found
      spread_same None none also = refl
      spread_same (Some fragment) none also =
          ap (λ (fields : List (Positioned Field)). if covers fragment.node.type_condition.node object then fields else [])
          (inner_same (fragment_set fragment) none also)

      condition_same : (condition : Option (Positioned (List ℕ))) (inner : Positioned SelectionSet) → deep_from fragments n inner ≡ None
          → deep_from fragments k inner ≡ None
          → fields_under (setting_in one) object (collect_within (setting_in one) n object) condition (selections_of inner)
          ≡ fields_under (setting_in other) object (collect_within (setting_in other) k object) condition (selections_of inner)
      condition_same None inner none also = inner_same inner none also
      condition_same (Some condition) inner none also =
          ap (λ (fields : List (Positioned Field)). if covers condition.node object then fields else []) (inner_same inner none also)

      selection_same : (opened : Selection-F Selection Field InlineFragment SelectionSet)
          → option_and_then (deep_from fragments n) (set_under fragments opened) ≡ None
          → option_and_then (deep_from fragments k) (set_under fragments opened) ≡ None
          → fields_of (setting_in one) object (collect_within (setting_in one) n object) opened
          ≡ fields_of (setting_in other) object (collect_within (setting_in other) k object) opened
      selection_same (Selection-F.Field field) none also = refl
      selection_same (Selection-F.FragmentSpread spread) none also = spread_same (under spread.node.fragment_name.node fragments) none also
      selection_same (Selection-F.InlineFragment fragment) none also =
          condition_same (out-InlineFragment fragment.node).type_condition (out-InlineFragment fragment.node).selection_set none also

    pub collect_same : (n k : ℕ) (xs : List (Positioned Selection)) → Nests n xs → Nests k xs
        → collect_within (setting_in one) n object xs ≡ collect_within (setting_in other) k object xs
    collect_same zero zero xs none also = refl
    collect_same zero (suc k) xs none also = sym (ap (collect_within (setting_in other) (suc k) object) none)
    collect_same (suc n) zero xs none also = ap (collect_within (setting_in one) (suc n) object) also
    collect_same (suc n) (suc k) xs none also =
        flat_same (λ selection. option_and_then (deep_from fragments n) (set_beneath fragments selection))
        (λ selection. option_and_then (deep_from fragments k) (set_beneath fragments selection))
        (λ selection. fields_of (setting_in one) object (collect_within (setting_in one) n object) (out-Selection selection.node))
        (λ selection. fields_of (setting_in other) object (collect_within (setting_in other) k object) (out-Selection selection.node))
        (λ selection here there. selection_same n k (collect_same n k) (out-Selection selection.node) here there) xs none also

  -- what holds of fields, and of two that are united where it holds of both, holds of those that agree
  module _ (P : Positioned Field → Type 0) (closed : (f g : Positioned Field) → P f → P g → P (both f g)) (levels : ℕ) where
    abbrev HoldsUnder : List ℕ × Positioned Field → Type 0
    HoldsUnder m = P m.1

    alike_holds : (same : Bool) (f g : Positioned Field) → P f → P g → P (if same then both f g else f)
    alike_holds true f g here there = closed f g here there
    alike_holds false f g here there = here

    united_one : (same : Bool) (p q : List ℕ × Positioned Field) (ps others : List (List ℕ × Positioned Field)) → AllByRecursion HoldsUnder (p ∷ ps)
        → AllByRecursion HoldsUnder others → P q.1
        → AllByRecursion HoldsUnder (cond same ((p.0, both_alike (reading_in levels) p.1 q.1) ∷ ps) (p ∷ others))
    united_one true p q ps others all rest here = (alike_holds (alike p.1 q.1) p.1 q.1 all.0 here, all.1)
    united_one false p q ps others all rest here = (all.0, rest)

    united_holds : (ps : List (List ℕ × Positioned Field)) (q : List ℕ × Positioned Field) → AllByRecursion HoldsUnder ps → P q.1
        → AllByRecursion HoldsUnder (unite (both_alike (reading_in levels)) ps q.0 q.1)
    united_holds [] q all here = (here, tt)
    united_holds (p ∷ ps) q all here =
        united_one (bytes_eq q.0 p.0) p q ps (unite (both_alike (reading_in levels)) ps q.0 q.1) all (united_holds ps q all.1 here) here

    all_united : (ps : List (List ℕ × Positioned Field)) (fs : List (Positioned Field)) → AllByRecursion HoldsUnder ps → AllByRecursion P fs
        → AllByRecursion HoldsUnder (unite_all (both_alike (reading_in levels)) ps (keyed (reading_in levels) fs))
    all_united ps [] all each = all
    all_united ps (f ∷ fs) all each =
        all_united (unite (both_alike (reading_in levels)) ps (key_of f.node).node f) fs (united_holds ps ((key_of f.node).node, f) all each.0) each.1

  -- the levels count for nothing once fields are collected
  module _ (one other : ℕ) where
    keyed_same : (fs : List (Positioned Field)) → keyed (reading_in one) fs ≡ keyed (reading_in other) fs
    keyed_same [] = refl
    keyed_same (f ∷ fs) = ap (λ rest. ((key_of f.node).node, f) ∷ rest) (keyed_same fs)

    agreeing_same : (fs : List (Positioned Field)) → agreeing (reading_in one) fs ≡ agreeing (reading_in other) fs
    agreeing_same fs = ap (unite_all (both_alike (reading_in other)) []) (keyed_same fs)

  module _ {E : Type 0} (told : Positioned Field → E) where
    -- a set without selections has no conflicts
    conflicts_none : (levels n : ℕ) (object : List ℕ) → conflicts (reading_in levels) told n object [] ≡ []
    conflicts_none levels zero object = refl
    conflicts_none zero (suc n) object = refl
    conflicts_none (suc levels) (suc n) object = refl

    -- what is told of a field and under it, where so many levels are left
    abbrev tells : (levels left : ℕ) → List ℕ → List (Positioned Field) → List ℕ × Positioned Field → List E
    tells levels left object fs m =
        first_differing (reading_in levels) told m fs
        ++ flat_map (λ inner. conflicts (reading_in levels) told left inner (own_selections m.1)) (beneath object (name_of m.1))

    module _ (one other : ℕ) where
      differing_same : (m : List ℕ × Positioned Field) (fs : List (Positioned Field))
          → first_differing (reading_in one) told m fs ≡ first_differing (reading_in other) told m fs
      differing_same m [] = refl
      differing_same m (f ∷ fs) =
          ap (λ rest. if bytes_eq (key_of f.node).node m.0 && not (alike m.1 f) then (told f ∷ []) else rest) (differing_same m fs)

      conflicts_same : (n k : ℕ) → n ≤ one → k ≤ other → (set : Positioned SelectionSet) → Nests n (selections_of set) → Nests k (selections_of set)
          → (object : List ℕ)
          → conflicts (reading_in one) told n object (selections_of set) ≡ conflicts (reading_in other) told k object (selections_of set)
      conflicts_same zero zero most fits set none also object = refl
      conflicts_same zero (suc k) most fits set none also object =
          sym (ap (conflicts (reading_in other) told (suc k) object) none ∙ conflicts_none other (suc k) object)
      conflicts_same (suc n) zero most fits set none also object =
          ap (conflicts (reading_in one) told (suc n) object) also ∙ conflicts_none one (suc n) object
      conflicts_same (suc n) (suc k) most fits set none also object =
          let fs : List (Positioned Field) = collect (setting_in one) object (selections_of set) in
          let Both : Positioned Field → Type 0 = λ field. Nests n (own_selections field) × Nests k (own_selections field) in
          let same : fs ≡ collect (setting_in other) object (selections_of set)
          = collect_same one other object one other (selections_of set) (nests_more (suc n) one set most none) (nests_more (suc k) other set fits also) in
          let all : AllByRecursion Both fs
          = both_hold (λ field. Nests n (own_selections field)) (λ field. Nests k (own_selections field)) fs
          (collected_all (setting_in one) object (suc n) (λ field. Nests n (own_selections field)) (own_nests n) one set none)
          (collected_all (setting_in one) object (suc k) (λ field. Nests k (own_selections field)) (own_nests k) one set also) in
          let each : AllByRecursion (λ (m : List ℕ × Positioned Field). Both m.1) (agreeing (reading_in one) fs)
          = all_united Both (λ f g here there. (nests_both n f g here.0 there.0, nests_both k f g here.1 there.1)) one [] fs tt all in
          each_flat (λ (m : List ℕ × Positioned Field). Both m.1) (tells one n object fs) (tells other k object fs)
          (λ m holds.
          let first = differing_same m fs in
          let deeper : (inner : List ℕ)
          → conflicts (reading_in one) told n inner (own_selections m.1) ≡ conflicts (reading_in other) told k inner (own_selections m.1)
          = conflicts_same n k (omega arith) (omega arith) (field_set m.1) holds.0 holds.1 in
          λ i. first i ++ flat_map (λ inner. deeper inner i) (beneath object (name_of m.1)))
          (agreeing (reading_in one) fs) each
          ∙ ap (flat_map (tells other k object fs)) (agreeing_same one other fs)
          ∙ ap (λ gs. flat_map (tells other k object gs) (agreeing (reading_in other) gs)) same

      -- of a set that nests within both numbers of levels
      pub nested_conflicts_same : (set : Positioned SelectionSet) → deep_from fragments one set ≡ None → deep_from fragments other set ≡ None
          → (object : List ℕ)
          → conflicts (reading_in one) told one object (selections_of set) ≡ conflicts (reading_in other) told other object (selections_of set)
      nested_conflicts_same set none also object =
          conflicts_same one other (omega arith) (omega arith) set (nests_set one set none) (nests_set other set also) object
