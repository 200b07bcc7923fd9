-- The walk that enters each fragment once leaves out repetitions alone.
use Rattle.std.proofs.Common.{◌≡◌, ◌≤◌, ◌||◌, ℕ, zero, suc, Bool, true, false, cond, List, [], ◌∷◌, ◌++◌, Option, Some, None, refl, ap, sym, subst, ◌∙◌, ◌⊎◌, inl, inr, append_assoc, arith}
use Rattle.std.proofs.lemmas.Bool.{false≢true}
use Rattle.std.proofs.lemmas.List.{append-nil}
use Rattle.std.proofs.lemmas.List.Elements.{Contains-append_left, Contains-append_right}
use Rattle.std.specs.Cmp.Lexicographic.{bytes_decides}
use Rattle.std.specs.List.{AllByRecursion, Contains}
use Rattle.std.specs.Option.{is_none}
use Rattle.std.specs.Prelude.{option_and_then, option_map}
use Rattle.std.specs.Str.{bytes_eq}
use Rattle.gql_base.specs.Pairs.{under}
use Rattle.gql_doc.proofs.DepthLaws.{deep_less}
use Rattle.gql_doc.specs.Depth.{deep_from, fragment_set, Fragments, selections_of, set_beneath, set_under}
use Rattle.gql_doc.specs.First.{first_in}
use Rattle.gql_doc.specs.declared.document.Field.{Field}
use Rattle.gql_doc.specs.declared.document.FragmentDefinition.{FragmentDefinition}
use Rattle.gql_doc.specs.declared.document.InlineFragment.{InlineFragment, out-InlineFragment}
use Rattle.gql_doc.specs.declared.document.Positioned.{Positioned}
use Rattle.gql_doc.specs.declared.document.Selection.{out-Selection, Selection}
use Rattle.gql_doc.specs.declared.document.Selection.TheOpen.{Selection-F}
use Rattle.gql_doc.specs.declared.document.SelectionSet.{out-roll-SelectionSet, roll-SelectionSet, SelectionSet}
use Rattle.gql_lists.specs.Sets.{is_among}
use Rattle.gql_lists.proofs.FirstLemmas.{none_behind, none_here}
use Rattle.gql_select.specs.Collected.{collect, collect_within, fields_of, fields_of_spread, fields_under, own_selections, Setting}
use Rattle.gql_select.specs.Documents.{reading}
use Rattle.gql_select.specs.Fewer.{LeavesOut}
use Rattle.gql_select.specs.Once.{collect_once, enter, is_entered, nests, nothing, once_of, once_under, once_within, Walk}
use Rattle.gql_select.specs.Thinned.{empty, stays, Thinned}
use Rattle.gql_select.proofs.ConflictLemmas.{each_at}
use Rattle.gql_select.proofs.LevelLemmas.{collect_same, nests_set}
use Rattle.gql_select.proofs.NestLemmas.{collected_nest, FieldNests, none_both}
use Rattle.gql_select.proofs.ThinLemmas.{all_go, in_thin}
use Rattle.gql_select.proofs.UnitingLemmas.{either}

none_from : {A : Type 0} (o : Option A) → is_none o ≡ true → o ≡ None
none_from None h = refl
none_from (Some x) h = cc

none_or : {A : Type 0} (o : Option A) → (o ≡ None) ⊎ (o ≡ None → ⊥)
none_or None = inl refl
none_or (Some x) = inr (λ h. cc)

-- what holds of both arms of a test, and of two tests at once
tested : {A : Type 0} (test : Bool) (P : A → Type 0) (x y : A) → (test ≡ true → P x) → (test ≡ false → P y) → P (cond test x y)
tested true P x y so other = so refl
tested false P x y so other = other refl

tested_both : {A B : Type 0} (test : Bool) (P : A → B → Type 0) (x y : A) (u v : B) → (test ≡ true → P x u) → (test ≡ false → P y v)
    → P (cond test x y) (cond test u v)
tested_both true P x y u v so other = so refl
tested_both false P x y u v so other = other refl

-- which fragments are entered, once one more is
entered_cases : (name other : List ℕ) (names : List (List ℕ)) → is_among bytes_eq name (other ∷ names) ≡ true
    → (name ≡ other) ⊎ (is_among bytes_eq name names ≡ true)
entered_cases name other names among =
    either (bytes_eq name other) ((name ≡ other) ⊎ (is_among bytes_eq name names ≡ true))
    (λ e. inl ((bytes_decides name other).0 e))
    (λ e. inr (past (bytes_eq name other) (is_among bytes_eq name names) e among))
  where
    past : (b c : Bool) → b ≡ false → (b || c) ≡ true → c ≡ true
    past true c e h = cc
    past false c e h = h

module _ (setting : Setting) (object : List ℕ) where
  -- a set nests within so many levels
  abbrev Fits : ℕ → Positioned SelectionSet → Type 0
  Fits n set = deep_from setting.fragments n set ≡ None

  -- the sets beneath selections do
  abbrev Beneath : ℕ → List (Positioned Selection) → Type 0
  Beneath n xs = first_in (λ selection. option_and_then (deep_from setting.fragments n) (set_beneath setting.fragments selection)) xs ≡ None

  -- the least number of levels within which a set nests
  record Least (r : ℕ) (set : Positioned SelectionSet) : Type 0 where
    levels : ℕ
    most : levels ≤ r
    fits : Fits levels set
    fewest : (m : ℕ) → suc m ≡ levels → Fits m set → ⊥

  least : (r : ℕ) (set : Positioned SelectionSet) → Fits r set → Least r set
  least zero set fits = cc
  least (suc r) set fits = elim (none_or (deep_from setting.fragments r set)) [
    | inl fewer ↦ (let l : Least r set = least r set fewer in
        record { levels = l.levels; most = omega (arith, l.most); fits = l.fits; fewest = l.fewest })
    | inr more ↦ record {
      levels = suc r;
      most = omega arith;
      fits = fits;
      fewest = λ m is less. more (subst (λ k. Fits k set) (let same : m ≡ r = omega (arith, is) in same) less);
    }
  ]

  -- within whichever numbers of levels a set nests, the same fields stand in it
  same_fields : (n m : ℕ) (set : Positioned SelectionSet) → Fits n set → Fits m set
      → collect_within setting n object (selections_of set) ≡ collect_within setting m object (selections_of set)
  same_fields n m set one other =
      collect_same setting.fragments setting.covers setting.beneath setting.levels setting.levels object n m (selections_of set)
      (nests_set setting.fragments setting.covers setting.beneath n set one)
      (nests_set setting.fragments setting.covers setting.beneath m set other)

  -- the fragment of a name stands here
  abbrev IsNamed : List ℕ → Positioned FragmentDefinition → Type 0
  IsNamed name fragment = under name setting.fragments ≡ Some fragment

  -- all fields of the fragment of a name are there
  abbrev Done : List ℕ → List (Positioned Field) → Type 0
  Done name fields = (fragment : Positioned FragmentDefinition) → IsNamed name fragment → (n : ℕ) → Fits n (fragment_set fragment)
      → (x : Positioned Field) → Contains (collect_within setting n object (selections_of (fragment_set fragment))) x → Contains fields x

  -- the set of the fragment of a name nests within fewer levels
  abbrev Low : ℕ → List ℕ → Type 0
  Low zero name = ⊥
  Low (suc r) name = (fragment : Positioned FragmentDefinition) → IsNamed name fragment → Fits r (fragment_set fragment)

  low_more : (m r : ℕ) (name : List ℕ) → m ≤ r → Low m name → Low r name
  low_more zero r name most low = absurd low
  low_more (suc m) zero name most low = absurd (omega arith)
  low_more (suc m) (suc r) name most low =
      λ fragment is. deep_less setting.fragments m r (fragment_set fragment) (omega arith) (low fragment is)

  -- each fragment that was entered, and nests within fewer levels, has all its fields out
  record IsComplete (r : ℕ) (walk : Walk) : Type 0 where
    done : (name : List ℕ) → is_entered name walk ≡ true → Low r name → Done name walk.fields

  -- what a walk comes to that has seen more fields, of which it left out repetitions
  record Walked (r : ℕ) (before more : List (Positioned Field)) (old new : Walk) : Type 0 where
    thin : Thinned (Positioned Field) (before ++ more) new.fields
    complete : IsComplete r new
    grows : (x : Positioned Field) → Contains old.fields x → Contains new.fields x
    known : (name : List ℕ) → is_entered name new ≡ true → (is_entered name old ≡ true) ⊎ Low r name

  same_walk : (r : ℕ) (before : List (Positioned Field)) (walk : Walk) → Thinned (Positioned Field) before walk.fields → IsComplete r walk
      → Walked r before [] walk walk
  same_walk r before walk thin complete =
      record { thin = rw (append-nil before) thin; complete = complete; grows = λ x at. at; known = λ name e. inl e }

  further : (r : ℕ) (before one other : List (Positioned Field)) (w v u : Walk) → Walked r before one w v
      → Walked r (before ++ one) other v u
      → Walked r before (one ++ other) w u
  further r before one other w v u first second = record {
    thin = subst (λ fields. Thinned (Positioned Field) fields u.fields) (append_assoc before one other) second.thin;
    complete = second.complete;
    grows = λ x at. second.grows x (first.grows x at);
    known = λ name e. elim (second.known name e) [ inl e' ↦ first.known name e' | inr low ↦ inr low ];
  }

  abbrev Walks : ℕ → Type 0
  Walks n = (r : ℕ) (set : Positioned SelectionSet) → Fits n set → Fits r set → (walk : Walk) (before : List (Positioned Field))
      → Thinned (Positioned Field) before walk.fields → IsComplete r walk
      → Walked r before (collect_within setting n object (selections_of set)) walk (once_within setting n object walk (selections_of set))

  complete_less : (r : ℕ) (walk : Walk) → IsComplete (suc r) walk → IsComplete r walk
  complete_less r walk complete = record { done = λ name e low. complete.done name e (low_more r (suc r) name (omega arith) low) }

  -- a walk through a set beneath, as one through the set around it
  deeper_walked : (r : ℕ) (before more : List (Positioned Field)) (old new : Walk) → IsComplete (suc r) old → Walked r before more old new
      → Walked (suc r) before more old new
  deeper_walked r before more old new complete walked = record {
    thin = walked.thin;
    complete = record {
      done = λ name e low. elim (walked.known name e) [
        | inl e' ↦ (λ fragment is n fits x at. walked.grows x (complete.done name e' low fragment is n fits x at))
        | inr low' ↦ walked.complete.done name e low'
      ];
    };
    grows = walked.grows;
    known = λ name e. elim (walked.known name e) [ inl e' ↦ inl e' | inr low ↦ inr (low_more r (suc r) name (omega arith) low) ];
  }

  -- a fragment at its first spread: it is walked through with the least number of levels, within which it isn't
  -- low itself
  module _ (n r : ℕ) (name : List ℕ) (deeper : Walks n) (fragment : Positioned FragmentDefinition) (is : IsNamed name fragment)
      (in_n : Fits n (fragment_set fragment)) (in_r : Fits r (fragment_set fragment)) (walk : Walk) (before : List (Positioned Field))
      (thin : Thinned (Positioned Field) before walk.fields) (complete : IsComplete (suc r) walk) where
    abbrev into : Walk
    into = record walk { entered = name ∷ walk.entered }

    abbrev its_fields : List (Positioned Field)
    its_fields = collect_within setting n object (selections_of (fragment_set fragment))

    same_fragment : (other : Positioned FragmentDefinition) → IsNamed name other → fragment ≡ other
    same_fragment other at = let both : Some fragment ≡ Some other = sym is ∙ at in cc

    low_here : Low (suc r) name
    low_here other at = subst (λ f. Fits r (fragment_set f)) (same_fragment other at) in_r

    -- its fields, within whichever levels
    its_same : (other : Positioned FragmentDefinition) → IsNamed name other → (m : ℕ) → Fits m (fragment_set other) → (x : Positioned Field)
        → Contains (collect_within setting m object (selections_of (fragment_set other))) x → Contains its_fields x
    its_same other at m fits x there =
        let own : Fits m (fragment_set fragment) = subst (λ f. Fits m (fragment_set f)) (sym (same_fragment other at)) fits in
        subst (λ fields. Contains fields x)
        (ap (λ f. collect_within setting m object (selections_of (fragment_set f))) (sym (same_fragment other at)) ∙ same_fields m n
        (fragment_set fragment) own in_n)
        there

    not_low : (levels : ℕ) → ((m : ℕ) → suc m ≡ levels → Fits m (fragment_set fragment) → ⊥) → Low levels name → ⊥
    not_low zero fewest low = low
    not_low (suc m) fewest low = fewest m refl (low fragment is)

    entered : Walked (suc r) before its_fields walk (once_within setting n object into (selections_of (fragment_set fragment)))
    entered =
        let l : Least r (fragment_set fragment) = least r (fragment_set fragment) in_r in
        let after : Walk = once_within setting n object into (selections_of (fragment_set fragment)) in
        let started : IsComplete l.levels into = record {
          done = λ other e low. elim (entered_cases other name walk.entered e) [
            | inl same ↦ absurd (not_low l.levels l.fewest (subst (Low l.levels) same low))
            | inr e' ↦ complete.done other e' (low_more l.levels (suc r) other (omega (arith, l.most)) low)
          ];
        } in
        let walked : Walked l.levels before its_fields into after = deeper l.levels
        (fragment_set fragment) in_n l.fits into before thin started in
        let here : Done name after.fields = λ other at m fits x there.
        in_thin (before ++ its_fields) after.fields walked.thin x
        (Contains-append_right before its_fields x (its_same other at m fits x there)) in
        record {
          thin = walked.thin;
          complete = record {
            done = λ other e low. elim (walked.known other e) [
              | inl e' ↦ elim (entered_cases other name walk.entered e') [
                | inl same ↦ subst (λ k. Done k after.fields) (sym same) here
                | inr e'' ↦ (λ f at m fits x there. walked.grows x (complete.done other e'' low f at m fits x there))
              ]
              | inr low' ↦ walked.complete.done other e low'
            ];
          };
          grows = walked.grows;
          known = λ other e. elim (walked.known other e) [
            | inl e' ↦ elim (entered_cases other name walk.entered e') [
              | inl same ↦ inr (subst (Low (suc r)) (sym same) low_here)
              | inr e'' ↦ inl e''
            ]
            | inr low ↦ inr (low_more l.levels (suc r) other (omega (arith, l.most)) low)
          ];
        }

    -- at a later spread all its fields stand before
    passed : is_entered name walk ≡ true → Walked (suc r) before its_fields walk walk
    passed e = record {
      thin = all_go before walk.fields its_fields thin (λ x at. complete.done name e low_here fragment is n in_n x at);
      complete = complete;
      grows = λ x at. at;
      known = λ other e'. inl e';
    }

  walk_spread : (n r : ℕ) (name : List ℕ) → Walks n → (found : Option (Positioned FragmentDefinition)) → under name setting.fragments
      ≡ found
      → option_and_then (deep_from setting.fragments n) (option_map fragment_set found) ≡ None
      → option_and_then (deep_from setting.fragments r) (option_map fragment_set found) ≡ None
      → (walk : Walk) (before : List (Positioned Field)) → Thinned (Positioned Field) before walk.fields → IsComplete (suc r) walk
      → Walked (suc r) before (fields_of_spread setting object (collect_within setting n object) found) walk
      (cond (is_entered name walk) walk (enter setting object (once_within setting n object) walk name found))
  walk_spread n r name deeper None is in_n in_r walk before thin complete =
      tested (is_entered name walk) (Walked (suc r) before [] walk) walk walk (λ e. same_walk (suc r) before walk thin complete)
      (λ e. same_walk (suc r) before walk thin complete)
  walk_spread n r name deeper (Some fragment) is in_n in_r walk before thin complete =
      let after : Walk = once_within setting n object (record walk { entered = name ∷ walk.entered })
      (selections_of (fragment_set fragment)) in
      let its : List (Positioned Field) = collect_within setting n object (selections_of (fragment_set fragment)) in
      tested_both (setting.covers fragment.node.type_condition.node object)
      (λ fields new. Walked (suc r) before fields walk (cond (is_entered name walk) walk new)) its [] after walk
      (λ covered. tested (is_entered name walk) (Walked (suc r) before its walk) walk after
      (λ e. passed n r name deeper fragment is in_n in_r walk before thin complete e)
      (λ e. entered n r name deeper fragment is in_n in_r walk before thin complete))
      (λ other. tested (is_entered name walk) (Walked (suc r) before [] walk) walk walk (λ e. same_walk (suc r) before walk thin complete)
      (λ e. same_walk (suc r) before walk thin complete))

  walk_under : (n r : ℕ) → Walks n → (condition : Option (Positioned (List ℕ))) (set : Positioned SelectionSet) → Fits n set → Fits r set
      → (walk : Walk) (before : List (Positioned Field)) → Thinned (Positioned Field) before walk.fields → IsComplete (suc r) walk
      → Walked (suc r) before (fields_under setting object (collect_within setting n object) condition (selections_of set)) walk
      (once_under setting object (once_within setting n object) walk condition (selections_of set))
  walk_under n r deeper None set in_n in_r walk before thin complete =
      deeper_walked r before _ walk _ complete (deeper r set in_n in_r walk before thin (complete_less r walk complete))
  walk_under n r deeper (Some condition) set in_n in_r walk before thin complete =
      tested_both (setting.covers condition.node object) (λ fields new. Walked (suc r) before fields walk new)
      (collect_within setting n object (selections_of set)) [] (once_within setting n object walk (selections_of set)) walk
      (λ covered. deeper_walked r before _ walk _ complete (deeper r set in_n in_r walk before thin (complete_less r walk complete)))
      (λ other. same_walk (suc r) before walk thin complete)

  walk_one : (n r : ℕ) → Walks n → (opened : Selection-F Selection Field InlineFragment SelectionSet)
      → option_and_then (deep_from setting.fragments n) (set_under setting.fragments opened) ≡ None
      → option_and_then (deep_from setting.fragments r) (set_under setting.fragments opened) ≡ None
      → (walk : Walk) (before : List (Positioned Field)) → Thinned (Positioned Field) before walk.fields → IsComplete (suc r) walk
      → Walked (suc r) before (fields_of setting object (collect_within setting n object) opened) walk
      (once_of setting object (once_within setting n object) walk opened)
  walk_one n r deeper (Selection-F.Field field) in_n in_r walk before thin complete = record {
    thin = stays field thin;
    complete = record {
      done = λ name e low fragment is m fits x at.
          Contains-append_left walk.fields (field ∷ []) x (complete.done name e low fragment is m fits x at);
    };
    grows = λ x at. Contains-append_left walk.fields (field ∷ []) x at;
    known = λ name e. inl e;
  }
  walk_one n r deeper (Selection-F.FragmentSpread spread) in_n in_r walk before thin complete =
      walk_spread n r spread.node.fragment_name.node deeper
      (under spread.node.fragment_name.node setting.fragments) refl in_n in_r walk before thin complete
  walk_one n r deeper (Selection-F.InlineFragment fragment) in_n in_r walk before thin complete =
      walk_under n r deeper (out-InlineFragment fragment.node).type_condition
      (out-InlineFragment fragment.node).selection_set in_n in_r walk before thin complete

  walk_all : (n r : ℕ) → Walks n → (xs : List (Positioned Selection)) → Beneath n xs → Beneath r xs
      → (walk : Walk) (before : List (Positioned Field)) → Thinned (Positioned Field) before walk.fields → IsComplete (suc r) walk
      → Walked (suc r) before (collect_within setting (suc n) object xs) walk (once_within setting (suc n) object walk xs)
  walk_all n r deeper [] in_n in_r walk before thin complete = same_walk (suc r) before walk thin complete
  walk_all n r deeper (x ∷ xs) in_n in_r walk before thin complete =
      let after : Walk = once_of setting object (once_within setting n object) walk (out-Selection x.node) in
      let its : List (Positioned Field) = fields_of setting object (collect_within setting n object) (out-Selection x.node) in
      let one : Walked (suc r) before its walk after
      = walk_one n r deeper (out-Selection x.node) (none_here _ _ in_n) (none_here _ _ in_r) walk before thin complete in
      further (suc r) before its (collect_within setting (suc n) object xs) walk after (once_within setting (suc n) object after xs) one
      (walk_all n r deeper xs (none_behind _ _ in_n) (none_behind _ _ in_r) after (before ++ its) one.thin one.complete)

  walks : (n : ℕ) → Walks n
  walks zero r set in_n in_r walk before thin complete = cc
  walks (suc n) zero set in_n in_r walk before thin complete = cc
  walks (suc n) (suc r) set in_n in_r walk before thin complete =
      walk_all n r (walks n) (selections_of set) in_n in_r walk before thin complete

  -- from no field on, within levels that suffice
  pub once_thin : (n : ℕ) (xs : List (Positioned Selection)) → nests setting.fragments n xs ≡ true
      → Thinned (Positioned Field) (collect_within setting n object xs) (once_within setting n object nothing xs).fields
  once_thin zero xs nest = absurd (false≢true nest)
  once_thin (suc n) xs nest =
      let beneath : Beneath n xs = none_from _ nest in
      let complete : IsComplete (suc n) nothing = record { done = λ name e. absurd (false≢true e) } in
      (walk_all n n (walks n) xs beneath beneath nothing [] empty complete).thin

-- selections as a set
abbrev as_set : List (Positioned Selection) → Positioned SelectionSet
as_set xs = record { pos = record { line = 0; column = 0 }; node = roll-SelectionSet (record { items = xs }) }

selections_as : (xs : List (Positioned Selection)) → selections_of (as_set xs) ≡ xs
selections_as xs = ap (λ set. set.items) (out-roll-SelectionSet (record { items = xs }))

module _ (fragments : Fragments) where
  -- a set nests where its selections do
  pub nests_of : (n : ℕ) (set : Positioned SelectionSet) → deep_from fragments n set ≡ None → nests fragments n (selections_of set) ≡ true
  nests_of zero set none = cc
  nests_of (suc n) set none = ap is_none none

  nests_as : (n : ℕ) (xs : List (Positioned Selection)) → nests fragments n xs ≡ true → deep_from fragments n (as_set xs) ≡ None
  nests_as zero xs nest = absurd (false≢true nest)
  nests_as (suc n) xs nest =
      subst (λ ys. first_in (λ selection. option_and_then (deep_from fragments n) (set_beneath fragments selection)) ys ≡ None)
      (sym (selections_as xs))
      (none_from _ nest)

  nests_together : (n : ℕ) (xs ys : List (Positioned Selection)) → nests fragments n xs ≡ true → nests fragments n ys ≡ true
      → nests fragments n (xs ++ ys) ≡ true
  nests_together zero xs ys one other = absurd (false≢true one)
  nests_together (suc n) xs ys one other = ap is_none (none_both _ xs ys (none_from _ one) (none_from _ other))

collected_nests : (setting : Setting) (object : List ℕ) (xs : List (Positioned Selection)) → nests setting.fragments setting.levels xs
    ≡ true
    → (field : Positioned Field) → Contains (collect setting object xs) field
    → nests setting.fragments setting.levels (own_selections field) ≡ true
collected_nests setting object xs nest field at =
    let all : AllByRecursion (FieldNests setting object setting.levels) (collect setting object xs)
    = subst (λ ys. AllByRecursion (FieldNests setting object setting.levels) (collect setting object ys)) (selections_as xs)
    (collected_nest setting object setting.levels setting.levels (as_set xs) (nests_as setting.fragments setting.levels xs nest)) in
    nests_of setting.fragments setting.levels _
    (each_at (FieldNests setting object setting.levels) (collect setting object xs) field all at)

pub leaves_out : (setting : Setting) → LeavesOut (reading setting) (collect_once setting) (nests setting.fragments setting.levels)
leaves_out setting = record {
  thinned = λ object xs nest. once_thin setting object setting.levels xs nest;
  beneath = λ object xs nest field at. collected_nests setting object xs nest field at;
  together = nests_together setting.fragments setting.levels;
}
