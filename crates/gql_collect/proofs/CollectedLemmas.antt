-- What an execution collects: all of it is among what CollectFields gives, and what is left out are repetitions and
-- fields that aren't declared.
use Rattle.std.proofs.Common.{◌≡◌, ℕ, zero, suc, Bool, true, false, cond, List, [], ◌∷◌, ◌++◌, filter, fold, Option, Some, None, refl, ap, sym, subst, subst₂, ◌∙◌, arith}
use Rattle.std.proofs.lemmas.Bool.{false≢true}
use Rattle.std.proofs.lemmas.List.{append-nil}
use Rattle.std.proofs.lemmas.List.Elements.{filter-append}
use Rattle.std.specs.Borrow.{Bor}
use Rattle.std.specs.List.{AllByRecursion, Contains, flat_map}
use Rattle.gql_base.specs.Pairs.{under}
use Rattle.gql_doc.specs.Depth.{fragment_set, selections_of}
use Rattle.gql_doc.specs.declared.document.Field.{Field}
use Rattle.gql_doc.specs.declared.document.FragmentDefinition.{FragmentDefinition}
use Rattle.gql_doc.specs.declared.document.InlineFragment.{InlineFragment, out-InlineFragment}
use Rattle.gql_doc.specs.declared.document.Positioned.{Positioned}
use Rattle.gql_doc.specs.declared.document.Selection.{Selection, out-Selection}
use Rattle.gql_doc.specs.declared.document.Selection.TheOpen.{Selection-F}
use Rattle.gql_doc.specs.declared.document.SelectionSet.{SelectionSet}
use Rattle.gql_select.proofs.MergeLemmas.{first_in, later_in}
use Rattle.gql_select.proofs.NestLemmas.{every_both}
use Rattle.gql_select.proofs.OnceLemmas.{leaves_out}
use Rattle.gql_select.proofs.ThinLemmas.{contains_none}
use Rattle.gql_select.proofs.UnitingLemmas.{either}
use Rattle.gql_select.specs.Alike.{name_of}
use Rattle.gql_select.specs.Behind.{all_behind}
use Rattle.gql_select.specs.Collected.{collect, collect_within, fields_of, fields_of_spread, fields_under, Setting}
use Rattle.gql_select.specs.Documents.{reading}
use Rattle.gql_select.specs.Fewer.{LeavesOut, reading_over}
use Rattle.gql_select.specs.Once.{collect_once, enter, is_entered, nests, nothing, once_of, once_spread, once_under, once_within, Walk}
use Rattle.gql_select.specs.Reading.{Reading}
use Rattle.gql_select.specs.Thinned.{empty, goes, stays, Thinned}
use Rattle.gql_collect.specs.Basis.{execution_of, setting_by}
use Rattle.gql_collect.specs.DeclaredFields.{declared_reading, declares}
use Rattle.gql_collect.specs.GroupFields.{collect_by, collected}
use Rattle.gql_collect.specs.declared.basis.Basis.{Basis}
use Rattle.gql_collect.specs.declared.basis.Grouping.{Grouping}
use Rattle.gql_collect.specs.declared.basis.Grouping.TheVariants as grouping
use Rattle.gql_collect.proofs.DeclaredFieldLemmas.{in_kept}

module _ {X : Type 0} (keeps : X → Bool) where
  all_first : (P : X → Type 0) (b : Bool) (x : X) (kept : List X) → P x → AllByRecursion P kept → AllByRecursion P (cond b (x ∷ kept) kept)
  all_first P true x kept here rest = (here, rest)
  all_first P false x kept here rest = rest

  -- what holds of all holds of what a test leaves
  pub all_kept : (P : X → Type 0) (xs : List X) → AllByRecursion P xs → AllByRecursion P (filter keeps xs)
  all_kept P [] h = tt
  all_kept P (x ∷ xs) h = all_first P (keeps x) x (filter keeps xs) h.0 (all_kept P xs h.1)

  kept_first : (b : Bool) (x : X) (kept : List X) → b ≡ true → Contains (cond b (x ∷ kept) kept) x
  kept_first true x kept passes = first_in x kept
  kept_first false x kept passes = absurd (false≢true passes)

  kept_later : (b : Bool) (x : X) (kept : List X) (y : X) → Contains kept y → Contains (cond b (x ∷ kept) kept) y
  kept_later true x kept y at = later_in x y kept at
  kept_later false x kept y at = at

  -- what passes the test is left
  kept_in : (xs : List X) (y : X) → keeps y ≡ true → Contains xs y → Contains (filter keeps xs) y
  kept_in [] y passes at = absurd (contains_none y at)
  kept_in (x ∷ xs) y passes (zero, within, is) = subst (Contains (filter keeps (x ∷ xs))) is (kept_first (keeps x) x (filter keeps xs) (ap keeps is ∙ passes))
  kept_in (x ∷ xs) y passes (suc k, within, is) = kept_later (keeps x) x (filter keeps xs) y (kept_in xs y passes (k, omega arith, is))

  end_stays : (xs : List X) (x : X) → keeps x ≡ true → filter keeps (xs ++ x ∷ []) ≡ filter keeps xs ++ x ∷ []
  end_stays xs x passes = filter-append keeps xs (x ∷ []) ∙ ap (λ b. filter keeps xs ++ cond b (x ∷ []) []) passes

  end_goes : (xs : List X) (x : X) → keeps x ≡ false → filter keeps (xs ++ x ∷ []) ≡ filter keeps xs
  end_goes xs x fails = filter-append keeps xs (x ∷ []) ∙ ap (λ b. filter keeps xs ++ cond b (x ∷ []) []) fails ∙ append-nil (filter keeps xs)

  -- where some repetitions are left out, so they are of what a test leaves
  pub thin_kept : (xs ys : List X) → Thinned X xs ys → Thinned X (filter keeps xs) (filter keeps ys)
  thin_kept xs ys empty = empty
  thin_kept xs ys (stays {xs = us} {ys = vs} x thin) =
      either (keeps x) (Thinned X (filter keeps (us ++ x ∷ [])) (filter keeps (vs ++ x ∷ [])))
      (λ passes. subst₂ (λ a b. Thinned X a b) (sym (end_stays us x passes)) (sym (end_stays vs x passes)) (stays x (thin_kept us vs thin)))
      (λ fails. subst₂ (λ a b. Thinned X a b) (sym (end_goes us x fails)) (sym (end_goes vs x fails)) (thin_kept us vs thin))
  thin_kept xs ys (goes {xs = us} {ys = vs} x thin there) =
      either (keeps x) (Thinned X (filter keeps (us ++ x ∷ [])) (filter keeps vs))
      (λ passes. subst (λ a. Thinned X a (filter keeps vs)) (sym (end_stays us x passes)) (goes x (thin_kept us vs thin) (kept_in vs x passes there)))
      (λ fails. subst (λ a. Thinned X a (filter keeps vs)) (sym (end_goes us x fails)) (thin_kept us vs thin))

behind_first : {X : Type 0} (b : Bool) (x : Bor X) (kept : List (Bor X)) (rest : List X) → all_behind kept ≡ rest
    → all_behind (cond b (x ∷ kept) kept) ≡ cond b (x.now ∷ rest) rest
behind_first true x kept rest is = ap (λ ys. x.now ∷ ys) is
behind_first false x kept rest is = is

-- of references that are kept by what is behind them, that is kept
pub behind_kept : {X : Type 0} (keeps : X → Bool) (xs : List (Bor X)) → all_behind (filter (λ x. keeps x.now) xs) ≡ filter keeps (all_behind xs)
behind_kept keeps [] = refl
behind_kept keeps (x ∷ xs) = behind_first (keeps x.now) x (filter (λ y. keeps y.now) xs) (filter keeps (all_behind xs)) (behind_kept keeps xs)

-- a way to collect fields that leaves out repetitions alone still does so where both sides are tested
pub leaves_kept : {O F X : Type 0} (reading : Reading O F X) (fewer : O → List X → List F) (nests : List X → Bool) (keeps : O → F → Bool)
    → LeavesOut reading fewer nests
    → LeavesOut (reading_over reading (λ o set. filter (keeps o) (reading.fields o set))) (λ o set. filter (keeps o) (fewer o set)) nests
leaves_kept reading fewer nests keeps leaves = record {
  thinned = λ o set nest. thin_kept (keeps o) (reading.fields o set) (fewer o set) (leaves.thinned o set nest);
  beneath = λ o set nest f at. leaves.beneath o set nest f (in_kept (keeps o) (reading.fields o set) f at);
  together = leaves.together;
}

-- merged execution leaves out repetitions alone, of the fields that an object declares
pub collected_leaves : (basis : Basis)
    → LeavesOut (declared_reading (execution_of basis) (setting_by basis)) (collected grouping.ByKey basis)
    (nests (setting_by basis).fragments (setting_by basis).levels)
collected_leaves basis =
    leaves_kept (reading (setting_by basis)) (collect_once (setting_by basis)) (nests (setting_by basis).fragments (setting_by basis).levels)
    (λ object field. declares (execution_of basis) object (name_of field)) (leaves_out (setting_by basis))

-- what holds of all fields that are collected holds of those of each fragment's first spread
module _ (setting : Setting) (object : List ℕ) (P : Positioned Field → Type 0) where
  all_before : (xs ys : List (Positioned Field)) → AllByRecursion P (xs ++ ys) → AllByRecursion P xs
  all_before [] ys h = tt
  all_before (x ∷ xs) ys h = (h.0, all_before xs ys h.1)

  all_behind_them : (xs ys : List (Positioned Field)) → AllByRecursion P (xs ++ ys) → AllByRecursion P ys
  all_behind_them [] ys h = h
  all_behind_them (x ∷ xs) ys h = all_behind_them xs ys h.1

  -- it holds of what a walk has found, where it does of what is collected
  abbrev Finds : (List (Positioned Selection) → List (Positioned Field)) → (Walk → List (Positioned Selection) → Walk) → Type 0
  Finds all deeper = (walk : Walk) (selections : List (Positioned Selection)) → AllByRecursion P (all selections) → AllByRecursion P walk.fields
      → AllByRecursion P (deeper walk selections).fields

  module _ (all : List (Positioned Selection) → List (Positioned Field)) (deeper : Walk → List (Positioned Selection) → Walk)
      (finds : Finds all deeper) (walk : Walk) (so_far : AllByRecursion P walk.fields) where
    tested_finds : (covered : Bool) (next : Walk) (selections : List (Positioned Selection)) → AllByRecursion P next.fields
        → AllByRecursion P (cond covered (all selections) []) → AllByRecursion P (cond covered (deeper next selections) walk).fields
    tested_finds true next selections before h = finds next selections h before
    tested_finds false next selections before h = so_far

    enter_finds : (name : List ℕ) (found : Option (Positioned FragmentDefinition)) → AllByRecursion P (fields_of_spread setting object all found)
        → AllByRecursion P (enter setting object deeper walk name found).fields
    enter_finds name None h = so_far
    enter_finds name (Some fragment) h =
        tested_finds (setting.covers fragment.node.type_condition.node object) (record walk { entered = name ∷ walk.entered })
        (selections_of (fragment_set fragment)) so_far h

    spread_finds : (name : List ℕ) → AllByRecursion P (fields_of_spread setting object all (under name setting.fragments))
        → AllByRecursion P (once_spread setting object deeper walk name).fields
    spread_finds name h = by (is_entered name walk)
      where
        by : (entered : Bool) → AllByRecursion P (cond entered walk (enter setting object deeper walk name (under name setting.fragments))).fields
        by true = so_far
        by false = enter_finds name (under name setting.fragments) h

    under_finds : (condition : Option (Positioned (List ℕ))) (selections : List (Positioned Selection))
        → AllByRecursion P (fields_under setting object all condition selections)
        → AllByRecursion P (once_under setting object deeper walk condition selections).fields
    under_finds None selections h = finds walk selections h so_far
    under_finds (Some condition) selections h = tested_finds (setting.covers condition.node object) walk selections so_far h

    one_finds : (x : Selection-F Selection Field InlineFragment SelectionSet) → AllByRecursion P (fields_of setting object all x)
        → AllByRecursion P (once_of setting object deeper walk x).fields
    one_finds (Selection-F.Field field) h = every_both P walk.fields (field ∷ []) so_far h
    one_finds (Selection-F.FragmentSpread spread) h = spread_finds spread.node.fragment_name.node h
    one_finds (Selection-F.InlineFragment fragment) h =
        under_finds (out-InlineFragment fragment.node).type_condition (selections_of (out-InlineFragment fragment.node).selection_set) h

  each_finds : (all : List (Positioned Selection) → List (Positioned Field)) (deeper : Walk → List (Positioned Selection) → Walk)
      → Finds all deeper → (xs : List (Positioned Selection)) (walk : Walk)
      → AllByRecursion P (flat_map (λ selection. fields_of setting object all (out-Selection selection.node)) xs) → AllByRecursion P walk.fields
      → AllByRecursion P (fold (λ walk selection. once_of setting object deeper walk (out-Selection selection.node)) walk xs).fields
  each_finds all deeper finds [] walk h so_far = so_far
  each_finds all deeper finds (x ∷ xs) walk h so_far =
      let own : List (Positioned Field) = fields_of setting object all (out-Selection x.node) in
      let rest : List (Positioned Field) = flat_map (λ selection. fields_of setting object all (out-Selection selection.node)) xs in
      each_finds all deeper finds xs (once_of setting object deeper walk (out-Selection x.node)) (all_behind_them own rest h)
      (one_finds all deeper finds walk so_far (out-Selection x.node) (all_before own rest h))

  walk_finds : (left : ℕ) → Finds (collect_within setting left object) (once_within setting left object)
  walk_finds zero walk selections h so_far = so_far
  walk_finds (suc left) walk selections h so_far =
      each_finds (collect_within setting left object) (once_within setting left object) (walk_finds left) selections walk h so_far

  all_by : (by : Grouping) (selections : List (Positioned Selection)) → AllByRecursion P (collect setting object selections)
      → AllByRecursion P (collect_by by setting object selections)
  all_by grouping.ByKey selections h = walk_finds setting.levels nothing selections h tt
  all_by grouping.ByKeyWhole selections h = walk_finds setting.levels nothing selections h tt
  all_by grouping.Each selections h = h

-- what holds of all fields that are collected holds of those that an execution goes by
pub all_collected : (by : Grouping) (basis : Basis) (object : List ℕ) (P : Positioned Field → Type 0) (selections : List (Positioned Selection))
    → AllByRecursion P (collect (setting_by basis) object selections) → AllByRecursion P (collected by basis object selections)
all_collected by basis object P selections h =
    all_kept (λ field. declares (execution_of basis) object (name_of field)) P (collect_by by (setting_by basis) object selections)
    (all_by (setting_by basis) object P by selections h)

none_there : {X : Type 0} (xs : List X) → AllByRecursion (λ x. ⊥) xs → xs ≡ []
none_there [] h = refl
none_there (x ∷ xs) h = absurd h.0

-- where no field is collected there is none for it either
pub none_collected : (by : Grouping) (basis : Basis) (object : List ℕ) (selections : List (Positioned Selection))
    → collect (setting_by basis) object selections ≡ [] → collected by basis object selections ≡ []
none_collected by basis object selections none =
    none_there (collected by basis object selections)
    (all_collected by basis object (λ field. ⊥) selections (subst (AllByRecursion (λ field. ⊥)) (sym none) tt))
