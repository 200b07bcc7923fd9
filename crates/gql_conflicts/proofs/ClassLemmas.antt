-- A document in classes has no conflicts.
use Rattle.std.proofs.Common.{inl, inr, ◌≡◌, ℕ, zero, suc, Bool, true, false, cond, not, ◌&&◌, List, [], ◌∷◌, ◌++◌, Option, Some, None, slice_get, refl, ap, sym, subst, ◌∙◌}
use Rattle.std.specs.Prelude.{option_and_then}
use Rattle.std.specs.List.{AllByRecursion, Contains, flat_map}
use Rattle.std.specs.Str.{bytes_eq}
use Rattle.std.specs.Cmp.Lexicographic.{bytes_decides}
use Rattle.std.proofs.Math.ListN.{length-map}
use Rattle.std.proofs.lemmas.List.Elements.{Contains-append_cases}
use Rattle.gql_base.specs.Names.{place_of}
use Rattle.gql_base.specs.Pairs.{names_of, under, unite, unite_all, values_of}
use Rattle.gql_base.proofs.PairLemmas.{under_zipped, zipped_again}
use Rattle.gql_doc.specs.Depth.{fragment_set, operation_set, operations_in, selections_of}
use Rattle.gql_doc.specs.declared.document.ExecutableDocument.{ExecutableDocument}
use Rattle.gql_doc.specs.declared.document.Field.{Field}
use Rattle.gql_doc.specs.declared.document.FragmentDefinition.{FragmentDefinition}
use Rattle.gql_doc.specs.declared.document.InlineFragment.{out-InlineFragment}
use Rattle.gql_doc.specs.declared.document.OperationDefinition.{OperationDefinition}
use Rattle.gql_doc.specs.declared.document.Positioned.{Positioned}
use Rattle.gql_doc.specs.declared.document.Selection.{Selection, out-Selection}
use Rattle.gql_select.specs.Alike.{alike}
use Rattle.gql_select.specs.Collected.{Setting, collect, collect_within, fields_of, fields_of_spread, fields_under, own_selections}
use Rattle.gql_select.specs.Conflicts.{agreeing, both_alike, conflicts, first_differing}
use Rattle.gql_select.specs.Documents.{both, reading}
use Rattle.gql_select.specs.Reading.{keyed}
use Rattle.gql_select.proofs.AlikeLemmas.{alike_through, alike_turned, parts_true}
use Rattle.gql_select.proofs.DocumentLemmas.{is_reading, set_of_both}
use Rattle.gql_select.proofs.UnitingLemmas.{either, unite_here, unite_past}
use Rattle.gql_conflicts.specs.Classes.{AllFit, Fits, FragmentsFit, HasEntry as HasEntryIn, HasKeysOnce, IsInClasses, key_at, of_field, of_inline, of_spread}
use Rattle.gql_conflicts.specs.DocumentConflicts.{conflicts_at, document_conflicts, operation_conflicts, told}
use Rattle.gql_conflicts.specs.Rooted.{Rooted, root_of, setting_of}
use Rattle.gql_conflicts.specs.declared.entry.Entry.{Entry}
use Rattle.gql_conflicts.proofs.EachLemmas.{each_append, each_other, here, later, none_of_any, none_of_each}

-- what stands under a name stands at its place
under_at : {T : Type 0} (sought : List ℕ) (ps : List (List ℕ × T)) → under sought ps ≡ option_and_then (slice_get (values_of ps)) (place_of sought (names_of ps))
under_at sought ps =
    ap (under sought) (sym (zipped_again ps))
    ∙ under_zipped sought (names_of ps) (values_of ps) (length-map ps (λ p. p.1) ∙ sym (length-map ps (λ p. p.0)))

module _ (setting : Setting) (classes : List ℕ) (entries : List Entry) (once : HasKeysOnce entries)
    (fit : FragmentsFit setting.fragments classes entries) where
  abbrev AllIn : ℕ → List (Positioned Selection) → Type 0
  AllIn class selections = AllFit setting.fragments classes entries class selections

  abbrev HasEntry : ℕ → Positioned Field → Type 0
  HasEntry class field = HasEntryIn setting.fragments classes entries class field

  -- so has the field that stands for a key
  record KeyFits (class : ℕ) (pair : List ℕ × Positioned Field) : Type 0 where
    entry : Entry
    there : Contains entries entry
    class_is : entry.class ≡ class
    key_is : key_at entry.field.now ≡ pair.0
    asks : alike entry.field.now pair.1 ≡ true
    beneath : AllIn entry.beneath (own_selections pair.1)

  module _ (o : List ℕ) where
    -- fields that are collected where a set fits a class have entries there
    abbrev Collects : ℕ → Type 0
    Collects left = (class : ℕ) (selections : List (Positioned Selection)) → AllIn class selections
        → AllByRecursion (HasEntry class) (collect_within setting left o selections)

    chosen_fit : (b : Bool) (class : ℕ) (fields : List (Positioned Field)) → AllByRecursion (HasEntry class) fields → AllByRecursion (HasEntry class) (cond b fields [])
    chosen_fit true class fields all = all
    chosen_fit false class fields all = tt

    module _ (left : ℕ) (deeper : Collects left) (class : ℕ) where
      spread_fit : (name : List ℕ) → ((place : ℕ) → place_of name (names_of setting.fragments) ≡ Some place → slice_get classes place ≡ Some class)
          → (at : Option ℕ) → place_of name (names_of setting.fragments) ≡ at → (found : Option (Positioned FragmentDefinition))
          → found ≡ option_and_then (slice_get (values_of setting.fragments)) at
          → AllByRecursion (HasEntry class) (fields_of_spread setting o (collect_within setting left o) found)
      spread_fit name leads at is None same = tt
      spread_fit name leads None is (Some fragment) same = cc
      spread_fit name leads (Some place) is (Some fragment) same =
          chosen_fit (setting.covers fragment.node.type_condition.node o) class (collect_within setting left o (selections_of (fragment_set fragment)))
          (deeper class (selections_of (fragment_set fragment)) (fit place class fragment (sym same) (leads place is)))

      under_fit : (condition : Option (Positioned (List ℕ))) (selections : List (Positioned Selection)) → AllIn class selections
          → AllByRecursion (HasEntry class) (fields_under setting o (collect_within setting left o) condition selections)
      under_fit None selections all = deeper class selections all
      under_fit (Some condition) selections all =
          chosen_fit (setting.covers condition.node o) class (collect_within setting left o selections) (deeper class selections all)

      selection_fit : (selection : Selection) → Fits setting.fragments classes entries class selection
          → AllByRecursion (HasEntry class) (fields_of setting o (collect_within setting left o) (out-Selection selection))
      selection_fit selection (of_field _ _ field entry opened is beneath) =
          subst (λ layer. AllByRecursion (HasEntry class) (fields_of setting o (collect_within setting left o) layer)) (sym opened)
          (record { entry = entry; is = is; beneath = beneath }, tt)
      selection_fit selection (of_spread _ _ spread opened leads) =
          let name : List ℕ = spread.node.fragment_name.node in
          subst (λ layer. AllByRecursion (HasEntry class) (fields_of setting o (collect_within setting left o) layer)) (sym opened)
          (spread_fit name leads (place_of name (names_of setting.fragments)) refl (under name setting.fragments) (under_at name setting.fragments))
      selection_fit selection (of_inline _ _ inline opened all) =
          subst (λ layer. AllByRecursion (HasEntry class) (fields_of setting o (collect_within setting left o) layer)) (sym opened)
          (under_fit (out-InlineFragment inline.node).type_condition (selections_of (out-InlineFragment inline.node).selection_set) all)

      selections_fit : (selections : List (Positioned Selection)) → AllIn class selections
          → AllByRecursion (HasEntry class) (flat_map (λ selection. fields_of setting o (collect_within setting left o) (out-Selection selection.node)) selections)
      selections_fit [] all = tt
      selections_fit (x ∷ xs) all =
          each_append (HasEntry class) (fields_of setting o (collect_within setting left o) (out-Selection x.node)) _
          (selection_fit x.node (all x (here x xs))) (selections_fit xs (λ s at. all s (later x xs s at)))

    collected_fit : (left : ℕ) → Collects left
    collected_fit zero = λ class selections all. tt
    collected_fit (suc left) = λ class selections all. selections_fit left (collected_fit left) class selections all

  module _ (class : ℕ) where
    fits_both : (one other : Positioned Field) (c : ℕ) → AllIn c (own_selections one) → AllIn c (own_selections other) → AllIn c (own_selections (both one other))
    fits_both one other c first second = λ selection at.
        elim (Contains-append_cases (own_selections one) (own_selections other) selection (subst (λ xs. Contains xs selection) (set_of_both one other) at)) [
          | inl h ↦ first selection h
          | inr h ↦ second selection h
        ]

    -- two entries of a class under one key are one
    module _ (k : List ℕ) (m f : Positioned Field) (one : KeyFits class (k, m)) (has : HasEntry class f) (same : k ≡ key_at f) where
      one_entry : one.entry ≡ has.entry
      one_entry = once one.entry has.entry one.there has.is.there (one.class_is ∙ sym has.is.stands.class_is) (one.key_is ∙ same ∙ sym has.is.stands.key_is)

      both_like : alike m f ≡ true
      both_like =
          alike_through m one.entry.field.now f (alike_turned one.entry.field.now m one.asks)
          (ap (λ e. alike e.field.now f) one_entry ∙ has.is.stands.asks)

      both_fit : KeyFits class (k, both_alike (reading setting) m f)
      both_fit =
          let merged : both_alike (reading setting) m f ≡ both m f = rw both_like refl in
          subst (λ g. KeyFits class (k, g)) (sym merged)
          (record {
            entry = one.entry;
            there = one.there;
            class_is = one.class_is;
            key_is = one.key_is;
            asks = (is_reading setting).both_alike one.entry.field.now m f ∙ one.asks;
            beneath = fits_both m f one.entry.beneath one.beneath (subst (λ e. AllIn e.beneath (own_selections f)) (sym one_entry) has.beneath);
          })

    new_fit : (f : Positioned Field) → HasEntry class f → KeyFits class (key_at f, f)
    new_fit f has = record {
      entry = has.entry;
      there = has.is.there;
      class_is = has.is.stands.class_is;
      key_is = has.is.stands.key_is;
      asks = has.is.stands.asks;
      beneath = has.beneath;
    }

    unite_fit : (ps : List (List ℕ × Positioned Field)) (f : Positioned Field) → AllByRecursion (KeyFits class) ps → HasEntry class f
        → AllByRecursion (KeyFits class) (unite (both_alike (reading setting)) ps (key_at f) f)
    unite_fit [] f all has = (new_fit f has, tt)
    unite_fit (p ∷ ps) f all has =
        either (bytes_eq (key_at f) p.0) (AllByRecursion (KeyFits class) (unite (both_alike (reading setting)) (p ∷ ps) (key_at f) f))
        (λ e. subst (AllByRecursion (KeyFits class)) (sym (unite_here (both_alike (reading setting)) p ps (key_at f) f e))
        (both_fit p.0 p.1 f all.0 has (sym ((bytes_decides (key_at f) p.0).0 e)), all.1))
        (λ e. subst (AllByRecursion (KeyFits class)) (sym (unite_past (both_alike (reading setting)) p ps (key_at f) f e)) (all.0, unite_fit ps f all.1 has))

    united_fit : (ps : List (List ℕ × Positioned Field)) (fs : List (Positioned Field)) → AllByRecursion (KeyFits class) ps → AllByRecursion (HasEntry class) fs
        → AllByRecursion (KeyFits class) (unite_all (both_alike (reading setting)) ps (keyed (reading setting) fs))
    united_fit ps [] all has = all
    united_fit ps (f ∷ fs) all has = united_fit (unite (both_alike (reading setting)) ps (key_at f) f) fs (unite_fit ps f all has.0) has.1

    module _ {E : Type 0} (tells : Positioned Field → E) where
      differs_not : (m : List ℕ × Positioned Field) → KeyFits class m → (fs : List (Positioned Field)) → AllByRecursion (HasEntry class) fs
          → first_differing (reading setting) tells m fs ≡ []
      differs_not m one [] has = refl
      differs_not m one (f ∷ fs) has =
          either (bytes_eq (key_at f) m.0 && not (alike m.1 f)) (first_differing (reading setting) tells m (f ∷ fs) ≡ [])
          (λ t.
          let parts = parts_true (bytes_eq (key_at f) m.0) (not (alike m.1 f)) t in
          let like : alike m.1 f ≡ true = both_like m.0 m.1 f one has.0 (sym ((bytes_decides (key_at f) m.0).0 parts.0)) in
          let unlike : not true ≡ true = ap not (sym like) ∙ parts.1 in cc)
          (λ t.
          let past : first_differing (reading setting) tells m (f ∷ fs) ≡ first_differing (reading setting) tells m fs = rw t refl in
          past ∙ differs_not m one fs has.1)

  pub none_in_class : {E : Type 0} (tells : Positioned Field → E) (n : ℕ) (o : List ℕ) (class : ℕ) (set : List (Positioned Selection)) → AllIn class set
      → conflicts (reading setting) tells n o set ≡ []
  none_in_class tells zero o class set all = refl
  none_in_class tells (suc n) o class set all =
      let fs : List (Positioned Field) = collect setting o set in
      let has : AllByRecursion (HasEntry class) fs = collected_fit o setting.levels class set all in
      none_of_each
      (λ m. first_differing (reading setting) tells m fs ++ flat_map (λ inner. conflicts (reading setting) tells n inner (own_selections m.1)) ((reading setting).objects o m.1))
      (agreeing (reading setting) fs)
      (each_other (KeyFits class) _
      (λ m one. ap (λ es. es ++ flat_map (λ inner. conflicts (reading setting) tells n inner (own_selections m.1)) ((reading setting).objects o m.1))
      (differs_not class tells m one fs has)
      ∙ none_of_any (λ inner. conflicts (reading setting) tells n inner (own_selections m.1)) (λ inner. none_in_class tells n inner one.entry.beneath (own_selections m.1) one.beneath)
      ((reading setting).objects o m.1))
      (agreeing (reading setting) fs) (united_fit class [] fs tt has))

module _ (document : ExecutableDocument) (classes : List ℕ) (entries : List Entry) (is : IsInClasses document classes entries) (rooted : Rooted) (levels : ℕ) where
  none_at : (root : Option (List ℕ)) (class : ℕ) (set : List (Positioned Selection)) → AllFit document.fragments classes entries class set
      → conflicts_at rooted document.fragments levels root set ≡ []
  none_at None class set all = refl
  none_at (Some root) class set all =
      none_in_class (setting_of rooted document.fragments levels) classes entries is.once is.fragments told levels root class set all

  none_in_each : (operations : List (Positioned OperationDefinition))
      → ((operation : Positioned OperationDefinition) → Contains operations operation
      → (class : ℕ) × AllFit document.fragments classes entries class (selections_of (operation_set operation)))
      → flat_map (operation_conflicts rooted document.fragments levels) operations ≡ []
  none_in_each [] each = refl
  none_in_each (x ∷ xs) each =
      let (class, all) = each x (here x xs) in
      ap (λ es. es ++ flat_map (operation_conflicts rooted document.fragments levels) xs) (none_at (root_of rooted x.node.ty) class (selections_of (operation_set x)) all)
      ∙ none_in_each xs (λ operation at. each operation (later x xs operation at))

  -- a document in classes has no conflict
  pub none_in_classes : document_conflicts rooted document levels ≡ []
  none_in_classes = none_in_each (operations_in document.operations) is.operations
