-- What is kept of a document agrees where the document does: each field that is kept has its origin in the document.
use Rattle.std.proofs.Common.{rules, arith, ◌≡◌, ℕ, zero, suc, Bool, true, false, cond, List, [], ◌∷◌, ◌++◌, Option, Some, None, option_map, map, refl, ap, sym, ◌∙◌, subst}
use Rattle.std.proofs.Common.{inl, inr}
use Rattle.std.specs.List.{Contains, flat_map, filter_map, cons_option}
use Rattle.std.proofs.lemmas.List.Elements.{Contains-append_left, Contains-append_right, Contains-append_cases}
use Rattle.std.specs.Str.{bytes_eq}
use Rattle.gql_base.specs.Pairs.{under}
use Rattle.gql_base.specs.declared.value.Value.{Value}
use Rattle.gql_doc.specs.Depth.{Fragments, selections_of, fragment_set}
use Rattle.gql_doc.specs.declared.document.Field.{Field, out-Field}
use Rattle.gql_doc.specs.declared.document.FragmentDefinition.{FragmentDefinition}
use Rattle.gql_doc.specs.declared.document.FragmentSpread.{FragmentSpread}
use Rattle.gql_doc.specs.declared.document.InlineFragment.{InlineFragment, out-InlineFragment}
use Rattle.gql_doc.specs.declared.document.Positioned.{Positioned}
use Rattle.gql_doc.specs.declared.document.Selection.{Selection, out-Selection, roll-Selection, roll-out-Selection, the_lemmas}
use Rattle.gql_doc.specs.declared.document.Selection.TheOpen.{Selection-F}
use Rattle.gql_doc.specs.declared.document.Selection.TheVariants as selection
use Rattle.gql_doc.specs.declared.document.Selection.TheViews.{rolls-Field, rolls-FragmentSpread, rolls-InlineFragment}
use Rattle.gql_doc.specs.declared.document.SelectionSet.{SelectionSet, out-SelectionSet}
use Rattle.gql_select.specs.Kept.{if_kept, is_kept, kept, kept_field, kept_fragment, kept_fragments, kept_if, kept_inline, kept_selection, kept_set, other_field, other_inline, others, kept_setting}
use Rattle.gql_select.specs.Alike.{alike, name_of}
use Rattle.gql_select.specs.Collected.{Setting, collect_within, fields_of, fields_of_spread, fields_under, own_selections}
use Rattle.gql_select.specs.Conflicts.{Agree}
use Rattle.gql_select.specs.Constants.{given}
use Rattle.gql_base.specs.declared.pos.Pos.{Pos}
use Rattle.gql_doc.specs.Document.{alias_or, key_of}
use Rattle.gql_select.specs.Documents.{reading}
use Rattle.gql_select.proofs.AlikeLemmas.{alike_from, alike_says}
use Rattle.gql_select.proofs.MergeLemmas.{first_in}

filter_map_of_map : {A B C : Type 0} (h : B → Option C) (f : A → B) (xs : List A) → filter_map h (map f xs) ≡ filter_map (λ x. h (f x)) xs
filter_map_of_map h f [] = refl
filter_map_of_map h f (x ∷ xs) = ap (cons_option (h (f x))) (filter_map_of_map h f xs)

module _ (known : List ℕ → Value) where
  -- a field as it is kept
  abbrev kept_occurrence : Positioned Field → Positioned Field
  kept_occurrence f = record { pos = f.pos; node = other_field known (kept_field known f.node) }

  set_items : (set : SelectionSet) → (out-SelectionSet (kept_set known set)).items ≡ kept known (out-SelectionSet set).items
  set_items set = search (rules, the_lemmas, filter_map_of_map)

  selection-Field : (field : Positioned Field)
      → kept_selection known (selection.Field field)
      ≡ kept_if known (out-Field (kept_field known field.node)).directives (selection.Field (kept_occurrence field))
  selection-Field field = search (rules, the_lemmas)

  selection-Spread : (spread : Positioned FragmentSpread)
      → kept_selection known (selection.FragmentSpread spread)
      ≡ kept_if known spread.node.directives
      (selection.FragmentSpread (record { pos = spread.pos; node = record spread.node { directives = others spread.node.directives } }))
  selection-Spread spread = search (rules, the_lemmas)

  selection-Inline : (fragment : Positioned InlineFragment)
      → kept_selection known (selection.InlineFragment fragment)
      ≡ kept_if known (out-InlineFragment (kept_inline known fragment.node)).directives
      (selection.InlineFragment (record { pos = fragment.pos; node = other_inline known (kept_inline known fragment.node) }))
  selection-Inline fragment = search (rules, the_lemmas)

  inline_condition : (fragment : InlineFragment)
      → (out-InlineFragment (other_inline known (kept_inline known fragment))).type_condition ≡ (out-InlineFragment fragment).type_condition
  inline_condition fragment = search (rules, the_lemmas)

  inline_items : (fragment : InlineFragment)
      → selections_of (out-InlineFragment (other_inline known (kept_inline known fragment))).selection_set ≡ kept known (selections_of (out-InlineFragment fragment).selection_set)
  inline_items fragment = search (rules, the_lemmas, set_items)

  field_items : (field : Field)
      → selections_of (out-Field (other_field known (kept_field known field))).selection_set ≡ kept known (selections_of (out-Field field).selection_set)
  field_items field = search (rules, the_lemmas, set_items)

  field_name : (field : Field) → (out-Field (other_field known (kept_field known field))).name ≡ (out-Field field).name
  field_name field = search (rules, the_lemmas)

  field_alias : (field : Field) → (out-Field (other_field known (kept_field known field))).alias ≡ (out-Field field).alias
  field_alias field = search (rules, the_lemmas)

  field_arguments : (field : Field) → (out-Field (other_field known (kept_field known field))).arguments ≡ (out-Field field).arguments
  field_arguments field = search (rules, the_lemmas)

  by_test : (b : Bool) (fragment : Positioned FragmentDefinition) (one : Option (Positioned FragmentDefinition)) (other : Option (Positioned FragmentDefinition))
      → one ≡ option_map (kept_fragment known) other
      → cond b (Some (kept_fragment known fragment)) one ≡ option_map (kept_fragment known) (cond b (Some fragment) other)
  by_test true fragment one other e = refl
  by_test false fragment one other e = e

  under_kept : (name : List ℕ) (fragments : Fragments) → under name (kept_fragments known fragments) ≡ option_map (kept_fragment known) (under name fragments)
  under_kept name [] = refl
  under_kept name (p ∷ ps) = by_test (bytes_eq name p.0) p.1 (under name (kept_fragments known ps)) (under name ps) (under_kept name ps)

none_in : {A : Type 0} (x : A) (G : Type 0) → Contains [] x → G
none_in x G (k, within, at) = absurd (omega arith)

one_in : {A : Type 0} (x y : A) → Contains (x ∷ []) y → x ≡ y
one_in x y (zero, within, at) = at
one_in x y (suc k, within, at) = absurd (omega arith)

module _ (known : List ℕ → Value) (setting : Setting) where
  -- a field that is kept, and the one of the document that it comes from
  record Origin (fields : List (Positioned Field)) (f : Positioned Field) : Type 0 where
    source : Positioned Field
    there : Contains fields source
    is_kept : f ≡ kept_occurrence known source

  origin_left : (xs ys : List (Positioned Field)) (f : Positioned Field) → Origin xs f → Origin (xs ++ ys) f
  origin_left xs ys f origin = record { source = origin.source; there = Contains-append_left xs ys origin.source origin.there; is_kept = origin.is_kept }

  origin_right : (xs ys : List (Positioned Field)) (f : Positioned Field) → Origin ys f → Origin (xs ++ ys) f
  origin_right xs ys f origin = record { source = origin.source; there = Contains-append_right xs ys origin.source origin.there; is_kept = origin.is_kept }

  origin_if : (b : Bool) (kepts sources : List (Positioned Field)) (f : Positioned Field) → (Contains kepts f → Origin sources f)
      → Contains (cond b kepts []) f → Origin (cond b sources []) f
  origin_if true kepts sources f from at = from at
  origin_if false kepts sources f from at = none_in f (Origin [] f) at

  module _ (n : ℕ) (below : (o : List ℕ) (xs : List (Positioned Selection)) (f : Positioned Field)
      → Contains (collect_within (kept_setting known setting) n o (kept known xs)) f → Origin (collect_within setting n o xs) f) where
    kept_fields : List ℕ → Positioned Selection → List (Positioned Field)
    kept_fields o s = fields_of (kept_setting known setting) o (collect_within (kept_setting known setting) n o) (out-Selection s.node)

    maybe_fields : List ℕ → Option (Positioned Selection) → List (Positioned Field)
    maybe_fields o None = []
    maybe_fields o (Some s) = kept_fields o s

    flat_cons : (o : List ℕ) (s : Option (Positioned Selection)) (rest : List (Positioned Selection))
        → flat_map (kept_fields o) (cons_option s rest) ≡ maybe_fields o s ++ flat_map (kept_fields o) rest
    unfolding maybe_fields
    flat_cons o None rest = refl
    flat_cons o (Some s) rest = refl

    if_there : (b : Bool) (o : List ℕ) (pos : Pos) (node : Selection) (f : Positioned Field)
        → Contains (maybe_fields o (if_kept known (record { pos = pos; node = cond b (Some node) None }))) f → Contains (kept_fields o (record { pos = pos; node = node })) f
    unfolding maybe_fields
    if_there true o pos node f at = at
    if_there false o pos node f at = none_in f _ at

    from_fragment : (o : List ℕ) (fragment : Option (Positioned FragmentDefinition)) (f : Positioned Field)
        → Contains (fields_of_spread (kept_setting known setting) o (collect_within (kept_setting known setting) n o) (option_map (kept_fragment known) fragment)) f
        → Origin (fields_of_spread setting o (collect_within setting n o) fragment) f
    from_fragment o None f at = none_in f _ at
    from_fragment o (Some fragment) f at =
        origin_if (setting.covers fragment.node.type_condition.node o) _ (collect_within setting n o (selections_of (fragment_set fragment))) f
        (λ h. below o (selections_of (fragment_set fragment)) f
        (subst (λ xs. Contains (collect_within (kept_setting known setting) n o xs) f) (set_items known fragment.node.selection_set.node) h))
        at

    from_inline : (o : List ℕ) (condition : Option (Positioned (List ℕ))) (xs : List (Positioned Selection)) (f : Positioned Field)
        → Contains (fields_under (kept_setting known setting) o (collect_within (kept_setting known setting) n o) condition (kept known xs)) f
        → Origin (fields_under setting o (collect_within setting n o) condition xs) f
    from_inline o None xs f at = below o xs f at
    from_inline o (Some condition) xs f at =
        origin_if (setting.covers condition.node o) _ (collect_within setting n o xs) f (λ h. below o xs f h) at

    by_layer : (o : List ℕ) (pos : Pos) (node : Selection) (layer : Selection-F Selection Field InlineFragment SelectionSet) → out-Selection node ≡ layer → (f : Positioned Field)
        → Contains (maybe_fields o (if_kept known (record { pos = pos; node = kept_selection known node }))) f
        → Origin (fields_of setting o (collect_within setting n o) layer) f
    unfolding kept_fields
    by_layer o pos node (Selection-F.Field field) e f at =
        let node_is : node ≡ selection.Field field = sym (roll-out-Selection node) ∙ ap roll-Selection e ∙ rolls-Field field in
        let M : Option Selection → Type 0 = λ s. Contains (maybe_fields o (if_kept known (record { pos = pos; node = s }))) f in
        let in_one = if_there (is_kept known (out-Field (kept_field known field.node)).directives) o pos (selection.Field (kept_occurrence known field)) f
        (subst M (ap (kept_selection known) node_is ∙ selection-Field known field) at) in
        let opened : out-Selection (selection.Field (kept_occurrence known field)) ≡ Selection-F.Field (kept_occurrence known field) = search (rules, the_lemmas) in
        let F : Selection-F Selection Field InlineFragment SelectionSet → Type 0
        = λ layer. Contains (fields_of (kept_setting known setting) o (collect_within (kept_setting known setting) n o) layer) f in
        record { source = field; there = first_in field []; is_kept = sym (one_in (kept_occurrence known field) f (subst F opened in_one)) }
    by_layer o pos node (Selection-F.FragmentSpread spread) e f at =
        let node_is : node ≡ selection.FragmentSpread spread = sym (roll-out-Selection node) ∙ ap roll-Selection e ∙ rolls-FragmentSpread spread in
        let M : Option Selection → Type 0 = λ s. Contains (maybe_fields o (if_kept known (record { pos = pos; node = s }))) f in
        let left : Positioned FragmentSpread = record { pos = spread.pos; node = record spread.node { directives = others spread.node.directives } } in
        let in_one = if_there (is_kept known spread.node.directives) o pos (selection.FragmentSpread left) f
        (subst M (ap (kept_selection known) node_is ∙ selection-Spread known spread) at) in
        let opened : out-Selection (selection.FragmentSpread left) ≡ Selection-F.FragmentSpread left = search (rules, the_lemmas) in
        let F : Selection-F Selection Field InlineFragment SelectionSet → Type 0
        = λ layer. Contains (fields_of (kept_setting known setting) o (collect_within (kept_setting known setting) n o) layer) f in
        let S : Option (Positioned FragmentDefinition) → Type 0
        = λ fragment. Contains (fields_of_spread (kept_setting known setting) o (collect_within (kept_setting known setting) n o) fragment) f in
        from_fragment o (under spread.node.fragment_name.node setting.fragments) f
        (subst S (under_kept known spread.node.fragment_name.node setting.fragments) (subst F opened in_one))
    by_layer o pos node (Selection-F.InlineFragment fragment) e f at =
        let node_is : node ≡ selection.InlineFragment fragment = sym (roll-out-Selection node) ∙ ap roll-Selection e ∙ rolls-InlineFragment fragment in
        let M : Option Selection → Type 0 = λ s. Contains (maybe_fields o (if_kept known (record { pos = pos; node = s }))) f in
        let left : Positioned InlineFragment = record { pos = fragment.pos; node = other_inline known (kept_inline known fragment.node) } in
        let in_one = if_there (is_kept known (out-InlineFragment (kept_inline known fragment.node)).directives) o pos (selection.InlineFragment left) f
        (subst M (ap (kept_selection known) node_is ∙ selection-Inline known fragment) at) in
        let opened : out-Selection (selection.InlineFragment left) ≡ Selection-F.InlineFragment left = search (rules, the_lemmas) in
        let F : Selection-F Selection Field InlineFragment SelectionSet → Type 0
        = λ layer. Contains (fields_of (kept_setting known setting) o (collect_within (kept_setting known setting) n o) layer) f in
        let I : Option (Positioned (List ℕ)) → List (Positioned Selection) → Type 0
        = λ condition xs. Contains (fields_under (kept_setting known setting) o (collect_within (kept_setting known setting) n o) condition xs) f in
        let here : I (out-InlineFragment left.node).type_condition (selections_of (out-InlineFragment left.node).selection_set) = subst F opened in_one in
        let moved : I (out-InlineFragment fragment.node).type_condition (kept known (selections_of (out-InlineFragment fragment.node).selection_set))
        = subst (λ xs. I (out-InlineFragment fragment.node).type_condition xs) (inline_items known fragment.node)
        (subst (λ condition. I condition (selections_of (out-InlineFragment left.node).selection_set)) (inline_condition known fragment.node) here) in
        from_inline o (out-InlineFragment fragment.node).type_condition (selections_of (out-InlineFragment fragment.node).selection_set) f moved

    by_selections : (o : List ℕ) (xs : List (Positioned Selection)) (f : Positioned Field)
        → Contains (flat_map (kept_fields o) (kept known xs)) f → Origin (collect_within setting (suc n) o xs) f
    by_selections o [] f at = none_in f _ at
    by_selections o (s ∷ xs) f at =
        let one : Option (Positioned Selection) = if_kept known (record { pos = s.pos; node = kept_selection known s.node }) in
        let here : List (Positioned Field) = fields_of setting o (collect_within setting n o) (out-Selection s.node) in
        let cases = Contains-append_cases (maybe_fields o one) (flat_map (kept_fields o) (kept known xs)) f
        (subst (λ fs. Contains fs f) (flat_cons o one (kept known xs)) at) in
        elim cases as (λ _. Origin (here ++ collect_within setting (suc n) o xs) f) [
          | inl h ↦ origin_left here (collect_within setting (suc n) o xs) f (by_layer o s.pos s.node (out-Selection s.node) refl f h)
          | inr h ↦ origin_right here (collect_within setting (suc n) o xs) f (by_selections o xs f h)
        ]

  -- each field that a kept set has comes from one of the set
  origin_of : (n : ℕ) (o : List ℕ) (xs : List (Positioned Selection)) (f : Positioned Field)
      → Contains (collect_within (kept_setting known setting) n o (kept known xs)) f → Origin (collect_within setting n o xs) f
  unfolding kept_fields
  origin_of zero o xs f at = none_in f _ at
  origin_of (suc n) o xs f at = by_selections n (origin_of n) o xs f at

  key_kept : (f : Positioned Field) → (key_of (kept_occurrence known f).node).node ≡ (key_of f.node).node
  key_kept f = λ i. (alias_or (field_alias known f.node i) (field_name known f.node i)).node

  alike_kept : (f g : Positioned Field) → alike f g ≡ true → alike (kept_occurrence known f) (kept_occurrence known g) ≡ true
  alike_kept f g same =
      let h = alike_says f g same in
      let name : (e : Positioned Field) → name_of (kept_occurrence known e) ≡ name_of e = λ e. ap (λ name. name.node) (field_name known e.node) in
      alike_from (kept_occurrence known f) (kept_occurrence known g) (name f ∙ h.0 ∙ sym (name g))
      (λ m. ap (given m) (field_arguments known f.node) ∙ h.1 m ∙ sym (ap (given m) (field_arguments known g.node)))

  -- what agrees agrees as it is kept
  pub agree_kept : (n : ℕ) (o : List ℕ) (xs ys : List (Positioned Selection)) → Agree (reading setting) n o xs ys
      → Agree (reading (kept_setting known setting)) n o (kept known xs) (kept known ys)
  agree_kept zero o xs ys agree = tt
  agree_kept (suc n) o xs ys agree = λ f g in_f in_g same.
      let from_f = origin_of setting.levels o xs f in_f in
      let from_g = origin_of setting.levels o ys g in_g in
      let keys : (key_of from_f.source.node).node ≡ (key_of from_g.source.node).node
      = sym (key_kept from_f.source) ∙ ap (λ e. (key_of e.node).node) (sym from_f.is_kept) ∙ same ∙ ap (λ e. (key_of e.node).node) from_g.is_kept ∙ key_kept from_g.source in
      let h = agree from_f.source from_g.source from_f.there from_g.there keys in
      let G : Positioned Field → Positioned Field → Type 0
      = λ f g. (alike f g ≡ true) × ((inner : List ℕ) → Contains (setting.beneath o (name_of f)) inner
      → Agree (reading (kept_setting known setting)) n inner (own_selections f) (own_selections g)) in
      let kept_pair : G (kept_occurrence known from_f.source) (kept_occurrence known from_g.source)
      = (
        alike_kept from_f.source from_g.source h.0,
        λ inner at.
            (subst (λ xs. Agree (reading (kept_setting known setting)) n inner xs (own_selections (kept_occurrence known from_g.source))) (sym (field_items known from_f.source.node))
            (subst (λ ys. Agree (reading (kept_setting known setting)) n inner (kept known (own_selections from_f.source)) ys) (sym (field_items known from_g.source.node))
            (agree_kept n inner (own_selections from_f.source) (own_selections from_g.source)
            (h.1 inner (subst (λ m. Contains (setting.beneath o m.node) inner) (field_name known from_f.source.node) at))))),
      ) in
      subst (λ e. G e g) (sym from_f.is_kept) (subst (λ e. G (kept_occurrence known from_f.source) e) (sym from_g.is_kept) kept_pair)
