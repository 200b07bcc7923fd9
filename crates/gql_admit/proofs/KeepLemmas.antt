-- What is kept of a set, one level at a time.
use Rattle.std.proofs.Common.{rules, ◌≡◌, ℕ, Bool, true, false, cond, List, [], ◌∷◌, ◌++◌, map, Option, Some, None, refl, ap, sym, ◌∙◌, append_assoc, append-nil}
use Rattle.std.specs.List.{cons_option, filter_map}
use Rattle.std.specs.Option.{option_to_list}
use Rattle.gql_base.specs.declared.pos.Pos.{Pos}
use Rattle.gql_base.specs.declared.value.Value.{Value}
use Rattle.gql_doc.specs.declared.document.Field.{Field, out-Field, roll-Field}
use Rattle.gql_doc.specs.declared.document.FragmentSpread.{FragmentSpread}
use Rattle.gql_doc.specs.declared.document.InlineFragment.{InlineFragment, out-InlineFragment, roll-InlineFragment}
use Rattle.gql_doc.specs.declared.document.Positioned.{Positioned}
use Rattle.gql_doc.specs.declared.document.Selection.{Selection, the_lemmas}
use Rattle.gql_doc.specs.declared.document.Selection.TheVariants as selection
use Rattle.gql_doc.specs.declared.document.SelectionSet.{SelectionSet, out-SelectionSet, roll-SelectionSet}
use Rattle.gql_select.specs.Kept.{if_kept, is_kept, kept, kept_field, kept_if, kept_inline, kept_selection, kept_set, other_field, other_inline, others}
use Rattle.gql_admit.specs.KeptParts.{left_field, left_inline, left_selection, left_set, left_spread}

abbrev Selections : Type 0
Selections = List (Positioned Selection)

behind_one : (o : Option (Positioned Selection)) (left rest : Selections) → left ++ cons_option o rest ≡ (left ++ option_to_list o) ++ rest
behind_one None left rest = ap (λ xs. xs ++ rest) (sym (append-nil left))
behind_one (Some x) left rest = sym (append_assoc left (x ∷ []) rest)

filter_map_of_map : {A B C : Type 0} (h : B → Option C) (f : A → B) (xs : List A) → filter_map h (map f xs) ≡ filter_map (λ x. h (f x)) xs
filter_map_of_map h f [] = refl
filter_map_of_map h f (x ∷ xs) = ap (cons_option (h (f x))) (filter_map_of_map h f xs)

module _ (known : List ℕ → Value) where
  -- what is kept of some selections, where some were looked at
  pub record IsKeeping (all left now : Selections) : Type 0 where
    pub whole : kept known all ≡ left ++ kept known now

  pub keeping_begun : (all now : Selections) → now ≡ all → IsKeeping all [] now
  keeping_begun all now begun = record { whole = ap (kept known) (sym begun) }

  pub keeping_more : (all left more now rest : Selections) (x : Positioned Selection) → IsKeeping all left now → now ≡ x ∷ rest
      → more ≡ left ++ option_to_list (left_selection known x) → IsKeeping all more rest
  keeping_more all left more now rest x keeping next added = record {
    whole =
        keeping.whole ∙ ap (λ xs. left ++ kept known xs) next ∙ behind_one (left_selection known x) left (kept known rest)
        ∙ ap (λ xs. xs ++ kept known rest) (sym added);
  }

  pub keeping_ended : (all left now : Selections) → IsKeeping all left now → now ≡ [] → left ≡ kept known all
  keeping_ended all left now keeping ended =
      sym (append-nil left) ∙ ap (λ xs. left ++ kept known xs) (sym ended) ∙ sym keeping.whole

  pub set_items : (set : SelectionSet) → (out-SelectionSet (kept_set known set)).items ≡ kept known (out-SelectionSet set).items
  set_items set = search (rules, the_lemmas, filter_map_of_map)

  pub rolled_set : (set : SelectionSet) → roll-SelectionSet (record { items = kept known (out-SelectionSet set).items }) ≡ kept_set known set
  rolled_set set = search (rules, the_lemmas, filter_map_of_map)

  pub rolled_field : (field : Field)
      → roll-Field
      (record (out-Field field) {
        directives = others (out-Field field).directives;
        selection_set = left_set known (out-Field field).selection_set;
      })
      ≡ other_field known (kept_field known field)
  rolled_field field = search (rules, the_lemmas)

  pub rolled_inline : (fragment : InlineFragment)
      → roll-InlineFragment
      (record (out-InlineFragment fragment) {
        directives = others (out-InlineFragment fragment).directives;
        selection_set = left_set known (out-InlineFragment fragment).selection_set;
      })
      ≡ other_inline known (kept_inline known fragment)
  rolled_inline fragment = search (rules, the_lemmas)

  pub field_directives : (field : Field) → (out-Field (kept_field known field)).directives ≡ (out-Field field).directives
  field_directives field = search (rules, the_lemmas)

  pub inline_directives : (fragment : InlineFragment)
      → (out-InlineFragment (kept_inline known fragment)).directives ≡ (out-InlineFragment fragment).directives
  inline_directives fragment = search (rules, the_lemmas)

  pub selection-Field : (field : Positioned Field)
      → kept_selection known (selection.Field field)
      ≡ kept_if known (out-Field (kept_field known field.node)).directives (selection.Field (left_field known field))
  selection-Field field = search (rules, the_lemmas)

  pub selection-Spread : (spread : Positioned FragmentSpread)
      → kept_selection known (selection.FragmentSpread spread)
      ≡ kept_if known spread.node.directives (selection.FragmentSpread (left_spread spread))
  selection-Spread spread = search (rules, the_lemmas)

  pub selection-Inline : (fragment : Positioned InlineFragment)
      → kept_selection known (selection.InlineFragment fragment)
      ≡ kept_if known (out-InlineFragment (kept_inline known fragment.node)).directives (selection.InlineFragment (left_inline known fragment))
  selection-Inline fragment = search (rules, the_lemmas)

  -- a selection whose directives were asked
  asked : (pos : Pos) (node left : Selection) (passes : Bool) → kept_selection known node ≡ cond passes (Some left) None
      → left_selection known (record { pos = pos; node = node }) ≡ cond passes (Some (record { pos = pos; node = left })) None
  asked pos node left true told = ap (λ o. if_kept known (record { pos = pos; node = o })) told
  asked pos node left false told = ap (λ o. if_kept known (record { pos = pos; node = o })) told

  pub asked_field : (pos : Pos) (field : Positioned Field) (passes : Bool) → passes ≡ is_kept known (out-Field field.node).directives
      → left_selection known (record { pos = pos; node = selection.Field field })
      ≡ cond passes (Some (record { pos = pos; node = selection.Field (left_field known field) })) None
  asked_field pos field passes told =
      asked pos (selection.Field field) (selection.Field (left_field known field)) passes
      (selection-Field field
      ∙ ap (λ b. cond b (Some (selection.Field (left_field known field))) None) (ap (is_kept known) (field_directives field.node) ∙ sym told))

  pub asked_spread : (pos : Pos) (spread : Positioned FragmentSpread) (passes : Bool) → passes ≡ is_kept known spread.node.directives
      → left_selection known (record { pos = pos; node = selection.FragmentSpread spread })
      ≡ cond passes (Some (record { pos = pos; node = selection.FragmentSpread (left_spread spread) })) None
  asked_spread pos spread passes told =
      asked pos (selection.FragmentSpread spread) (selection.FragmentSpread (left_spread spread)) passes
      (selection-Spread spread ∙ ap (λ b. cond b (Some (selection.FragmentSpread (left_spread spread))) None) (sym told))

  pub asked_inline : (pos : Pos) (fragment : Positioned InlineFragment) (passes : Bool)
      → passes ≡ is_kept known (out-InlineFragment fragment.node).directives
      → left_selection known (record { pos = pos; node = selection.InlineFragment fragment })
      ≡ cond passes (Some (record { pos = pos; node = selection.InlineFragment (left_inline known fragment) })) None
  asked_inline pos fragment passes told =
      asked pos (selection.InlineFragment fragment) (selection.InlineFragment (left_inline known fragment)) passes
      (selection-Inline fragment
      ∙ ap (λ b. cond b (Some (selection.InlineFragment (left_inline known fragment))) None)
      (ap (is_kept known) (inline_directives fragment.node) ∙ sym told))

  pub set_left : (pos : Pos) (set : SelectionSet) (items : Selections) → items ≡ kept known (out-SelectionSet set).items
      → record { pos = pos; node = roll-SelectionSet (record { items = items }) } ≡ left_set known (record { pos = pos; node = set })
  set_left pos set items told =
      ap (λ xs. record { pos = pos; node = roll-SelectionSet (record { items = xs }) }) told ∙ ap (λ node. record { pos = pos; node = node }) (rolled_set set)

  pub set_kept : (set : SelectionSet) (items : Selections) → items ≡ kept known (out-SelectionSet set).items
      → roll-SelectionSet (record { items = items }) ≡ kept_set known set
  set_kept set items told = ap (λ xs. roll-SelectionSet (record { items = xs })) told ∙ rolled_set set
