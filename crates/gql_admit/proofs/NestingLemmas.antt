-- Sets that nest within some levels do so as they are kept, and so does the set of a chosen
-- operation.
use Rattle.std.proofs.Common.{rules, ◌≡◌, ℕ, zero, suc, Bool, true, false, cond, List, [], ◌∷◌}
use Rattle.std.proofs.Common.{Option, Some, None, Ok, refl, ap, sym, subst, ◌∙◌, ◌+◌, add-one}
use Rattle.std.specs.Prelude.{option_and_then}
use Rattle.std.specs.List.{cons_option}
use Rattle.std.specs.Option.{option_map}
use Rattle.std.specs.Str.{bytes_eq}
use Rattle.gql_base.specs.Pairs.{under, values_of}
use Rattle.gql_base.specs.declared.pos.Pos.{Pos}
use Rattle.gql_base.specs.declared.value.Value.{Value}
use Rattle.gql_doc.specs.Depth.{Fragments, deep, deep_from, fragment_set, if_any, operation_set}
use Rattle.gql_doc.specs.Depth.{operations_in, selections_of, set_beneath, set_under}
use Rattle.gql_doc.specs.First.{first_in}
use Rattle.gql_doc.specs.declared.document.DocumentOperations.{DocumentOperations}
use Rattle.gql_doc.specs.declared.document.DocumentOperations.TheVariants.{Multiple, Single}
use Rattle.gql_doc.specs.declared.document.ExecutableDocument.{ExecutableDocument}
use Rattle.gql_doc.specs.declared.document.Field.{Field, out-Field}
use Rattle.gql_doc.specs.declared.document.FragmentDefinition.{FragmentDefinition}
use Rattle.gql_doc.specs.declared.document.FragmentSpread.{FragmentSpread}
use Rattle.gql_doc.specs.declared.document.InlineFragment.{InlineFragment, out-InlineFragment}
use Rattle.gql_doc.specs.declared.document.OperationDefinition.{OperationDefinition}
use Rattle.gql_doc.specs.declared.document.Positioned.{Positioned}
use Rattle.gql_doc.specs.declared.document.Selection.{Selection, out-Selection, roll-Selection}
use Rattle.gql_doc.specs.declared.document.Selection.{roll-out-Selection, the_lemmas}
use Rattle.gql_doc.specs.declared.document.Selection.TheOpen.{Selection-F}
use Rattle.gql_doc.specs.declared.document.Selection.TheVariants as selection
use Rattle.gql_doc.specs.declared.document.Selection.TheViews.{rolls-Field, rolls-FragmentSpread}
use Rattle.gql_doc.specs.declared.document.Selection.TheViews.{rolls-InlineFragment}
use Rattle.gql_doc.specs.declared.document.SelectionSet.{SelectionSet}
use Rattle.gql_select.specs.Kept.{if_kept, is_kept, kept, kept_field, kept_fragment, kept_fragments}
use Rattle.gql_select.specs.Kept.{kept_inline, kept_selection}
use Rattle.gql_rules.specs.ChosenOperation.{Operation, chosen, named, only}
use Rattle.gql_admit.specs.Choice.{choice, choice_of}
use Rattle.gql_admit.specs.Choice.{with_fragments}
use Rattle.gql_admit.specs.KeptParts.{left_field, left_inline, left_set, left_spread}
use Rattle.gql_admit.specs.Prepared.{kept_operation}
use Rattle.gql_admit.specs.declared.chosen.Chosen.{Chosen}
use Rattle.gql_lists.proofs.FirstLemmas.{both_none, none_behind, none_here}
use Rattle.gql_admit.proofs.KeepLemmas.{selection-Field}
use Rattle.gql_admit.proofs.KeepLemmas.{selection-Inline, selection-Spread, set_items}

module _ (known : List ℕ → Value) (fragments : Fragments) where
  under_kept : (name : List ℕ) (pairs : Fragments)
      → under name (kept_fragments known pairs) ≡ option_map (kept_fragment known) (under name pairs)
  under_kept name [] = refl
  under_kept name (p ∷ ps) =
      let P : Bool → Type 0 =
      λ b. cond b (Some (kept_fragment known p.1)) (under name (kept_fragments known ps))
      ≡ option_map (kept_fragment known) (cond b (Some p.1) (under name ps)) in
      elim (bytes_eq name p.0) as P [ true ↦ refl | false ↦ under_kept name ps ]

  -- the set of a kept field is that of the field, kept; and alike of a fragment in place
  set_of_field : (field : Positioned Field)
      → (out-Field (left_field known field).node).selection_set
      ≡ left_set known (out-Field field.node).selection_set
  set_of_field field = search (rules, the_lemmas)

  set_of_inline : (fragment : Positioned InlineFragment)
      → (out-InlineFragment (left_inline known fragment).node).selection_set
      ≡ left_set known (out-InlineFragment fragment.node).selection_set
  set_of_inline fragment = search (rules, the_lemmas)

  module _ (n : ℕ)
      (below : (set : Positioned SelectionSet) → deep_from fragments n set ≡ None
      → deep_from (kept_fragments known fragments) n (left_set known set) ≡ None) where
    -- what a selection leads to, as it is kept
    deep_kept : Selection → Option Pos
    deep_kept s =
        option_and_then (deep_from (kept_fragments known fragments) n)
        (set_under (kept_fragments known fragments) (out-Selection s))

    maybe_deep : Option (Positioned Selection) → Option Pos
    maybe_deep None = None
    maybe_deep (Some s) = deep_kept s.node

    -- a set that isn't empty
    any_kept : (items : List (Positioned Selection)) (left : List (Positioned Selection))
        (set : Positioned SelectionSet)
        → option_and_then (deep_from fragments n) (if_any items set) ≡ None
        → (items ≡ [] → left ≡ [])
        → option_and_then (deep_from (kept_fragments known fragments) n)
        (if_any left (left_set known set)) ≡ None
    any_kept items [] set none empty = refl
    any_kept [] (y ∷ ys) set none empty = let bad : y ∷ ys ≡ [] = empty refl in cc
    any_kept (x ∷ xs) (y ∷ ys) set none empty = below set none

    from_fragment : (found : Option (Positioned FragmentDefinition))
        → option_and_then (deep_from fragments n) (option_map fragment_set found) ≡ None
        → option_and_then (deep_from (kept_fragments known fragments) n)
        (option_map fragment_set (option_map (kept_fragment known) found)) ≡ None
    from_fragment None none = refl
    from_fragment (Some fragment) none = below (fragment_set fragment) none

    if_left : (b : Bool) (pos : Pos) (node : Selection) → deep_kept node ≡ None
        → maybe_deep (if_kept known (record { pos = pos; node = cond b (Some node) None })) ≡ None
    unfolding maybe_deep
    if_left true pos node none = none
    if_left false pos node none = refl

    by_layer : (pos : Pos) (node : Selection)
        (layer : Selection-F Selection Field InlineFragment SelectionSet) → out-Selection node ≡ layer
        → option_and_then (deep_from fragments n) (set_under fragments layer) ≡ None
        → maybe_deep (if_kept known (record { pos = pos; node = kept_selection known node }))
        ≡ None
    unfolding deep_kept
    by_layer pos node (Selection-F.Field field) e none =
        let node_is : node ≡ selection.Field field =
        sym (roll-out-Selection node) ∙ ap roll-Selection e ∙ rolls-Field field in
        let opened : out-Selection (selection.Field (left_field known field))
        ≡ Selection-F.Field (left_field known field) = search (rules, the_lemmas) in
        let set = (out-Field field.node).selection_set in
        let items : selections_of (left_set known set) ≡ kept known (selections_of set) =
        set_items known set.node in
        let empty : selections_of set ≡ [] → selections_of (left_set known set) ≡ [] =
        λ h. items ∙ ap (kept known) h in
        let here =
        any_kept (selections_of set) (selections_of (left_set known set)) set none empty in
        let G : Positioned SelectionSet → Type 0 =
        λ s. option_and_then (deep_from (kept_fragments known fragments) n)
        (if_any (selections_of s) s) ≡ None in
        let there : deep_kept (selection.Field (left_field known field)) ≡ None
        = ap
        (λ layer. option_and_then (deep_from (kept_fragments known fragments) n)
        (set_under (kept_fragments known fragments) layer)) opened
        ∙ subst G (sym (set_of_field field)) here in
        ap (λ s. maybe_deep (if_kept known (record { pos = pos; node = s })))
        (ap (kept_selection known) node_is ∙ selection-Field known field)
        ∙ if_left (is_kept known (out-Field (kept_field known field.node)).directives) pos
        (selection.Field (left_field known field)) there
    by_layer pos node (Selection-F.FragmentSpread spread) e none =
        let node_is : node ≡ selection.FragmentSpread spread =
        sym (roll-out-Selection node) ∙ ap roll-Selection e ∙ rolls-FragmentSpread spread in
        let opened : out-Selection (selection.FragmentSpread (left_spread spread))
        ≡ Selection-F.FragmentSpread (left_spread spread) = search (rules, the_lemmas) in
        let there : deep_kept (selection.FragmentSpread (left_spread spread)) ≡ None
        = ap
        (λ layer. option_and_then (deep_from (kept_fragments known fragments) n)
        (set_under (kept_fragments known fragments) layer)) opened
        ∙ ap
        (λ found. option_and_then (deep_from (kept_fragments known fragments) n)
        (option_map fragment_set found)) (under_kept spread.node.fragment_name.node fragments)
        ∙ from_fragment (under spread.node.fragment_name.node fragments) none in
        ap (λ s. maybe_deep (if_kept known (record { pos = pos; node = s })))
        (ap (kept_selection known) node_is ∙ selection-Spread known spread)
        ∙ if_left (is_kept known spread.node.directives) pos
        (selection.FragmentSpread (left_spread spread)) there
    by_layer pos node (Selection-F.InlineFragment fragment) e none =
        let node_is : node ≡ selection.InlineFragment fragment =
        sym (roll-out-Selection node) ∙ ap roll-Selection e ∙ rolls-InlineFragment fragment in
        let opened : out-Selection (selection.InlineFragment (left_inline known fragment))
        ≡ Selection-F.InlineFragment (left_inline known fragment) = search (rules, the_lemmas) in
        let there : deep_kept (selection.InlineFragment (left_inline known fragment)) ≡ None
        = ap
        (λ layer. option_and_then (deep_from (kept_fragments known fragments) n)
        (set_under (kept_fragments known fragments) layer)) opened
        ∙ ap (deep_from (kept_fragments known fragments) n) (set_of_inline fragment)
        ∙ below (out-InlineFragment fragment.node).selection_set none in
        ap (λ s. maybe_deep (if_kept known (record { pos = pos; node = s })))
        (ap (kept_selection known) node_is ∙ selection-Inline known fragment)
        ∙ if_left (is_kept known (out-InlineFragment (kept_inline known fragment.node)).directives)
        pos (selection.InlineFragment (left_inline known fragment)) there

    first_cons : (o : Option (Positioned Selection)) (rest : List (Positioned Selection))
        → maybe_deep o ≡ None → first_in (λ s. deep_kept s.node) rest ≡ None
        → first_in (λ s. deep_kept s.node) (cons_option o rest) ≡ None
    unfolding maybe_deep
    first_cons None rest none also = also
    first_cons (Some s) rest none also =
        both_none (deep_kept s.node) (first_in (λ s. deep_kept s.node) rest) none also

    by_selections : (xs : List (Positioned Selection))
        → first_in (λ s. option_and_then (deep_from fragments n) (set_beneath fragments s)) xs ≡ None
        → first_in (λ s. deep_kept s.node) (kept known xs) ≡ None
    by_selections [] none = refl
    by_selections (x ∷ xs) none =
        first_cons (if_kept known (record { pos = x.pos; node = kept_selection known x.node }))
        (kept known xs)
        (by_layer x.pos x.node (out-Selection x.node) refl (none_here _ _ none))
        (by_selections xs (none_behind _ _ none))

  -- a set that nests within some levels does so as it is kept
  pub nests_kept : (n : ℕ) (set : Positioned SelectionSet) → deep_from fragments n set ≡ None
      → deep_from (kept_fragments known fragments) n (left_set known set) ≡ None
  unfolding deep_kept
  nests_kept zero set none = cc
  nests_kept (suc n) set none =
      ap
      (first_in
      (λ s. option_and_then (deep_from (kept_fragments known fragments) n)
      (set_beneath (kept_fragments known fragments) s))) (set_items known set.node)
      ∙ by_selections n (nests_kept n) (selections_of set) none

-- the set of an operation, once that set and the fragments are kept
pub nests_prepared : (known : List ℕ → Value) (fragments kept_ones : Fragments) (limit levels : ℕ)
    (operation kept_one : Positioned OperationDefinition)
    → deep_from fragments (suc limit) operation.node.selection_set ≡ None → levels ≡ limit + 1
    → kept_ones ≡ kept_fragments known fragments → kept_one ≡ kept_operation known operation
    → deep_from kept_ones levels kept_one.node.selection_set ≡ None
nests_prepared known fragments kept_ones limit levels operation kept_one none is ones one =
    ap (λ n. deep_from kept_ones n kept_one.node.selection_set) (is ∙ add-one limit)
    ∙ ap (λ fs. deep_from fs (suc limit) kept_one.node.selection_set) ones
    ∙ ap (λ o. deep_from (kept_fragments known fragments) (suc limit) o.node.selection_set) one
    ∙ nests_kept known fragments (suc limit) operation.node.selection_set none

-- The set of a chosen operation.

nests_in : Fragments → ℕ → Option Operation → Type 0
nests_in fragments n None = Unit {0}
nests_in fragments n (Some operation) = deep_from fragments n (operation_set operation.1) ≡ None

module _ (fragments : Fragments) (n : ℕ) where
  nests_under : (name : List ℕ) (pairs : List (List ℕ × Positioned OperationDefinition))
      → first_in (λ operation. deep_from fragments n (operation_set operation)) (values_of pairs)
      ≡ None → nests_in fragments n (option_map (named name) (under name pairs))
  unfolding nests_in
  nests_under name [] none = tt
  nests_under name (p ∷ ps) none =
      let P : Bool → Type 0 =
      λ b. nests_in fragments n (option_map (named name) (cond b (Some p.1) (under name ps))) in
      elim (bytes_eq name p.0) as P
      [ true ↦ none_here _ _ none | false ↦ nests_under name ps (none_behind _ _ none) ]

  nests_only : (pairs : List (List ℕ × Positioned OperationDefinition))
      → first_in (λ operation. deep_from fragments n (operation_set operation)) (values_of pairs)
      ≡ None → nests_in fragments n (only pairs)
  unfolding nests_in
  nests_only [] none = tt
  nests_only (p ∷ []) none = none_here _ _ none
  nests_only (p ∷ (q ∷ ps)) none = tt

nests_chosen : (document : ExecutableDocument) (limit : ℕ) (name : Option (List ℕ))
    → deep document limit ≡ None
    → nests_in document.fragments (suc limit) (chosen document.operations name)
unfolding nests_in
nests_chosen document limit name none = by_operations document.operations name none
  where
    by_operations : (operations : DocumentOperations) (name : Option (List ℕ))
        → first_in (λ operation. deep_from document.fragments (suc limit) (operation_set operation))
        (operations_in operations) ≡ None
        → nests_in document.fragments (suc limit) (chosen operations name)
    by_operations (Single operation) None none = none_here _ _ none
    by_operations (Single operation) (Some name) none = tt
    by_operations (Multiple operations) None none =
        nests_only document.fragments (suc limit) operations none
    by_operations (Multiple operations) (Some name) none =
        nests_under document.fragments (suc limit) name operations none

-- an operation that is chosen from a document within a limit on the depth
pub chosen_nests : (document : ExecutableDocument) (limit : ℕ) (name : Option (List ℕ))
    (answer : Chosen) → deep document limit ≡ None
    → Ok answer ≡ choice document name
    → deep_from answer.fragments (suc limit) answer.operation.node.selection_set ≡ None
unfolding nests_in
chosen_nests document limit name answer none is =
    by_choice (chosen document.operations name) (nests_chosen document limit name none) is
  where
    by_choice : (o : Option Operation) → nests_in document.fragments (suc limit) o
        → Ok answer ≡ choice_of document.fragments name o
        → deep_from answer.fragments (suc limit) answer.operation.node.selection_set ≡ None
    by_choice None nests is = cc
    by_choice (Some operation) nests is =
        let same : answer ≡ with_fragments document.fragments operation = cc in
        ap (λ a. deep_from a.fragments (suc limit) a.operation.node.selection_set) same ∙ nests
