-- Sets without directives, one level at a time.
use Rattle.std.proofs.Common.{rules, ◌≡◌, ◌≤◌, ◌+◌, ℕ, List, [], ◌∷◌, ◌++◌, length, take, Some, refl, ap, sym, subst, ◌∙◌}
use Rattle.std.specs.List.{cons_option, slice_get}
use Rattle.std.proofs.lemmas.List.{take_all, take_more}
use Rattle.std.proofs.lemmas.List.Elements.{filter_map-append}
use Rattle.std.proofs.lemmas.Option.{get_or_from_slice_get, slice_get_within}
use Rattle.gql_base.specs.declared.value.Value.{Value}
use Rattle.gql_doc.specs.declared.document.Directive.{Directive}
use Rattle.gql_doc.specs.declared.document.Field.{Field, out-Field, roll-Field}
use Rattle.gql_doc.specs.declared.document.FragmentSpread.{FragmentSpread}
use Rattle.gql_doc.specs.declared.document.InlineFragment.{InlineFragment, out-InlineFragment, roll-InlineFragment}
use Rattle.gql_doc.specs.declared.document.Positioned.{Positioned}
use Rattle.gql_doc.specs.declared.document.Selection.{Selection, the_lemmas}
use Rattle.gql_doc.specs.declared.document.Selection.TheVariants as selection
use Rattle.gql_doc.specs.declared.document.SelectionSet.{SelectionSet, out-SelectionSet, roll-SelectionSet}
use Rattle.gql_select.specs.Kept.{if_kept, kept, kept_if, kept_set, others}
use Rattle.gql_admit.specs.KeptParts.{left_field, left_inline, left_selection, left_set, left_spread}
use Rattle.gql_admit.specs.Whole.{AreWhole, IsSetWhole, IsWhole}
use Rattle.gql_admit.proofs.KeepLemmas.{field_directives, inline_directives, rolled_field, rolled_inline, rolled_set, selection-Field, selection-Inline, selection-Spread}

abbrev Selections : Type 0
Selections = List (Positioned Selection)

-- no directives are all kept, and none of them goes
none_stay : (directives : List (Positioned Directive)) → directives ≡ [] → others directives ≡ directives
none_stay directives none = subst (λ ds. others ds ≡ ds) (sym none) refl

none_leave : {A : Type 0} (known : List ℕ → Value) (directives : List (Positioned Directive)) (node : A) → directives ≡ []
    → kept_if known directives node ≡ Some node
none_leave known directives node none = subst (λ ds. kept_if known ds node ≡ Some node) (sym none) refl

same_set : (set : SelectionSet) → roll-SelectionSet (record { items = (out-SelectionSet set).items }) ≡ set
same_set set = search (rules, the_lemmas)

-- a set whose selections are left as they are
pub set_whole : (set : SelectionSet) → AreWhole (out-SelectionSet set).items → IsSetWhole set
set_whole set whole known =
    sym (rolled_set known set) ∙ ap (λ xs. roll-SelectionSet (record { items = xs })) (whole known) ∙ same_set set

placed_set : (known : List ℕ → Value) (set : Positioned SelectionSet) → kept_set known set.node ≡ set.node → left_set known set ≡ set
placed_set known set whole = ap (λ node. record { pos = set.pos; node = node }) whole

unchanged_field : (field : Field)
    → roll-Field (record (out-Field field) { directives = (out-Field field).directives; selection_set = (out-Field field).selection_set }) ≡ field
unchanged_field field = search (rules, the_lemmas)

same_field : (field : Field) (directives : List (Positioned Directive)) (set : Positioned SelectionSet)
    → directives ≡ (out-Field field).directives → set ≡ (out-Field field).selection_set
    → roll-Field (record (out-Field field) { directives = directives; selection_set = set }) ≡ field
same_field field directives set these this =
    ap (λ ds. roll-Field (record (out-Field field) { directives = ds; selection_set = set })) these
    ∙ ap (λ s. roll-Field (record (out-Field field) { directives = (out-Field field).directives; selection_set = s })) this
    ∙ unchanged_field field

unchanged_inline : (inline : InlineFragment)
    → roll-InlineFragment
    (record (out-InlineFragment inline) {
      directives = (out-InlineFragment inline).directives;
      selection_set = (out-InlineFragment inline).selection_set;
    })
    ≡ inline
unchanged_inline inline = search (rules, the_lemmas)

same_inline : (inline : InlineFragment) (directives : List (Positioned Directive)) (set : Positioned SelectionSet)
    → directives ≡ (out-InlineFragment inline).directives → set ≡ (out-InlineFragment inline).selection_set
    → roll-InlineFragment (record (out-InlineFragment inline) { directives = directives; selection_set = set }) ≡ inline
same_inline inline directives set these this =
    ap (λ ds. roll-InlineFragment (record (out-InlineFragment inline) { directives = ds; selection_set = set })) these
    ∙ ap (λ s. roll-InlineFragment (record (out-InlineFragment inline) { directives = (out-InlineFragment inline).directives; selection_set = s })) this
    ∙ unchanged_inline inline

-- a field without directives over such a set
pub field_whole : (field : Positioned Field) → (out-Field field.node).directives ≡ [] → IsSetWhole (out-Field field.node).selection_set.node
    → IsWhole (selection.Field field)
field_whole field none whole known =
    selection-Field known field ∙ none_leave known _ (selection.Field (left_field known field)) (field_directives known field.node ∙ none)
    ∙ ap (λ node. Some (selection.Field (record { pos = field.pos; node = node })))
    (sym (rolled_field known field.node)
    ∙ same_field field.node _ _ (none_stay (out-Field field.node).directives none)
    (placed_set known (out-Field field.node).selection_set (whole known)))

-- a fragment in place without directives over such a set
pub inline_whole : (inline : Positioned InlineFragment) → (out-InlineFragment inline.node).directives ≡ []
    → IsSetWhole (out-InlineFragment inline.node).selection_set.node → IsWhole (selection.InlineFragment inline)
inline_whole inline none whole known =
    selection-Inline known inline ∙ none_leave known _ (selection.InlineFragment (left_inline known inline)) (inline_directives known inline.node ∙ none)
    ∙ ap (λ node. Some (selection.InlineFragment (record { pos = inline.pos; node = node })))
    (sym (rolled_inline known inline.node)
    ∙ same_inline inline.node _ _ (none_stay (out-InlineFragment inline.node).directives none)
    (placed_set known (out-InlineFragment inline.node).selection_set (whole known)))

-- a spread without directives
pub spread_whole : (spread : Positioned FragmentSpread) → spread.node.directives ≡ [] → IsWhole (selection.FragmentSpread spread)
spread_whole spread none known =
    selection-Spread known spread ∙ none_leave known spread.node.directives (selection.FragmentSpread (left_spread spread)) none
    ∙ ap (λ directives. Some (selection.FragmentSpread
    (record { pos = spread.pos; node = record spread.node { directives = directives } })))
    (none_stay spread.node.directives none)

-- no selections are left as they are
pub whole_begins : (all : Selections) → AreWhole (take 0 all)
whole_begins [] known = refl
whole_begins (x ∷ all) known = refl

taken_more : (all : Selections) (i : ℕ) (x : Positioned Selection) → slice_get all i ≡ Some x → take (i + 1) all ≡ take i all ++ x ∷ []
taken_more all i x at =
    take_more all i x (slice_get_within all i x at) ∙ ap (λ y. take i all ++ y ∷ []) (get_or_from_slice_get all i x x at)

-- and one more that is
pub whole_more : (all : Selections) (i : ℕ) (x : Positioned Selection) → AreWhole (take i all) → slice_get all i ≡ Some x → IsWhole x.node
    → AreWhole (take (i + 1) all)
whole_more all i x before at this known =
    let more : take (i + 1) all ≡ take i all ++ x ∷ [] = taken_more all i x at in
    subst (λ xs. kept known xs ≡ xs) (sym more)
    (filter_map-append (left_selection known) (take i all) (x ∷ [])
    ∙ ap (λ xs. xs ++ kept known (x ∷ [])) (before known)
    ∙ ap (λ o. take i all ++ cons_option (if_kept known (record { pos = x.pos; node = o })) []) (this known))

-- and all, once the last is passed
pub whole_passed : (all : Selections) (i : ℕ) → AreWhole (take i all) → length all ≤ i → AreWhole all
whole_passed all i before over known = subst (λ xs. kept known xs ≡ xs) (take_all i all over) (before known)

-- a set that is left as it is, as what is kept of it
pub whole_set : (known : List ℕ → Value) (set : SelectionSet) → IsSetWhole set → set ≡ kept_set known set
whole_set known set whole = sym (whole known)
