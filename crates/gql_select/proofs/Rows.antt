-- Some selections, computed.
use Rattle.std.proofs.Common.{rules, cond, ◌≡◌, ℕ, pos, true, false, ◌||◌, List, [], ◌∷◌, ◌++◌, Some, None, ap, refl, ◌∙◌}
use Rattle.std.specs.Prelude.{codes}
use denote.Hole.Carrier.{hidden, out, roll, shown}
use Rattle.std.specs.Str.{bytes_eq}
use Rattle.gql_base.specs.declared.pos.Pos.{Pos}
use Rattle.gql_base.specs.declared.value.Value.{the_lemmas as value_lemmas}
use Rattle.gql_base.specs.declared.value.Value.TheVariants as value
use Rattle.gql_doc.specs.declared.document.Argument.{Argument}
use Rattle.gql_doc.specs.declared.document.Directive.{Directive}
use Rattle.gql_doc.specs.declared.document.DocValue.{DocValue, the_lemmas as doc_lemmas}
use Rattle.gql_doc.specs.declared.document.DocValue.TheVariants as doc
use Rattle.gql_doc.specs.declared.document.Field.{Field, out-Field, roll-Field}
use Rattle.gql_doc.specs.declared.document.FragmentDefinition.{FragmentDefinition}
use Rattle.gql_doc.specs.declared.document.InlineFragment.{out-InlineFragment, roll-InlineFragment, out-roll-InlineFragment}
use Rattle.gql_doc.specs.declared.document.Positioned.{Positioned}
use Rattle.gql_doc.specs.declared.document.Selection.{Selection, out-Selection, the_lemmas}
use Rattle.gql_doc.specs.declared.document.Selection.TheBlock.{shown-the_row-SelectionSet-items-2-0}
use Rattle.gql_doc.specs.declared.document.Selection.TheOpen.{Selection-F}
use Rattle.gql_doc.specs.Depth.{selections_of}
use Rattle.gql_doc.specs.declared.document.Selection.TheVariants as selection
use Rattle.gql_doc.specs.declared.document.SelectionSet.{SelectionSet, roll-SelectionSet, out-roll-SelectionSet}
use Rattle.gql_select.specs.Collected.{Setting, collect, collect_within, fields_of, fields_under}
use Rattle.gql_select.specs.Constants.{constants}
use Rattle.gql_select.specs.Kept.{is_kept}
use Rattle.gql_select.specs.Once.{collect_once}

abbrev place : Pos
place = record { line = 1; column = 1 }

abbrev placed : {A : Type 0} → A → Positioned A
placed node = record { pos = place; node = node }

abbrev set_of : List (Positioned Selection) → Positioned SelectionSet
set_of selections = placed (roll-SelectionSet (record { items = selections }))

-- the field of a name, without arguments
abbrev field : List ℕ → Positioned Field
field name = placed (roll-Field (record { alias = None; name = placed name; arguments = []; directives = []; selection_set = set_of [] }))

-- a fragment in place on this type
abbrev on : List ℕ → List (Positioned Selection) → Positioned Selection
on condition selections =
    placed (selection.InlineFragment (placed (roll-InlineFragment (record { type_condition = Some (placed condition); directives = []; selection_set = set_of selections }))))

abbrev argument : List ℕ → DocValue → Argument
argument name written = record { name = placed name; value = placed written }

-- objects A are in the union U
abbrev setting : Setting
setting = record {
  fragments = [];
  levels = 3;
  covers = λ condition object. bytes_eq condition (codes "U") || bytes_eq condition object;
  beneath = λ object name. [];
}

-- what the fragment stands for
on-fields : (condition object : List ℕ) (selections : List (Positioned Selection)) (deeper : List (Positioned Selection) → List (Positioned Field))
    → fields_of setting object deeper (out-Selection (on condition selections).node) ≡ cond (setting.covers condition object) (deeper selections) []
on-fields condition object selections deeper =
    let layer = roll-InlineFragment (record { type_condition = Some (placed condition); directives = []; selection_set = set_of selections }) in
    let opened : out-Selection (selection.InlineFragment (placed layer)) ≡ Selection-F.InlineFragment (placed layer) = search (rules, the_lemmas) in
    ap (fields_of setting object deeper) opened
    ∙ ap (λ parts. fields_under setting object deeper parts.type_condition (selections_of parts.selection_set))
    (out-roll-InlineFragment (record { type_condition = Some (placed condition); directives = []; selection_set = set_of selections }))
    ∙ ap (λ set. cond (setting.covers condition object) (deeper set.items) []) (out-roll-SelectionSet (record { items = selections }))

one-field : (object name : List ℕ) (deeper : List (Positioned Selection) → List (Positioned Field))
    → fields_of setting object deeper (out-Selection (selection.Field (field name))) ≡ field name ∷ []
one-field object name deeper =
    let opened : out-Selection (selection.Field (field name)) ≡ Selection-F.Field (field name) = search (rules, the_lemmas) in
    ap (fields_of setting object deeper) opened

-- a fragment on a union that holds the object is entered, and one on the object in it
in_union : collect setting (codes "A") (on (codes "U") (on (codes "A") (placed (selection.Field (field (codes "a"))) ∷ []) ∷ []) ∷ []) ≡ field (codes "a") ∷ []
in_union =
    let inner : List (Positioned Selection) = placed (selection.Field (field (codes "a"))) ∷ [] in
    ap (λ fs. fs ++ [])
    (on-fields (codes "U") (codes "A") (on (codes "A") inner ∷ []) (collect_within setting 2 (codes "A"))
    ∙ ap (λ fs. fs ++ [])
    (on-fields (codes "A") (codes "A") inner (collect_within setting 1 (codes "A"))
    ∙ ap (λ fs. fs ++ []) (one-field (codes "A") (codes "a") (collect_within setting 0 (codes "A")))))

-- a fragment on another object isn't
on_other : collect setting (codes "A") (on (codes "B") (placed (selection.Field (field (codes "a"))) ∷ []) ∷ []) ≡ []
on_other = ap (λ fs. fs ++ []) (on-fields (codes "B") (codes "A") (placed (selection.Field (field (codes "a"))) ∷ []) (collect_within setting 2 (codes "A")))

-- arguments come in the order in which they are declared, with defaults, and what isn't declared is left out
in_order :
    constants (λ name. value.Null)
    ((codes "a", None) ∷ (codes "b", Some (value.Number (pos 2))) ∷ (codes "c", None) ∷ [])
    (argument (codes "x") doc.Null ∷ argument (codes "c") (doc.Boolean true) ∷ argument (codes "a") (doc.Variable (codes "v")) ∷ [])
    ≡ (codes "a", value.Null) ∷ (codes "b", value.Number (pos 2)) ∷ (codes "c", value.Boolean true) ∷ []
in_order = search (rules, doc_lemmas, value_lemmas)

abbrev directive : List ℕ → DocValue → Positioned Directive
directive name condition = placed (record { name = placed name; arguments = argument (codes "if") condition ∷ [] })

-- a selection that is to be skipped goes, and one that isn't to be included
skipped : is_kept (λ name. value.Boolean true) (directive (codes "skip") (doc.Variable (codes "v")) ∷ []) ≡ false
skipped = search (rules, doc_lemmas, value_lemmas)

not_included : is_kept (λ name. value.Null) (directive (codes "include") (doc.Variable (codes "v")) ∷ []) ≡ false
not_included = search (rules, doc_lemmas, value_lemmas)

-- a spread of the fragment of a name
abbrev spread : List ℕ → Positioned Selection
spread name = placed (selection.FragmentSpread (placed (record { fragment_name = placed name; directives = [] })))

abbrev leaf : List ℕ → Positioned Selection
leaf name = placed (selection.Field (field name))

-- fragment F on A { a }, fragment G on A { ...F b }
abbrev spreading : ℕ → Setting
spreading levels = record setting {
  fragments = (codes "F", fragment (leaf (codes "a") ∷ [])) ∷ (codes "G", fragment (spread (codes "F") ∷ leaf (codes "b") ∷ [])) ∷ [];
  levels = levels;
}
  where
    fragment : List (Positioned Selection) → Positioned FragmentDefinition
    fragment selections = placed (record { type_condition = placed (codes "A"); directives = []; selection_set = set_of selections })

-- { ...F ...F }: entered where it stands, and entered once
doubled : collect (spreading 3) (codes "A") (spread (codes "F") ∷ spread (codes "F") ∷ []) ≡ field (codes "a") ∷ field (codes "a") ∷ []
unfolding out-Selection out-Field out-InlineFragment roll-Field roll-InlineFragment out roll shown-the_row-SelectionSet-items-2-0 shown hidden
doubled = refl

doubled_once : collect_once (spreading 3) (codes "A") (spread (codes "F") ∷ spread (codes "F") ∷ []) ≡ field (codes "a") ∷ []
unfolding out-Selection out-Field out-InlineFragment roll-Field roll-InlineFragment out roll shown-the_row-SelectionSet-items-2-0 shown hidden
doubled_once = refl

-- { ...G ...F b }: within G it stands first, and fields that stand twice stay
beneath_once : collect_once (spreading 3) (codes "A") (spread (codes "G") ∷ spread (codes "F") ∷ leaf (codes "b") ∷ [])
    ≡ field (codes "a") ∷ field (codes "b") ∷ field (codes "b") ∷ []
unfolding out-Selection out-Field out-InlineFragment roll-Field roll-InlineFragment out roll shown-the_row-SelectionSet-items-2-0 shown hidden
beneath_once = refl

-- { ... on B { ...F } ...F }: a spread under a condition that doesn't let the object in isn't the first
other_first : collect_once (spreading 3) (codes "A") (on (codes "B") (spread (codes "F") ∷ []) ∷ spread (codes "F") ∷ []) ≡ field (codes "a") ∷ []
unfolding out-Selection out-Field out-InlineFragment roll-Field roll-InlineFragment out roll shown-the_row-SelectionSet-items-2-0 shown hidden
other_first = refl

-- { ...F } on another object, and in one level alone
other_object : collect_once (spreading 3) (codes "B") (spread (codes "F") ∷ []) ≡ []
unfolding out-Selection out-Field out-InlineFragment roll-Field roll-InlineFragment out roll shown-the_row-SelectionSet-items-2-0 shown hidden
other_object = refl

one_level : collect_once (spreading 1) (codes "A") (spread (codes "F") ∷ []) ≡ []
unfolding out-Selection out-Field out-InlineFragment roll-Field roll-InlineFragment out roll shown-the_row-SelectionSet-items-2-0 shown hidden
one_level = refl

two_levels : collect_once (spreading 2) (codes "A") (spread (codes "F") ∷ []) ≡ field (codes "a") ∷ []
unfolding out-Selection out-Field out-InlineFragment roll-Field roll-InlineFragment out roll shown-the_row-SelectionSet-items-2-0 shown hidden
two_levels = refl
