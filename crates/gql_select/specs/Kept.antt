-- What `@skip` and `@include` leave of a document (GraphQL, October 2021, sections 3.13.1, 3.13.2
-- and 6.3.2).
use Rattle.std.specs.Prelude.{ℕ, Bool, true, false, not, ◌||◌, List, Option, Some}
use Rattle.std.specs.Prelude.{None}
use Rattle.std.specs.Prelude.{option_map, unwrap_or, if◌then◌else◌, codes, filter, filter_map, map}
use Rattle.std.specs.List.{list_all}
use Rattle.std.specs.Str.{bytes_eq}
use Rattle.gql_base.specs.Kinds.{boolean_of}
use Rattle.gql_base.specs.declared.value.Value.{Value}
use Rattle.gql_doc.specs.Depth.{Fragments}
use Rattle.gql_doc.specs.declared.document.Directive.{Directive}
use Rattle.gql_doc.specs.declared.document.Field.{Field, out-Field, roll-Field}
use Rattle.gql_doc.specs.declared.document.FragmentDefinition.{FragmentDefinition}
use Rattle.gql_doc.specs.declared.document.InlineFragment.{InlineFragment, out-InlineFragment}
use Rattle.gql_doc.specs.declared.document.InlineFragment.{roll-InlineFragment}
use Rattle.gql_doc.specs.declared.document.Positioned.{Positioned}
use Rattle.gql_doc.specs.declared.document.Selection.{Selection}
use Rattle.gql_doc.specs.declared.document.Selection.TheVariants as selection
use Rattle.gql_doc.specs.declared.document.Selection.TheOpen.{Selection-F, Field-F}
use Rattle.gql_doc.specs.declared.document.Selection.TheOpen.{InlineFragment-F, SelectionSet-F}
use Rattle.gql_doc.specs.declared.document.Selection.TheFolds.{fold-Selection, fold-Field}
use Rattle.gql_doc.specs.declared.document.Selection.TheFolds.{fold-InlineFragment}
use Rattle.gql_doc.specs.declared.document.Selection.TheFolds.{fold-SelectionSet}
use Rattle.gql_doc.specs.declared.document.SelectionSet.{SelectionSet, roll-SelectionSet}
use Rattle.gql_select.specs.Collected.{Setting}
use Rattle.gql_select.specs.Constants.{given, resolved}

-- the directive `@skip`
abbrev pub is_skip : Directive → Bool
is_skip directive = bytes_eq directive.name.node (codes "skip")

-- the directive `@include`
abbrev pub is_include : Directive → Bool
is_include directive = bytes_eq directive.name.node (codes "include")

-- whether a value is true; one that is no truth value counts as false
abbrev pub is_truth : Value → Bool
is_truth value = unwrap_or (boolean_of value) false

-- what the `if` of a directive comes to, where there is one
abbrev pub condition : (List ℕ → Value) → Directive → Option Bool
condition known directive = option_map (λ written. is_truth (resolved known written))
    (given (codes "if") directive.arguments)

-- whether a directive leaves its selection in the document: one without `if` does
abbrev pub allows : (List ℕ → Value) → Directive → Bool
allows known directive =
    if is_skip directive then unwrap_or (option_map not (condition known directive)) true else
    (if is_include directive then unwrap_or (condition known directive) true else true)

-- whether all directives of a selection leave it in the document
abbrev pub is_kept : (List ℕ → Value) → List (Positioned Directive) → Bool
is_kept known directives = list_all (λ directive. allows known directive.node) directives

-- the directives that stay: the two that were looked at go
abbrev pub others : List (Positioned Directive) → List (Positioned Directive)
others directives =
    filter (λ directive. not (is_skip directive.node || is_include directive.node)) directives

module _ (known : List ℕ → Value) where
  -- a selection, where its directives leave it
  abbrev pub kept_if : {A : Type 0} → List (Positioned Directive) → A → Option A
  kept_if directives node = if is_kept known directives then Some node else None

  -- a field without the two directives
  abbrev pub other_field : Field → Field
  other_field field =
      roll-Field (record (out-Field field) { directives = others (out-Field field).directives })

  -- a fragment in place without them
  abbrev pub other_inline : InlineFragment → InlineFragment
  other_inline fragment = roll-InlineFragment (record
      (out-InlineFragment fragment)
      { directives = others (out-InlineFragment fragment).directives })

  -- a selection without the two directives, where it is kept; what stands under was looked at
  -- before
  abbrev pub selection_step : Selection-F (Option Selection) Field InlineFragment SelectionSet
      → Option Selection
  selection_step (Selection-F.Field field) =
      kept_if (out-Field field.node).directives (selection.Field
      (record { pos = field.pos; node = other_field field.node }))
  selection_step (Selection-F.FragmentSpread spread) =
      kept_if spread.node.directives
      (selection.FragmentSpread
      (record {
        pos = spread.pos;
        node = record spread.node { directives = others spread.node.directives };
      }))
  selection_step (Selection-F.InlineFragment fragment) =
      kept_if (out-InlineFragment fragment.node).directives
      (selection.InlineFragment (record { pos = fragment.pos; node = other_inline fragment.node }))

  -- a field whose set was looked at
  abbrev pub field_step : Field-F (Option Selection) Field InlineFragment SelectionSet → Field
  field_step field =
      roll-Field
      (record {
        alias = field.alias;
        name = field.name;
        arguments = field.arguments;
        directives = field.directives;
        selection_set = field.selection_set;
      })

  -- a fragment in place whose set was looked at
  abbrev pub inline_step : InlineFragment-F (Option Selection) Field InlineFragment SelectionSet
      → InlineFragment
  inline_step fragment =
      roll-InlineFragment
      (record {
        type_condition = fragment.type_condition;
        directives = fragment.directives;
        selection_set = fragment.selection_set;
      })

  -- a selection at its place, where it is left
  abbrev pub if_kept : Positioned (Option Selection) → Option (Positioned Selection)
  if_kept selection =
      option_map (λ node. record { pos = selection.pos; node = node }) selection.node

  -- a set with the selections that are left
  abbrev pub set_step : SelectionSet-F (Option Selection) Field InlineFragment SelectionSet
      → SelectionSet
  set_step set = roll-SelectionSet (record { items = filter_map if_kept set.items })

  -- a selection with what is left under it, or none
  abbrev pub kept_selection : Selection → Option Selection
  kept_selection =
      fold-Selection (Option Selection) Field InlineFragment SelectionSet selection_step field_step
      inline_step set_step

  -- a field of which the set under is kept
  abbrev pub kept_field : Field → Field
  kept_field =
      fold-Field (Option Selection) Field InlineFragment SelectionSet selection_step field_step
      inline_step set_step

  -- a fragment in place of which the set is kept
  abbrev pub kept_inline : InlineFragment → InlineFragment
  kept_inline =
      fold-InlineFragment (Option Selection) Field InlineFragment SelectionSet selection_step
      field_step inline_step set_step

  -- a set without what is left out, whatever it is nested in
  abbrev pub kept_set : SelectionSet → SelectionSet
  kept_set =
      fold-SelectionSet (Option Selection) Field InlineFragment SelectionSet selection_step field_step
      inline_step set_step

  -- what is left of selections
  abbrev pub kept : List (Positioned Selection) → List (Positioned Selection)
  kept selections = filter_map (λ selection. if_kept
      (record { pos = selection.pos; node = kept_selection selection.node })) selections

  -- a fragment of which the set is kept
  abbrev pub kept_fragment : Positioned FragmentDefinition → Positioned FragmentDefinition
  kept_fragment fragment = record {
    pos = fragment.pos;
    node =
        record fragment.node {
          selection_set = record
              { pos = fragment.node.selection_set.pos; node = kept_set fragment.node.selection_set.node };
        };
  }

  -- all fragments of a document
  abbrev pub kept_fragments : Fragments → Fragments
  kept_fragments fragments = map (λ pair. (pair.0, kept_fragment pair.1)) fragments

  -- what the fields of the kept document are read by
  abbrev pub kept_setting : Setting → Setting
  kept_setting setting = record setting { fragments = kept_fragments setting.fragments }
