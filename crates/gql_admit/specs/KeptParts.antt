-- What is kept of the parts of a set, each at its place. These say `kept` one level at a time.
use Rattle.std.specs.Prelude.{ℕ, List, Option}
use Rattle.gql_base.specs.declared.value.Value.{Value}
use Rattle.gql_doc.specs.declared.document.Field.{Field}
use Rattle.gql_doc.specs.declared.document.FragmentSpread.{FragmentSpread}
use Rattle.gql_doc.specs.declared.document.InlineFragment.{InlineFragment}
use Rattle.gql_doc.specs.declared.document.Positioned.{Positioned}
use Rattle.gql_doc.specs.declared.document.Selection.{Selection}
use Rattle.gql_doc.specs.declared.document.SelectionSet.{SelectionSet}
use Rattle.gql_select.specs.Kept.{if_kept, kept_field, kept_inline, kept_selection, kept_set}
use Rattle.gql_select.specs.Kept.{other_field, other_inline, others}

-- a spread without the two directives
abbrev pub left_spread : Positioned FragmentSpread → Positioned FragmentSpread
left_spread spread =
    record {
      pos = spread.pos;
      node = record spread.node { directives = others spread.node.directives };
    }

module _ (known : List ℕ → Value) where
  -- a set
  abbrev pub left_set : Positioned SelectionSet → Positioned SelectionSet
  left_set set = record { pos = set.pos; node = kept_set known set.node }

  -- a field that is kept
  abbrev pub left_field : Positioned Field → Positioned Field
  left_field field =
      record { pos = field.pos; node = other_field known (kept_field known field.node) }

  -- a fragment in place that is kept
  abbrev pub left_inline : Positioned InlineFragment → Positioned InlineFragment
  left_inline fragment =
      record { pos = fragment.pos; node = other_inline known (kept_inline known fragment.node) }

  -- a selection, or none where it is left out
  abbrev pub left_selection : Positioned Selection → Option (Positioned Selection)
  left_selection selection =
      if_kept known (record { pos = selection.pos; node = kept_selection known selection.node })
