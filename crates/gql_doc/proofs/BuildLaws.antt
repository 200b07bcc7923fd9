-- Doubled names and parts of lists, objects and selections, item by item.
use Rattle.std.proofs.Common.{◌≡◌, ℕ, List, [], ◌∷◌, ◌++◌, map, Option, refl, ap, ◌∙◌}
use Rattle.std.specs.Option.{option_or}
use mathlib.Core.Former.{Count}
use Rattle.gql_base.specs.declared.pos.Pos.{Pos}
use Rattle.gql_doc.specs.First.{first_in}
use Rattle.gql_doc.specs.declared.document.DocValue.TheVariants as doc
use Rattle.gql_doc.specs.declared.document.Selection.TheVariants as selection
use Rattle.gql_doc.specs.declared.document.Field.{roll-Field}
use Rattle.gql_doc.specs.declared.document.InlineFragment.{roll-InlineFragment}
use Rattle.gql_doc.specs.declared.tree.ValueTree.{ValueTree, List as ListTree, Object as ObjectTree, Row_of-ValueTree, end_of-ValueTree, more_of-ValueTree, items-the_row-ValueTree, items_hidden-the_row-ValueTree-0, Row_of-MemberTree, end_of-MemberTree, more_of-MemberTree, items-the_row-MemberTree, items_hidden-the_row-MemberTree-1}
use Rattle.gql_doc.specs.declared.tree.ValueTree.TheBlock.{hidden-the_row-ValueTree-0, hidden-the_row-MemberTree-1}
use Rattle.gql_doc.specs.declared.tree.MemberTree.{MemberTree}
use Rattle.gql_doc.specs.declared.tree.ArgumentTree.{ArgumentTree}
use Rattle.gql_doc.specs.declared.tree.DirectiveTree.{DirectiveTree}
use Rattle.gql_doc.specs.declared.tree.SelectionTree.{SelectionTree, Field, Inline, Row_of-SelectionTree, end_of-SelectionTree, more_of-SelectionTree, items-the_row-SelectionTree, items_hidden-the_row-SelectionTree-0}
use Rattle.gql_doc.specs.declared.tree.SelectionTree.TheBlock.{hidden-the_row-SelectionTree-0}
use Rattle.gql_doc.specs.Grammar.{head_pos}
use Rattle.gql_doc.specs.NameRules.{if_doubled, doubled_in_value, doubled_in_values, doubled_in_members, doubled_in_arguments, doubled_in_directives, doubled_in_selection, doubled_in_selections}
use Rattle.gql_doc.specs.Building.{placed, value_of, values_of, members_of, argument_of, directive_of, set_of, selection_of, selections_of}
use Rattle.gql_doc.specs.Words.{PlacedName}
use Rattle.gql_doc.proofs.Builds.{member_of, doubled_among_members}

doubled_row : (m : Count) (row : Row_of-ValueTree m) → doubled_in_values row ≡ first_in doubled_in_value (items-the_row-ValueTree m row)
doubled_row _ end_of-ValueTree = refl
doubled_row _ (more_of-ValueTree v row) = ap (option_or (doubled_in_value v)) (doubled_row _ row)

doubled_members_row : (names : List (List ℕ)) (m : Count) (row : Row_of-MemberTree m) → doubled_in_members names row ≡ doubled_among_members names (items-the_row-MemberTree m row)
doubled_members_row names _ end_of-MemberTree = refl
doubled_members_row names _ (more_of-MemberTree name v row) =
    ap (option_or (option_or (if_doubled names name) (doubled_in_value v))) (doubled_members_row (names ++ name.node ∷ []) _ row)

values_row : (m : Count) (row : Row_of-ValueTree m) → values_of row ≡ map value_of (items-the_row-ValueTree m row)
values_row _ end_of-ValueTree = refl
values_row _ (more_of-ValueTree v row) = ap (λ vs. value_of v ∷ vs) (values_row _ row)

members_row : (m : Count) (row : Row_of-MemberTree m) → members_of row ≡ map member_of (items-the_row-MemberTree m row)
members_row _ end_of-MemberTree = refl
members_row _ (more_of-MemberTree name v row) = ap (λ ms. (name.node, value_of v) ∷ ms) (members_row _ row)

pub doubled_list : (vs : List ValueTree) → doubled_in_value (ListTree vs) ≡ first_in doubled_in_value vs
doubled_list vs = doubled_row _ (hidden-the_row-ValueTree-0 vs) ∙ ap (first_in doubled_in_value) (items_hidden-the_row-ValueTree-0 vs)

pub doubled_object : (ms : List MemberTree) → doubled_in_value (ObjectTree ms) ≡ doubled_among_members [] ms
doubled_object ms =
    doubled_members_row [] _ (hidden-the_row-MemberTree-1 ms) ∙ ap (doubled_among_members []) (items_hidden-the_row-MemberTree-1 ms)

pub value_list : (vs : List ValueTree) → value_of (ListTree vs) ≡ doc.List (map value_of vs)
value_list vs =
    ap doc.List (values_row _ (hidden-the_row-ValueTree-0 vs) ∙ ap (map value_of) (items_hidden-the_row-ValueTree-0 vs))

pub value_object : (ms : List MemberTree) → value_of (ObjectTree ms) ≡ doc.Object (map member_of ms)
value_object ms =
    ap doc.Object (members_row _ (hidden-the_row-MemberTree-1 ms) ∙ ap (map member_of) (items_hidden-the_row-MemberTree-1 ms))

doubled_selections_row : (m : Count) (row : Row_of-SelectionTree m) → doubled_in_selections row ≡ first_in doubled_in_selection (items-the_row-SelectionTree m row)
doubled_selections_row _ end_of-SelectionTree = refl
doubled_selections_row _ (more_of-SelectionTree s row) = ap (option_or (doubled_in_selection s)) (doubled_selections_row _ row)

selections_row : (m : Count) (row : Row_of-SelectionTree m) → selections_of row ≡ map selection_of (items-the_row-SelectionTree m row)
selections_row _ end_of-SelectionTree = refl
selections_row _ (more_of-SelectionTree s row) = ap (λ ss. selection_of s ∷ ss) (selections_row _ row)

doubled_hidden : (ss : List SelectionTree) → doubled_in_selections (hidden-the_row-SelectionTree-0 ss) ≡ first_in doubled_in_selection ss
doubled_hidden ss =
    doubled_selections_row _ (hidden-the_row-SelectionTree-0 ss) ∙ ap (first_in doubled_in_selection) (items_hidden-the_row-SelectionTree-0 ss)

hidden_built : (ss : List SelectionTree) → selections_of (hidden-the_row-SelectionTree-0 ss) ≡ map selection_of ss
hidden_built ss =
    selections_row _ (hidden-the_row-SelectionTree-0 ss) ∙ ap (map selection_of) (items_hidden-the_row-SelectionTree-0 ss)

module _ (alias : Option PlacedName) (name : PlacedName) (arguments : List ArgumentTree) (directives : List DirectiveTree) (set : Pos) (selections : List SelectionTree) where
  pub doubled_field : doubled_in_selection (Field alias name arguments directives set selections)
      ≡ option_or (doubled_in_arguments arguments) (option_or (doubled_in_directives directives) (first_in doubled_in_selection selections))
  doubled_field =
      ap (λ o. option_or (doubled_in_arguments arguments) (option_or (doubled_in_directives directives) o)) (doubled_hidden selections)

  pub field_built : selection_of (Field alias name arguments directives set selections)
      ≡ placed (head_pos alias name) (selection.Field (placed (head_pos alias name)
      (roll-Field (record { alias = alias; name = name; arguments = map argument_of arguments; directives = map directive_of directives; selection_set = set_of set (map selection_of selections) }))))
  field_built =
      ap (λ ss. placed (head_pos alias name) (selection.Field (placed (head_pos alias name)
      (roll-Field (record { alias = alias; name = name; arguments = map argument_of arguments; directives = map directive_of directives; selection_set = set_of set ss })))))
      (hidden_built selections)

module _ (pos : Pos) (condition : Option PlacedName) (directives : List DirectiveTree) (set : Pos) (selections : List SelectionTree) where
  pub doubled_inline : doubled_in_selection (Inline pos condition directives set selections)
      ≡ option_or (doubled_in_directives directives) (first_in doubled_in_selection selections)
  doubled_inline = ap (λ o. option_or (doubled_in_directives directives) o) (doubled_hidden selections)

  pub inline_built : selection_of (Inline pos condition directives set selections)
      ≡ placed pos (selection.InlineFragment (placed pos
      (roll-InlineFragment (record { type_condition = condition; directives = map directive_of directives; selection_set = set_of set (map selection_of selections) }))))
  inline_built =
      ap (λ ss. placed pos (selection.InlineFragment (placed pos
      (roll-InlineFragment (record { type_condition = condition; directives = map directive_of directives; selection_set = set_of set ss })))))
      (hidden_built selections)
