-- The document that a tree gives: the same parts, where names that stand once are looked up by
-- name, and the places that no reader of a document asks for are left out.
use Rattle.std.specs.Prelude.{ℕ, List, [], ◌∷◌, map, Option, Some, None}
use Rattle.std.specs.List.{flat_map}
use mathlib.Core.Former.{Count}
use Rattle.gql_base.specs.declared.pos.Pos.{Pos}
use Rattle.gql_base.specs.declared.value.Value.{Value}
use Rattle.gql_base.specs.declared.value.Value.TheVariants as constant
use Rattle.gql_doc.specs.First.{first_in}
use Rattle.gql_doc.specs.declared.document.Positioned.{Positioned}
use Rattle.gql_doc.specs.declared.document.DocValue.{DocValue}
use Rattle.gql_doc.specs.declared.document.DocValue.TheVariants as value
use Rattle.gql_doc.specs.declared.document.Argument.{Argument}
use Rattle.gql_doc.specs.declared.document.Directive.{Directive}
use Rattle.gql_doc.specs.declared.document.VariableDefinition.{VariableDefinition}
use Rattle.gql_doc.specs.declared.document.SelectionSet.{SelectionSet, roll-SelectionSet}
use Rattle.gql_doc.specs.declared.document.Selection.{Selection}
use Rattle.gql_doc.specs.declared.document.Selection.TheVariants as selection
use Rattle.gql_doc.specs.declared.document.Field.{roll-Field}
use Rattle.gql_doc.specs.declared.document.InlineFragment.{roll-InlineFragment}
use Rattle.gql_doc.specs.declared.document.OperationDefinition.{OperationDefinition}
use Rattle.gql_doc.specs.declared.document.FragmentDefinition.{FragmentDefinition}
use Rattle.gql_doc.specs.declared.document.DocumentOperations.{DocumentOperations}
use Rattle.gql_doc.specs.declared.document.DocumentOperations.TheVariants.{Single, Multiple}
use Rattle.gql_doc.specs.declared.document.ExecutableDocument.{ExecutableDocument}
use Rattle.gql_doc.specs.declared.tree.SetTree.{SetTree}
use Rattle.gql_doc.specs.declared.tree.ValueTree.{ValueTree, Variable, Number, String, Boolean}
use Rattle.gql_doc.specs.declared.tree.ValueTree.{Null, Enum}
use Rattle.gql_doc.specs.declared.tree.ValueTree.{List', Object', Row_of-ValueTree}
use Rattle.gql_doc.specs.declared.tree.ValueTree.{end_of-ValueTree}
use Rattle.gql_doc.specs.declared.tree.ValueTree.{more_of-ValueTree, Row_of-MemberTree}
use Rattle.gql_doc.specs.declared.tree.ValueTree.{end_of-MemberTree}
use Rattle.gql_doc.specs.declared.tree.ValueTree.{more_of-MemberTree}
use Rattle.gql_doc.specs.declared.tree.ArgumentTree.{ArgumentTree}
use Rattle.gql_doc.specs.declared.tree.DirectiveTree.{DirectiveTree}
use Rattle.gql_doc.specs.declared.tree.VariableTree.{VariableTree}
use Rattle.gql_doc.specs.declared.tree.SelectionTree.{SelectionTree, Field', Spread, Inline'}
use Rattle.gql_doc.specs.declared.tree.SelectionTree.{Row_of-SelectionTree, end_of-SelectionTree}
use Rattle.gql_doc.specs.declared.tree.SelectionTree.{more_of-SelectionTree}
use Rattle.gql_doc.specs.declared.tree.OperationTree.{OperationTree}
use Rattle.gql_doc.specs.declared.tree.FragmentTree.{FragmentTree}
use Rattle.gql_doc.specs.declared.tree.DefinitionTree.{DefinitionTree}
use Rattle.gql_doc.specs.declared.tree.DefinitionTree.TheVariants.{Operation, Fragment}
use Rattle.gql_doc.specs.Grammar.{head_pos}
use Rattle.gql_doc.specs.Words.{PlacedName, PlacedValue}

abbrev pub placed : {A : Type 0} → Pos → A → Positioned A
placed pos node = record { pos = pos; node = node }

-- Value (section 2.9)
abbrev mutual
  pub value_of : ValueTree → DocValue
  value_of (Variable name) = value.Variable name
  value_of (Number number) = value.Number number
  value_of (String text) = value.String text
  value_of (Boolean holds) = value.Boolean holds
  value_of Null = value.Null
  value_of (Enum name) = value.Enum name
  value_of (List' _ values) = value.List (values_of values)
  value_of (Object' _ members) = value.Object (members_of members)

  pub values_of : {m : Count} → Row_of-ValueTree m → List DocValue
  values_of end_of-ValueTree = []
  values_of (more_of-ValueTree value values) = value_of value ∷ values_of values

  pub members_of : {m : Count} → Row_of-MemberTree m → List (List ℕ × DocValue)
  members_of end_of-MemberTree = []
  members_of (more_of-MemberTree name value members) =
      (name.node, value_of value) ∷ members_of members

-- a constant (section 2.9): the grammar lets no variable stand in it, so what a variable gives here
-- is no matter
abbrev mutual
  pub constant_of : ValueTree → Value
  constant_of (Variable name) = constant.Null
  constant_of (Number number) = constant.Number number
  constant_of (String text) = constant.String text
  constant_of (Boolean holds) = constant.Boolean holds
  constant_of Null = constant.Null
  constant_of (Enum name) = constant.Enum name
  constant_of (List' _ values) = constant.List (constants_of values)
  constant_of (Object' _ members) = constant.Object (constant_members_of members)

  pub constants_of : {m : Count} → Row_of-ValueTree m → List Value
  constants_of end_of-ValueTree = []
  constants_of (more_of-ValueTree value values) = constant_of value ∷ constants_of values

  pub constant_members_of : {m : Count} → Row_of-MemberTree m → List (List ℕ × Value)
  constant_members_of end_of-MemberTree = []
  constant_members_of (more_of-MemberTree name value members) = (name.node, constant_of value)
      ∷ constant_members_of members

-- Argument (section 2.6)
abbrev pub argument_of : ArgumentTree → Argument
argument_of argument =
    record { name = argument.name; value = placed argument.value.pos (value_of argument.value.node) }

-- Directive (section 2.12)
abbrev pub directive_of : DirectiveTree → Positioned Directive
directive_of directive =
    placed directive.pos
    (record { name = directive.name; arguments = map argument_of directive.arguments })

abbrev pub default_of : Option PlacedValue → Option (Positioned Value)
default_of None = None
default_of (Some default) = Some (placed default.pos (constant_of default.node))

-- VariableDefinition (section 2.10)
abbrev pub variable_of : VariableTree → Positioned VariableDefinition
variable_of variable =
    placed variable.pos
    (record {
      name = variable.name;
      var_type = variable.ty;
      directives = map directive_of variable.directives;
      default = default_of variable.default;
    })

abbrev pub set_of : Pos → List (Positioned Selection) → Positioned SelectionSet
set_of pos selections = placed pos (roll-SelectionSet (record { items = selections }))

-- Selection (sections 2.5 and 2.8)
abbrev mutual
  pub selection_of : SelectionTree → Positioned Selection
  selection_of (Field' alias name arguments directives set _ selections) =
      placed (head_pos alias name)
      (selection.Field (placed (head_pos alias name)
      (roll-Field
      (record {
        alias = alias;
        name = name;
        arguments = map argument_of arguments;
        directives = map directive_of directives;
        selection_set = set_of set (selections_of selections);
      }))))
  selection_of (Spread pos name directives) =
      placed pos (selection.FragmentSpread (placed pos
      (record { fragment_name = name; directives = map directive_of directives })))
  selection_of (Inline' pos condition directives set _ selections) =
      placed pos
      (selection.InlineFragment (placed pos
      (roll-InlineFragment
      (record {
        type_condition = condition;
        directives = map directive_of directives;
        selection_set = set_of set (selections_of selections);
      }))))

  pub selections_of : {m : Count} → Row_of-SelectionTree m → List (Positioned Selection)
  selections_of end_of-SelectionTree = []
  selections_of (more_of-SelectionTree selection selections) =
      selection_of selection ∷ selections_of selections

-- SelectionSet (section 2.4)
abbrev pub whole_set_of : SetTree → Positioned SelectionSet
whole_set_of set = set_of set.pos (map selection_of set.selections)

-- OperationDefinition (section 2.3)
abbrev pub operation_of : OperationTree → Positioned OperationDefinition
operation_of operation =
    placed operation.pos
    (record {
      ty = operation.ty;
      variable_definitions = map variable_of operation.variables;
      directives = map directive_of operation.directives;
      selection_set = whole_set_of operation.set;
    })

-- FragmentDefinition (section 2.8)
abbrev pub fragment_of : FragmentTree → Positioned FragmentDefinition
fragment_of fragment =
    placed fragment.pos
    (record {
      type_condition = fragment.condition;
      directives = map directive_of fragment.directives;
      selection_set = whole_set_of fragment.set;
    })

abbrev pub if_without_name : {A : Type 0} → Option PlacedName → A → Option A
if_without_name None definition = Some definition
if_without_name (Some name) definition = None

abbrev pub if_with_name : {A : Type 0} → Option PlacedName → A → List (List ℕ × A)
if_with_name None definition = []
if_with_name (Some name) definition = (name.node, definition) ∷ []

-- the operation without a name that a definition is
abbrev pub anonymous_of : DefinitionTree → Option (Positioned OperationDefinition)
anonymous_of (Operation operation) = if_without_name operation.name (operation_of operation)
anonymous_of (Fragment fragment) = None

-- the operation that a definition is, under its name
abbrev pub named_of : DefinitionTree → List (List ℕ × Positioned OperationDefinition)
named_of (Operation operation) = if_with_name operation.name (operation_of operation)
named_of (Fragment fragment) = []

-- the fragment that a definition is, under its name
abbrev pub fragments_of : DefinitionTree → List (List ℕ × Positioned FragmentDefinition)
fragments_of (Operation operation) = []
fragments_of (Fragment fragment) = (fragment.name.node, fragment_of fragment) ∷ []

-- an operation without a name stands alone; others stand under their names, even a single one
abbrev pub operations_of : Option (Positioned OperationDefinition)
    → List (List ℕ × Positioned OperationDefinition) → DocumentOperations
operations_of (Some anonymous) named = Single anonymous
operations_of None named = Multiple named

-- Document (section 2.2)
abbrev pub document_of : List DefinitionTree → ExecutableDocument
document_of definitions =
    record {
      operations =
          operations_of (first_in anonymous_of definitions) (flat_map named_of definitions);
      fragments = flat_map fragments_of definitions;
    }
