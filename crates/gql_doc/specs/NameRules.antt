-- The rules on operations and names of a document (GraphQL, October 2021, sections 5.2.1.1,
-- 5.2.2.1, 5.5.1.1 and 5.6.3), as the place of the first fault against them.
use Rattle.std.specs.Prelude.{ℕ, Bool, List, [], ◌∷◌, ◌++◌, Option, Some, None, if◌then◌else◌}
use Rattle.std.specs.List.{list_any}
use Rattle.std.specs.Str.{bytes_eq}
use mathlib.Core.Former.{Count}
use Rattle.gql_base.specs.declared.pos.Pos.{Pos}
use Rattle.std.specs.Option.{option_or}
use Rattle.gql_doc.specs.First.{first_in}
use Rattle.gql_doc.specs.declared.tree.SetTree.{SetTree}
use Rattle.gql_doc.specs.declared.tree.ValueTree.{ValueTree, List', Object', Row_of-ValueTree}
use Rattle.gql_doc.specs.declared.tree.ValueTree.{end_of-ValueTree, more_of-ValueTree}
use Rattle.gql_doc.specs.declared.tree.ValueTree.{Row_of-MemberTree}
use Rattle.gql_doc.specs.declared.tree.ValueTree.{end_of-MemberTree, more_of-MemberTree}
use Rattle.gql_doc.specs.declared.tree.ArgumentTree.{ArgumentTree}
use Rattle.gql_doc.specs.declared.tree.DirectiveTree.{DirectiveTree}
use Rattle.gql_doc.specs.declared.tree.VariableTree.{VariableTree}
use Rattle.gql_doc.specs.declared.tree.SelectionTree.{SelectionTree, Field', Spread, Inline'}
use Rattle.gql_doc.specs.declared.tree.SelectionTree.{Row_of-SelectionTree, end_of-SelectionTree}
use Rattle.gql_doc.specs.declared.tree.SelectionTree.{more_of-SelectionTree}
use Rattle.gql_doc.specs.declared.tree.OperationTree.{OperationTree}
use Rattle.gql_doc.specs.declared.tree.FragmentTree.{FragmentTree}
use Rattle.gql_doc.specs.declared.tree.DefinitionTree.{DefinitionTree}
use Rattle.gql_doc.specs.declared.tree.DefinitionTree.TheVariants.{Operation, Fragment}
use Rattle.gql_doc.specs.Words.{PlacedName, PlacedValue}

abbrev pub definition_pos : DefinitionTree → Pos
definition_pos (Operation operation) = operation.pos
definition_pos (Fragment fragment) = fragment.pos

-- the operations of a document, in their order
abbrev pub operations : List DefinitionTree → List OperationTree
operations [] = []
operations (Operation operation ∷ definitions) = operation ∷ operations definitions
operations (Fragment fragment ∷ definitions) = operations definitions

-- the place of an operation that has no name
abbrev pub if_unnamed : Option PlacedName → Pos → Option Pos
if_unnamed None pos = Some pos
if_unnamed (Some name) pos = None

abbrev pub anonymous : OperationTree → Option Pos
anonymous operation = if_unnamed operation.name operation.pos

-- the first anonymous operation where there is another operation; the first definition where there
-- is no operation
abbrev pub wrong_among : List OperationTree → List DefinitionTree → Option Pos
wrong_among [] [] = None
wrong_among [] (definition ∷ definitions) = Some (definition_pos definition)
wrong_among (operation ∷ []) definitions = None
wrong_among (operation ∷ second ∷ others) definitions =
    first_in anonymous (operation ∷ second ∷ others)

abbrev pub wrong_operations : List DefinitionTree → Option Pos
wrong_operations definitions = wrong_among (operations definitions) definitions

abbrev pub is_among : List ℕ → List (List ℕ) → Bool
is_among name names = list_any (bytes_eq name) names

-- the place, where the name is among those before
abbrev pub if_among : List (List ℕ) → List ℕ → Pos → Option Pos
if_among names name pos = if is_among name names then Some pos else None

abbrev pub if_doubled : List (List ℕ) → PlacedName → Option Pos
if_doubled names name = if_among names name.node name.pos

-- The second name in an object value, the first such in a value. `names` are those before in the
-- object.
abbrev mutual
  pub doubled_in_value : ValueTree → Option Pos
  doubled_in_value (List' _ values) = doubled_in_values values
  doubled_in_value (Object' _ members) = doubled_in_members [] members
  doubled_in_value _ = None

  pub doubled_in_values : {m : Count} → Row_of-ValueTree m → Option Pos
  doubled_in_values end_of-ValueTree = None
  doubled_in_values (more_of-ValueTree value values) =
      option_or (doubled_in_value value) (doubled_in_values values)

  pub doubled_in_members : List (List ℕ) → {m : Count} → Row_of-MemberTree m → Option Pos
  doubled_in_members names end_of-MemberTree = None
  doubled_in_members names (more_of-MemberTree name value members) =
      option_or (option_or (if_doubled names name) (doubled_in_value value))
      (doubled_in_members (names ++ name.node ∷ []) members)

abbrev pub doubled_in_argument : ArgumentTree → Option Pos
doubled_in_argument argument = doubled_in_value argument.value.node

abbrev pub doubled_in_arguments : List ArgumentTree → Option Pos
doubled_in_arguments = first_in doubled_in_argument

abbrev pub doubled_in_directive : DirectiveTree → Option Pos
doubled_in_directive directive = doubled_in_arguments directive.arguments

abbrev pub doubled_in_directives : List DirectiveTree → Option Pos
doubled_in_directives = first_in doubled_in_directive

abbrev pub doubled_in_default : Option PlacedValue → Option Pos
doubled_in_default None = None
doubled_in_default (Some default) = doubled_in_value default.node

abbrev pub doubled_in_variable : VariableTree → Option Pos
doubled_in_variable variable = option_or (doubled_in_default variable.default)
    (doubled_in_directives variable.directives)

abbrev mutual
  pub doubled_in_selection : SelectionTree → Option Pos
  doubled_in_selection (Field' alias name arguments directives set _ selections) =
      option_or (doubled_in_arguments arguments) (option_or (doubled_in_directives directives)
      (doubled_in_selections selections))
  doubled_in_selection (Spread pos name directives) = doubled_in_directives directives
  doubled_in_selection (Inline' pos condition directives set _ selections) =
      option_or (doubled_in_directives directives) (doubled_in_selections selections)

  pub doubled_in_selections : {m : Count} → Row_of-SelectionTree m → Option Pos
  doubled_in_selections end_of-SelectionTree = None
  doubled_in_selections (more_of-SelectionTree selection selections) =
      option_or (doubled_in_selection selection) (doubled_in_selections selections)

abbrev pub doubled_in_set : SetTree → Option Pos
doubled_in_set set = first_in doubled_in_selection set.selections

abbrev pub doubled_in_operation : OperationTree → Option Pos
doubled_in_operation operation =
    option_or (first_in doubled_in_variable operation.variables)
    (option_or (doubled_in_directives operation.directives) (doubled_in_set operation.set))

abbrev pub doubled_in_fragment : FragmentTree → Option Pos
doubled_in_fragment fragment =
    option_or (doubled_in_directives fragment.directives) (doubled_in_set fragment.set)

-- the place of an operation whose name is among those before
abbrev pub if_named_among : List (List ℕ) → Option PlacedName → Pos → Option Pos
if_named_among names None pos = None
if_named_among names (Some name) pos = if_among names name.node pos

-- the name of an operation, if the definition is one that has a name
abbrev pub name_in : Option PlacedName → List (List ℕ)
name_in None = []
name_in (Some name) = name.node ∷ []

abbrev pub operation_names : DefinitionTree → List (List ℕ)
operation_names (Operation operation) = name_in operation.name
operation_names (Fragment fragment) = []

-- the name of a fragment, if the definition is one
abbrev pub fragment_names : DefinitionTree → List (List ℕ)
fragment_names (Operation operation) = []
fragment_names (Fragment fragment) = fragment.name.node ∷ []

-- The second definition of a name, or the second name in an object value: the first such in a
-- definition. `queries` are the names of the operations before, and `fragments` those of the
-- fragments before.
abbrev pub doubled_in_definition : List (List ℕ) → List (List ℕ) → DefinitionTree → Option Pos
doubled_in_definition queries fragments (Operation operation) =
    option_or (if_named_among queries operation.name operation.pos) (doubled_in_operation operation)
doubled_in_definition queries fragments (Fragment fragment) =
    option_or (if_among fragments fragment.name.node fragment.pos) (doubled_in_fragment fragment)

-- the same in definitions
abbrev pub doubled_among : List (List ℕ) → List (List ℕ) → List DefinitionTree → Option Pos
doubled_among queries fragments [] = None
doubled_among queries fragments (definition ∷ definitions) =
    option_or (doubled_in_definition queries fragments definition)
    (doubled_among (queries ++ operation_names definition) (fragments ++ fragment_names definition)
    definitions)

abbrev pub doubled_name : List DefinitionTree → Option Pos
doubled_name = doubled_among [] []
