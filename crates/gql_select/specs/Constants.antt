-- The values of arguments (GraphQL, October 2021, section 6.4.1).
use Rattle.std.specs.Prelude.{ℕ, List, [], ◌∷◌, Option, Some, None, find, option_map, unwrap_or}
use Rattle.std.specs.List.{flat_map}
use Rattle.std.specs.Str.{bytes_eq}
use Rattle.gql_base.specs.Pairs.{under}
use Rattle.gql_base.specs.declared.value.Value.{Value}
use Rattle.gql_base.specs.declared.value.Value.TheVariants as value
use Rattle.gql_doc.specs.Document.{argument_named}
use Rattle.gql_doc.specs.declared.document.Argument.{Argument}
use Rattle.gql_doc.specs.declared.document.DocValue.{DocValue}
use Rattle.gql_doc.specs.declared.document.DocValue.TheOpen.{DocValue-F}
use Rattle.gql_doc.specs.declared.document.DocValue.TheFolds.{fold-DocValue}
use Rattle.gql_doc.specs.declared.document.Positioned.{Positioned}
use Rattle.gql_doc.specs.declared.document.VariableDefinition.{VariableDefinition}

-- the default of the first definition of a variable
abbrev pub default_in : Option (Positioned VariableDefinition) → Option Value
default_in None = None
default_in (Some definition) = option_map (λ default. default.node) definition.node.default

-- the default of a variable, by the first definition of its name
abbrev pub default_of : List ℕ → List (Positioned VariableDefinition) → Option Value
default_of name definitions =
    default_in (find (λ definition. bytes_eq definition.node.name.node name) definitions)

-- what a variable stands for: the request's value, else its default, else null
abbrev pub variable_value : List (List ℕ × Value) → List (Positioned VariableDefinition) → List ℕ
    → Value
variable_value variables definitions name = unwrap_or (under name variables)
    (unwrap_or (default_of name definitions) value.Null)

-- a value of a document, with its variables replaced
abbrev pub value_step : (List ℕ → Value) → DocValue-F Value → Value
value_step known (DocValue-F.Variable name) = known name
value_step known DocValue-F.Null = value.Null
value_step known (DocValue-F.Boolean truth) = value.Boolean truth
value_step known (DocValue-F.Number number) = value.Number number
value_step known (DocValue-F.String text) = value.String text
value_step known (DocValue-F.Enum name) = value.Enum name
value_step known (DocValue-F.List items) = value.List items
value_step known (DocValue-F.Object members) = value.Object members

-- a value with what its variables stand for
abbrev pub resolved : (List ℕ → Value) → DocValue → Value
resolved known = fold-DocValue Value (value_step known)

-- the value that an argument is given as it is written; of a doubled argument the first counts
abbrev pub given : List ℕ → List Argument → Option DocValue
given name arguments = option_map (λ argument. argument.value.node) (argument_named name arguments)

-- a declared argument: its name, and its default, if any
abbrev pub Declared : Type 0
Declared = List ℕ × Option Value

-- an argument that has a value
abbrev pub constant : (List ℕ → Value) → List ℕ → Option DocValue → Option Value
    → List (List ℕ × Value)
constant known name (Some written) default = (name, resolved known written) ∷ []
constant known name None (Some default) = (name, default) ∷ []
constant known name None None = []

-- the values of the declared arguments that have one, in the order in which they are declared
abbrev pub constants : (List ℕ → Value) → List Declared → List Argument → List (List ℕ × Value)
constants known declared arguments =
    flat_map (λ d. constant known d.0 (given d.0 arguments) d.1) declared
