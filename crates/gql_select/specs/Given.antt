-- Arguments that are found by their names.
use Rattle.std.specs.Prelude.{◌≡◌, ℕ, Bool, List, Option, Some, None, option_map}
use Rattle.std.specs.Borrow.{Bor}
use Rattle.gql_base.specs.Pairs.{under}
use Rattle.gql_doc.specs.declared.document.Argument.{Argument}
use Rattle.gql_doc.specs.declared.document.DocValue.{DocValue}
use Rattle.gql_select.specs.Alike.{same_written}
use Rattle.gql_select.specs.Constants.{given}

-- the value behind a reference
abbrev pub value_behind : Bor DocValue → DocValue
value_behind value = value.now

-- the pairs tell what each name is given in the arguments
abbrev pub IsIndex : List Argument → List (List ℕ × Bor DocValue) → Type 0
IsIndex arguments index =
    (name : List ℕ) → option_map value_behind (under name index) ≡ given name arguments

-- an index, where there is one, tells it
abbrev pub IsIndexed : List Argument → Option (List (List ℕ × Bor DocValue)) → Type 0
IsIndexed arguments None = Unit {0}
IsIndexed arguments (Some index) = IsIndex arguments index

-- whether a name is given the same in both lists
abbrev pub name_same : List Argument → List Argument → List ℕ → Bool
name_same one other name = same_written (given name one) (given name other)

-- whether the name of an argument is, or that of a pair
abbrev pub argument_same : List Argument → List Argument → Argument → Bool
argument_same one other argument = name_same one other argument.name.node

abbrev pub pair_same : List Argument → List Argument → List ℕ × Bor DocValue → Bool
pair_same one other pair = name_same one other pair.0

-- an argument as it is written, but for its place
abbrev pub as_written : Argument → List ℕ × DocValue
as_written argument = (argument.name.node, argument.value.node)
