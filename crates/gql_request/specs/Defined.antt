-- The definitions of an operation's variables, by their names.
use Rattle.std.specs.Prelude.{ℕ, suc, List, [], ◌∷◌, ◌++◌, Option, find, is_some}
use Rattle.std.specs.Prelude.{if◌then◌else◌}
use Rattle.std.specs.Str.{bytes_eq}
use Rattle.gql_base.specs.Pairs.{under}
use Rattle.gql_doc.specs.declared.document.Positioned.{Positioned}
use Rattle.gql_doc.specs.declared.document.VariableDefinition.{VariableDefinition}

-- the name of the variable
abbrev pub defined_name : Positioned VariableDefinition → List ℕ
defined_name definition = definition.node.name.node

-- the first definition of a variable
abbrev pub first_definition : List ℕ → List (Positioned VariableDefinition)
    → Option (Positioned VariableDefinition)
first_definition name definitions =
    find (λ definition. bytes_eq definition.node.name.node name) definitions

-- places with that of one more definition, unless there is one of its name
abbrev pub with_place : List (List ℕ × ℕ) → Positioned VariableDefinition → ℕ → List (List ℕ × ℕ)
with_place places definition place =
    if is_some (under (defined_name definition) places) then places
    else places ++ (defined_name definition, place) ∷ []

-- places with those of further definitions, which stand from a place on
abbrev pub with_places : List (List ℕ × ℕ) → ℕ → List (Positioned VariableDefinition)
    → List (List ℕ × ℕ)
with_places places place [] = places
with_places places place (definition ∷ definitions) =
    with_places (with_place places definition place) (suc place) definitions

-- under each name the place of its first definition
abbrev pub definition_places : List (Positioned VariableDefinition) → List (List ℕ × ℕ)
definition_places definitions = with_places [] 0 definitions
