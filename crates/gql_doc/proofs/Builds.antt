-- Doubled names and parts of a tree, item by item.
use Rattle.std.specs.Prelude.{ℕ, List, [], ◌∷◌, ◌++◌, Option, Some, None}
use Rattle.gql_base.specs.declared.pos.Pos.{Pos}
use Rattle.std.specs.Option.{option_or}
use Rattle.gql_doc.specs.declared.document.DocValue.{DocValue}
use Rattle.gql_doc.specs.declared.tree.MemberTree.{MemberTree}
use Rattle.gql_doc.specs.declared.tree.DefinitionTree.{DefinitionTree}
use Rattle.gql_doc.specs.NameRules.{if_doubled, doubled_in_value, definition_pos}
use Rattle.gql_doc.specs.Building.{value_of}

abbrev pub member_of : MemberTree → List ℕ × DocValue
member_of member = (member.name.node, value_of member.value)

-- the second name in an object, or in the value of a member
abbrev pub doubled_in_member : List (List ℕ) → MemberTree → Option Pos
doubled_in_member names member =
    option_or (if_doubled names member.name) (doubled_in_value member.value)

-- the first fault of members, after those of these names
abbrev pub doubled_among_members : List (List ℕ) → List MemberTree → Option Pos
doubled_among_members names [] = None
doubled_among_members names (x ∷ xs) =
    option_or (doubled_in_member names x) (doubled_among_members (names ++ x.name.node ∷ []) xs)

-- the place of the first definition
abbrev pub first_pos : List DefinitionTree → Option Pos
first_pos [] = None
first_pos (definition ∷ definitions) = Some (definition_pos definition)
