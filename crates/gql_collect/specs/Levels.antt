-- The fields of an object under their keys, with what each asks (GraphQL, October 2021, sections
-- 6.3.1 and 6.3.2).
use Rattle.std.specs.Prelude.{ℕ, Bool, false, List, [], ◌∷◌, map}
use Rattle.std.specs.List.{zip}
use Rattle.std.specs.declared.alloc.Global.{Global}
use Rattle.std.specs.declared.rc.Rc.{Rc}
use Rattle.gql_doc.specs.declared.document.Field.{Field}
use Rattle.gql_doc.specs.declared.document.Positioned.{Positioned}
use Rattle.gql_doc.specs.declared.document.Selection.{Selection}
use Rattle.gql_collect.specs.Asks.{asks_of}
use Rattle.gql_collect.specs.Basis.{execution_of}
use Rattle.gql_collect.specs.GroupFields.{groups_in}
use Rattle.gql_collect.specs.Groups.{united}
use Rattle.gql_collect.specs.KeyNames.{names_in}
use Rattle.gql_collect.specs.declared.asks.Asks.{Asks}
use Rattle.gql_collect.specs.declared.basis.Basis.{Basis}
use Rattle.gql_collect.specs.declared.level.Level.{Level}
use Rattle.gql_collect.specs.declared.level.Node.{Node}

-- a field, merged over its occurrences, with what it asks, and what the execution stands on
pub record Asked : Type 0 where
  pub basis : Basis
  pub field : Positioned Field
  pub asks : Asks

-- a node as such a field
abbrev pub asked_by : Node → Asked
asked_by node = record { basis = node.basis; field = united node.group; asks = node.asks }

-- the same of a node that is shared
abbrev pub asked_behind : Rc Node Global → Asked
asked_behind node = asked_by node.value

-- the fields of a level under their keys
abbrev pub members_of : Level → List (List ℕ × Asked)
members_of level = zip (names_in level.keys) (map asked_behind level.nodes.items)

-- a field with what it asks on an object
abbrev pub asked_of : Basis → List ℕ → Positioned Field → Asked
asked_of basis object field =
    record { basis = basis; field = field; asks = asks_of (execution_of basis) object field }

-- fields under their keys, each with what it asks on an object
abbrev pub asked_on : Basis → List ℕ → List (List ℕ × Positioned Field) → List (List ℕ × Asked)
asked_on basis object [] = []
asked_on basis object (member ∷ members) =
    (member.0, asked_of basis object member.1) ∷ asked_on basis object members

-- the fields of an object in selections, as root keys of a mutation or as others, with what each
-- asks
abbrev pub asked_in_as : (is_root : Bool) → Basis → List ℕ → List (Positioned Selection)
    → List (List ℕ × Asked)
asked_in_as is_root basis object selections =
    asked_on basis object (groups_in is_root basis object selections)

-- as others
abbrev pub asked_in : Basis → List ℕ → List (Positioned Selection) → List (List ℕ × Asked)
asked_in basis object selections = asked_in_as false basis object selections
