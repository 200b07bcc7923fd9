-- Which places an operation reaches, and which uses of variables there are wrong by its definitions
-- (GraphQL, October 2021, sections 5.8.3 and 5.8.5).
use Rattle.std.specs.Prelude.{◌≡◌, ℕ, List, [], map, Some, slice_get, slice_index_or}
use Rattle.std.specs.List.{Contains, flat_map}
use Rattle.std.specs.Option.{option_to_list}
use Rattle.gql_base.specs.Names.{place_of}
use Rattle.gql_base.specs.Pairs.{names_of, values_of}
use Rattle.gql_doc.specs.Depth.{Fragments, operations_in}
use Rattle.gql_doc.specs.declared.document.ExecutableDocument.{ExecutableDocument}
use Rattle.gql_doc.specs.declared.document.FragmentDefinition.{FragmentDefinition}
use Rattle.gql_doc.specs.declared.document.OperationDefinition.{OperationDefinition}
use Rattle.gql_doc.specs.declared.document.Positioned.{Positioned}
use Rattle.gql_doc.specs.declared.document.VariableDefinition.{VariableDefinition}
use Rattle.gql_fields.specs.BuiltIn.{built_in}
use Rattle.gql_fields.specs.Places.{Place, OnSpread, fragment_places, operation_places}
use Rattle.gql_fields.specs.Terms.{Terms}
use Rattle.gql_fields.specs.declared.breach.Breach.{Breach}
use Rattle.gql_fields.specs.declared.built_in_arguments.BuiltIn.{BuiltIn}
use Rattle.gql_rules.specs.Reaching.{ReachesFrom}
use Rattle.gql_rules.specs.VariableUses.{uses_told, uses_told_at}

-- the known fragments that are spread at some places
abbrev pub spread_at : List (List ℕ) → Place → List ℕ
spread_at names (OnSpread pos name) = option_to_list (place_of name names)
spread_at names _ = []

abbrev pub spreads_at : List (List ℕ) → List Place → List ℕ
spreads_at names places = flat_map (spread_at names) places

-- what is told of the places that stand in a list at this place
abbrev pub uses_told_in : BuiltIn → Terms → List (Positioned VariableDefinition)
    → List (List Place) → ℕ → List Breach
uses_told_in built terms definitions lists at =
    uses_told built terms definitions (slice_index_or lists at [])

module _ (terms : Terms) (fragments : Fragments) where
  -- for each fragment, which fragments are spread at its places
  abbrev pub fragment_spreads : Positioned FragmentDefinition → List ℕ
  fragment_spreads fragment = spreads_at (names_of fragments) (fragment_places terms fragment)

  abbrev pub place_graph : List (List ℕ)
  place_graph = map fragment_spreads (values_of fragments)

  -- which of them are spread at the places of an operation
  abbrev pub operation_spreads : Positioned OperationDefinition → List ℕ
  operation_spreads operation =
      spreads_at (names_of fragments) (operation_places terms operation)

  -- an operation reaches its own places, and those of the fragments that are spread there or at
  -- places that it reaches
  pub data IsReached (operation : Positioned OperationDefinition) : Place → Type 0 where
    own : (place : Place) → Contains (operation_places terms operation) place
        → IsReached operation place
    spread : (at : ℕ) (fragment : Positioned FragmentDefinition) (place : Place)
        → ReachesFrom place_graph (operation_spreads operation) at
        → slice_get (values_of fragments) at ≡ Some fragment
        → Contains (fragment_places terms fragment) place → IsReached operation place

  -- this is told of a variable at a place that the operation reaches
  pub record WrongUseOf (operation : Positioned OperationDefinition) (found : Breach) : Type 0
    where
      pub place : Place
      pub reached : IsReached operation place
      pub told : Contains (uses_told_at built_in terms operation.node.variable_definitions place)
          found

  -- this is told of a variable at a place that some of these operations reaches
  pub record WrongUseIn (operations : List (Positioned OperationDefinition)) (found : Breach)
      : Type 0 where
    pub operation : Positioned OperationDefinition
    pub stands : Contains operations operation
    pub wrong : WrongUseOf operation found

-- this is told of a variable at a place that an operation of the document reaches
abbrev pub IsWrongUse : Terms → ExecutableDocument → Breach → Type 0
IsWrongUse terms document found =
    WrongUseIn terms document.fragments (operations_in document.operations) found
