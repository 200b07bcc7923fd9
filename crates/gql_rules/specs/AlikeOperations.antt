-- Operations that ask the same of the places that they reach: each variable is defined alike in
-- both, or in none.
use Rattle.std.specs.Prelude.{◌≡◌, ℕ, ◌<◌, true, List, Option, None, Some, length, slice_get}
use Rattle.std.specs.List.{Contains}
use Rattle.gql_base.specs.Pairs.{values_of}
use Rattle.gql_doc.specs.Depth.{Fragments}
use Rattle.gql_doc.specs.declared.document.FragmentDefinition.{FragmentDefinition}
use Rattle.gql_doc.specs.declared.document.Positioned.{Positioned}
use Rattle.gql_doc.specs.declared.document.VariableDefinition.{VariableDefinition}
use Rattle.gql_fields.specs.BuiltIn.{built_in}
use Rattle.gql_fields.specs.Places.{Place, fragment_places}
use Rattle.gql_fields.specs.Terms.{Terms}
use Rattle.gql_fields.specs.UsePlaceViews.{operation_behind, shown}
use Rattle.gql_fields.specs.declared.breach.Breach.{Breach}
use Rattle.gql_fields.specs.declared.built_in_arguments.BuiltIn.{BuiltIn}
use Rattle.gql_fields.specs.declared.listed.OperationPlaces.{OperationPlaces}
use Rattle.gql_request.specs.Defined.{first_definition}
use Rattle.gql_rules.specs.ReachedUses.{place_graph, spreads_at}
use Rattle.gql_rules.specs.Reaching.{ReachesFrom, is_in, led_to}
use Rattle.gql_rules.specs.VariableUses.{has_value_default, uses_told, uses_told_at}

-- two definitions of one type, of which both or none has a default other than null
pub record IsAlike (one other : Positioned VariableDefinition) : Type 0 where
  pub ty : one.node.var_type.node ≡ other.node.var_type.node
  pub default : has_value_default one.node.default ≡ has_value_default other.node.default

-- what two operations have under one name
abbrev pub FoundAlike : Option (Positioned VariableDefinition)
    → Option (Positioned VariableDefinition) → Type 0
FoundAlike None None = Unit {0}
FoundAlike None (Some other) = ⊥
FoundAlike (Some one) None = ⊥
FoundAlike (Some one) (Some other) = IsAlike one other

-- two lists of definitions that define each variable alike
pub record AskAlike (one other : List (Positioned VariableDefinition)) : Type 0 where
  pub alike : (name : List ℕ)
      → FoundAlike (first_definition name one) (first_definition name other)

abbrev pub definitions_of : OperationPlaces → List (Positioned VariableDefinition)
definitions_of listed = (operation_behind listed).node.variable_definitions

-- the fragments that are spread at the places of an operation
abbrev pub spread_from : List (List ℕ) → OperationPlaces → List ℕ
spread_from names listed = spreads_at names (shown listed.places)

-- the operation at a place, which asks the same as another
pub record IsHead (operations : List OperationPlaces) (place : ℕ) (one : OperationPlaces) : Type 0
  where
    pub head : OperationPlaces
    pub stands : slice_get operations place ≡ Some head
    pub asks : AskAlike (definitions_of head) (definitions_of one)

-- a fragment that is spread in an operation which asks the same as that at a place
pub record IsGathered (names : List (List ℕ)) (operations : List OperationPlaces)
    (place fragment : ℕ) : Type 0 where
  pub one : OperationPlaces
  pub listed : Contains operations one
  pub spread : is_in fragment (spread_from names one) ≡ true
  pub head : IsHead operations place one

-- a fragment that is spread in an operation, and is listed for one that asks the same
pub record HasHead (operations : List OperationPlaces) (starts : List (List ℕ))
    (one : OperationPlaces) (fragment : ℕ) : Type 0 where
  pub place : ℕ
  pub head : IsHead operations place one
  pub listed : is_in fragment (led_to starts place) ≡ true

-- beside each operation stand fragments that are spread in operations which ask the same; those of
-- each of the first operations stand beside some
pub record AreGathered (names : List (List ℕ)) (operations : List OperationPlaces) (bound : ℕ)
    (starts : List (List ℕ)) : Type 0 where
  pub long : length starts ≡ length operations
  pub sound : (place fragment : ℕ) → is_in fragment (led_to starts place) ≡ true
      → IsGathered names operations place fragment
  pub all : (place fragment : ℕ) (one : OperationPlaces) → place < bound
      → slice_get operations place ≡ Some one → is_in fragment (spread_from names one) ≡ true
      → HasHead operations starts one fragment

-- nothing beside each of so many
pub record AreEmpty (bound : ℕ) (starts : List (List ℕ)) : Type 0 where
  pub long : length starts ≡ bound
  pub none : (place fragment : ℕ) → is_in fragment (led_to starts place) ≡ true → ⊥

-- what is told of an operation that is listed, at its own places
abbrev pub told_listed : BuiltIn → Terms → OperationPlaces → List Breach
told_listed built terms listed = uses_told built terms (definitions_of listed) (shown listed.places)

-- this is told of a variable in a fragment that is reached from some
pub record WrongSpread (terms : Terms) (fragments : Fragments)
    (definitions : List (Positioned VariableDefinition)) (starts : List ℕ) (found : Breach) : Type 0
  where
    pub at : ℕ
    pub fragment : Positioned FragmentDefinition
    pub place : Place
    pub reaches : ReachesFrom (place_graph terms fragments) starts at
    pub stands : slice_get (values_of fragments) at ≡ Some fragment
    pub there : Contains (fragment_places terms fragment) place
    pub told : Contains (uses_told_at built_in terms definitions place) found

-- and this of one that is reached from the fragments beside one of the first operations
pub record WrongBefore (terms : Terms) (fragments : Fragments) (operations : List OperationPlaces)
    (starts : List (List ℕ)) (bound : ℕ) (found : Breach) : Type 0 where
  pub place : ℕ
  pub before : place < bound
  pub head : OperationPlaces
  pub listed : slice_get operations place ≡ Some head
  pub wrong : WrongSpread terms fragments (definitions_of head) (led_to starts place) found
