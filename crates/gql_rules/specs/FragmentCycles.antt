-- Fragments that reach themselves by spreads (GraphQL, October 2021, section 5.5.2.2).
use Rattle.std.specs.Prelude.{◌≡◌, ℕ, List, Some, slice_get}
use Rattle.gql_doc.specs.Depth.{Fragments}
use Rattle.gql_doc.specs.declared.document.FragmentDefinition.{FragmentDefinition}
use Rattle.gql_doc.specs.declared.document.Positioned.{Positioned}
use Rattle.gql_fields.specs.Breach.{breach}
use Rattle.gql_fields.specs.declared.breach.Breach.{Breach}
use Rattle.gql_fields.specs.declared.breach.BreachKind.TheVariants as kinds
use Rattle.gql_rules.specs.BreachTexts.{circular_text}
use Rattle.gql_rules.specs.FragmentSpreads.{graph_of}
use Rattle.gql_rules.specs.Reaching.{Reaches}

-- the fragment at a place reaches itself, and this is told of it
pub record CircularAt (fragments : Fragments) (place : ℕ) (found : Breach) : Type 0 where
  pub name : List ℕ
  pub fragment : Positioned FragmentDefinition
  pub stands : slice_get fragments place ≡ Some (name, fragment)
  pub reaches : Reaches (graph_of fragments) place place
  pub told : found ≡ breach fragment.pos kinds.CircularFragment name (circular_text name)

-- this is told of some fragment that reaches itself
pub record IsCircular (fragments : Fragments) (found : Breach) : Type 0 where
  pub place : ℕ
  pub there : CircularAt fragments place found
