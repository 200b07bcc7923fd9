-- How the fields under a field are gone through: sets that are open, the innermost last.
use Rattle.std.specs.Prelude.{◌≡◌, ℕ, zero, suc, ◌+◌, ◌<◌, List, [], ◌∷◌, ◌++◌, length, Option, Some}
use Rattle.std.specs.Prelude.{None, Result, Ok, Err}
use Rattle.std.specs.List.{flat_map}
use Rattle.gql_base.specs.Pairs.{under}
use Rattle.gql_doc.specs.Depth.{Fragments, fragment_set, selections_of}
use Rattle.gql_doc.specs.declared.document.Field.{Field}
use Rattle.gql_doc.specs.declared.document.FragmentDefinition.{FragmentDefinition}
use Rattle.gql_doc.specs.declared.document.InlineFragment.{InlineFragment, out-InlineFragment}
use Rattle.gql_doc.specs.declared.document.Positioned.{Positioned}
use Rattle.gql_doc.specs.declared.document.Selection.{Selection, out-Selection}
use Rattle.gql_doc.specs.declared.document.Selection.TheOpen.{Selection-F}
use Rattle.gql_doc.specs.declared.document.SelectionSet.{SelectionSet}
use Rattle.gql_request.specs.declared.query_env.QueryEnv.{QueryEnv}
use Rattle.gql_resolve.specs.Beneath.{Seen, fields_within}
use Rattle.gql_resolve.specs.SelectionField.{seen_of}
use Rattle.gql_resolve.specs.declared.open_set.OpenSet.{OpenSet}
use Rattle.gql_resolve.specs.declared.selection_field.SelectionField.{SelectionField}
use Rattle.gql_resolve.specs.declared.stepping.Step.{Step}
use Rattle.gql_resolve.specs.declared.stepping.Step.TheVariants as step

-- the fields that are left of an open set
abbrev pub within : OpenSet → List Seen
within opened = fields_within opened.env.now opened.left opened.selections.now

-- what is left of all open sets, the innermost first
abbrev pub all_open : {X : Type 0} → (OpenSet → List X) → List OpenSet → List X
all_open f [] = []
all_open f (opened ∷ inner) = all_open f inner ++ f opened

module _ (fragments : Fragments) (deeper : List (Positioned Selection) → List (Unit {0})) where
  abbrev pub steps_of_spread : Option (Positioned FragmentDefinition) → List (Unit {0})
  steps_of_spread None = []
  steps_of_spread (Some fragment) = deeper (selections_of (fragment_set fragment))

  abbrev pub steps_of : Selection-F Selection Field InlineFragment SelectionSet → List (Unit {0})
  steps_of (Selection-F.Field field) = []
  steps_of (Selection-F.FragmentSpread spread) =
      steps_of_spread (under spread.node.fragment_name.node fragments)
  steps_of (Selection-F.InlineFragment fragment) =
      deeper (selections_of (out-InlineFragment fragment.node).selection_set)

-- a step for each selection that is passed, and for each set that is left
abbrev pub steps_within : Fragments → ℕ → List (Positioned Selection) → List (Unit {0})
steps_within fragments zero selections = tt ∷ []
steps_within fragments (suc left) selections =
    flat_map (λ selection. tt
    ∷ steps_of fragments (steps_within fragments left) (out-Selection selection.node)) selections
    ++ tt ∷ []

abbrev pub steps_left : OpenSet → List (Unit {0})
steps_left opened = steps_within opened.env.now.fragments opened.left opened.selections.now

-- that a set is to be gone through first, and then these selections
pub record Enters (env : QueryEnv) (left : ℕ) (selections : List (Positioned Selection))
    (inner rest : OpenSet) : Type 0 where
  pub fields : fields_within env left selections ≡ within inner ++ within rest
  pub steps : length (steps_left inner) + length (steps_left rest)
      < length (steps_within env.fragments left selections)

-- that a selection stands for no field
pub record Passes (env : QueryEnv) (left : ℕ) (selections : List (Positioned Selection))
    (rest : OpenSet) : Type 0 where
  pub fields : fields_within env left selections ≡ within rest
  pub steps : length (steps_left rest) < length (steps_within env.fragments left selections)

-- what one look at selections gives
abbrev pub IsStep : QueryEnv → ℕ → List (Positioned Selection) → Step → Type 0
IsStep env left selections step.Done = selections ≡ []
IsStep env left selections (step.Gives field rest) =
    fields_within env left selections ≡ seen_of field ∷ within rest
IsStep env left selections (step.Enters inner rest) = Enters env left selections inner rest
IsStep env left selections (step.Passes rest) = Passes env left selections rest

-- that the first of the fields was taken off, if any was left
abbrev pub TakesFirst : List Seen → Option SelectionField → List Seen → Type 0
TakesFirst old None new = (old ≡ []) × (new ≡ [])
TakesFirst old (Some field) new = old ≡ seen_of field ∷ new

-- that one look at open sets gave a field or brought the end nearer; where memory ran out, no
-- field was lost
abbrev pub Advances : {E : Type 0} → List OpenSet → Result (Option SelectionField) E
    → List OpenSet → Type 0
Advances old (Ok (Some field)) new = all_open within old ≡ seen_of field ∷ all_open within new
Advances old (Ok None) new =
    (all_open within new ≡ all_open within old)
    × (length (all_open steps_left new) < length (all_open steps_left old))
Advances old (Err want) new = all_open within new ≡ all_open within old
