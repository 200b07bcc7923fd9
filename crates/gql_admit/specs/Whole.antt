-- Sets that `@skip` and `@include` leave as they are, whatever the variables stand for.
use Rattle.std.specs.Prelude.{◌≡◌, ℕ, List, Some}
use Rattle.gql_base.specs.declared.value.Value.{Value}
use Rattle.gql_doc.specs.declared.document.Positioned.{Positioned}
use Rattle.gql_doc.specs.declared.document.Selection.{Selection}
use Rattle.gql_doc.specs.declared.document.SelectionSet.{SelectionSet}
use Rattle.gql_select.specs.Kept.{kept, kept_selection, kept_set}

-- a set
abbrev pub IsSetWhole : SelectionSet → Type 0
IsSetWhole set = (known : List ℕ → Value) → kept_set known set ≡ set

-- some selections
abbrev pub AreWhole : List (Positioned Selection) → Type 0
AreWhole selections = (known : List ℕ → Value) → kept known selections ≡ selections

-- a selection
abbrev pub IsWhole : Selection → Type 0
IsWhole selection = (known : List ℕ → Value) → kept_selection known selection ≡ Some selection
