-- The sets of a document's fields, by numbers.
use Rattle.std.specs.Prelude.{◌≡◌, ℕ, List, [], ◌∷◌, Option, Some, None, slice_get}
use Rattle.std.specs.List.{flat_map}
use Rattle.gql_doc.specs.declared.document.Field.{Field}
use Rattle.gql_doc.specs.declared.document.FragmentSpread.{FragmentSpread}
use Rattle.gql_doc.specs.declared.document.Positioned.{Positioned}
use Rattle.gql_doc.specs.declared.document.Selection.{Selection, out-Selection}
use Rattle.gql_doc.specs.declared.document.Selection.TheOpen.{Selection-F}
use Rattle.gql_select.specs.Collected.{Setting, collect, own_selections}
use Rattle.gql_conflicts.specs.declared.known.Known.{Known}

-- selections in which each object has the same fields, whatever they are read by
abbrev pub HaveSame : List (Positioned Selection) → List (Positioned Selection) → Type 0
HaveSame one other =
    (setting : Setting) (object : List ℕ)
    → collect setting object one ≡ collect setting object other

-- the selections of a known set
abbrev pub set_of : Option Known → List (Positioned Selection)
set_of None = []
set_of (Some known) = own_selections known.field.now

-- the selections of the set of a number, or of some numbers, one set behind another
abbrev pub set_at : List Known → ℕ → List (Positioned Selection)
set_at known number = set_of (slice_get known number)

abbrev pub sets_at : List Known → List ℕ → List (Positioned Selection)
sets_at known numbers = flat_map (set_at known) numbers

-- the set of a number has the fields that the set of a field has
abbrev pub HasNumber : List Known → Positioned Field → ℕ → Type 0
HasNumber known field number = HaveSame (set_at known number) (own_selections field)

-- the set of a field is a spread alone
pub record IsSole (spread : Positioned FragmentSpread) (field : Positioned Field) : Type 0 where
  pub selection : Positioned Selection
  pub alone : own_selections field ≡ selection ∷ []
  pub is : out-Selection selection.node ≡ Selection-F.FragmentSpread spread
