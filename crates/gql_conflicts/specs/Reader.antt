-- What the sets of a document are read by.
use Rattle.std.specs.Prelude.{ℕ, Bool, true, false, List}
use Rattle.gql_doc.specs.declared.document.Field.{Field}
use Rattle.gql_doc.specs.declared.document.Positioned.{Positioned}
use Rattle.gql_doc.specs.declared.document.Selection.{Selection}
use Rattle.gql_select.specs.Collected.{Setting, collect}
use Rattle.gql_select.specs.Once.{collect_once}
use Rattle.gql_conflicts.specs.Rooted.{rooted_of, setting_of}
use Rattle.gql_conflicts.specs.declared.reader.Reader.{Reader}

-- the setting of a reader
abbrev pub setting_by : Reader → Setting
setting_by reader =
    setting_of (rooted_of reader.rooted.now) reader.fragments.now reader.levels

-- an object's fields in selections, where each fragment is entered once, or as often as it is
-- spread
abbrev pub fields_by : Bool → Setting → List ℕ → List (Positioned Selection)
    → List (Positioned Field)
fields_by true setting object selections = collect_once setting object selections
fields_by false setting object selections = collect setting object selections
