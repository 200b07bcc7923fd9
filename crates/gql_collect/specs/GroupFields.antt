-- The fields of an object as an execution collects them, and how their occurrences are put into
-- groups: one group for each key, or each occurrence alone (GraphQL, October 2021, section 6.3.2).
use Rattle.std.specs.Prelude.{ℕ, Bool, true, false, List}
use Rattle.gql_doc.specs.declared.document.Field.{Field}
use Rattle.gql_doc.specs.declared.document.Positioned.{Positioned}
use Rattle.gql_doc.specs.declared.document.Selection.{Selection}
use Rattle.gql_select.specs.Collected.{collect, Setting}
use Rattle.gql_select.specs.Documents.{reading}
use Rattle.gql_select.specs.Fewer.{reading_over}
use Rattle.gql_select.specs.Once.{collect_once}
use Rattle.gql_select.specs.Reading.{keyed, merged, Reading}
use Rattle.gql_collect.specs.Basis.{execution_of, setting_by}
use Rattle.gql_collect.specs.DeclaredFields.{declared_among}
use Rattle.gql_collect.specs.declared.basis.Basis.{Basis}
use Rattle.gql_collect.specs.declared.basis.Grouping.{Grouping}
use Rattle.gql_collect.specs.declared.basis.Grouping.TheVariants as grouping

-- the fields of the objects of a name in selections: each occurrence apart as often as it stands,
-- and merged those of each fragment at its first spread
abbrev pub collect_by : Grouping → Setting → List ℕ → List (Positioned Selection)
    → List (Positioned Field)
collect_by grouping.ByKey setting object selections = collect_once setting object selections
collect_by grouping.ByKeyWhole setting object selections = collect_once setting object selections
collect_by grouping.Each setting object selections = collect setting object selections

-- those of them that the object has, as an execution reads them
abbrev pub collected : Grouping → Basis → List ℕ → List (Positioned Selection)
    → List (Positioned Field)
collected by basis object selections =
    declared_among (execution_of basis) object (collect_by by (setting_by basis) object selections)

-- how an execution reads sets, where occurrences are grouped so
abbrev pub reading_by : Grouping → Basis
    → Reading (List ℕ) (Positioned Field) (Positioned Selection)
reading_by by basis =
    reading_over (reading (setting_by basis))
    (λ object selections. collected by basis object selections)

-- the fields that stand for groups of occurrences, under their keys
abbrev pub groups_by : Grouping → Setting → List (Positioned Field)
    → List (List ℕ × Positioned Field)
groups_by grouping.ByKey setting fields = merged (reading setting) fields
groups_by grouping.ByKeyWhole setting fields = merged (reading setting) fields
groups_by grouping.Each setting fields = keyed (reading setting) fields

-- whether places are kept whole, and not their data alone where they tell nothing else
abbrev pub keeps_whole : Grouping → Bool
keeps_whole grouping.ByKey = false
keeps_whole grouping.ByKeyWhole = true
keeps_whole grouping.Each = true

-- the root keys of a mutation are merged in any case (section 6.2.2)
abbrev pub grouping_at : (is_root : Bool) → Grouping → Grouping
grouping_at true by = grouping.ByKey
grouping_at false by = by

-- the fields of an object in selections, as root keys of a mutation or as others
abbrev pub groups_in : (is_root : Bool) → Basis → List ℕ → List (Positioned Selection)
    → List (List ℕ × Positioned Field)
groups_in is_root basis object selections =
    groups_by (grouping_at is_root basis.grouping) (setting_by basis)
    (collected basis.grouping basis object selections)
