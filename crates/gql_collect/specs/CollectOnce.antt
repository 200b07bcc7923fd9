-- CollectFields over a table of types, where each fragment is entered once (GraphQL, October 2021,
-- section 6.3.2).
use Rattle.std.specs.Prelude.{◌≡◌, ◌-◌, ◌^◌, ℕ, List, [], Some}
use Rattle.std.specs.List.{flat_map}
use Rattle.gql_base.specs.Names.{place_of}
use Rattle.gql_base.specs.Pairs.{names_of, values_of}
use Rattle.gql_doc.specs.Depth.{Fragments}
use Rattle.gql_doc.specs.declared.document.Field.{Field}
use Rattle.gql_doc.specs.declared.document.Positioned.{Positioned}
use Rattle.gql_doc.specs.declared.document.Selection.{Selection}
use Rattle.gql_doc.specs.declared.document.SelectionSet.{SelectionSet, out-SelectionSet}
use Rattle.gql_schema.specs.Table.{types_of}
use Rattle.gql_schema.specs.TableReading.{has_type}
use Rattle.gql_schema.specs.declared.types.Types.{Types}
use Rattle.gql_select.specs.Behind.{all_behind}
use Rattle.gql_select.specs.Collected.{Setting}
use Rattle.gql_select.specs.Once.{collect_once, is_entered, once_within, Walk}
use Rattle.gql_select.specs.Standing.{is_marked, unentered}
use Rattle.gql_collect.specs.CollectFields.{setting_by}
use Rattle.gql_collect.specs.declared.collect.Collector.{Collector}
use Rattle.gql_collect.specs.declared.collect_once.Found.{Found}

-- what sets are read by where no level of fragments is too deep
abbrev pub whole_setting : Types → Fragments → Setting
whole_setting types fragments = record {
  fragments = fragments;
  levels = 2 ^ 64 - 1;
  covers = has_type (types_of types);
  beneath = λ object name. [];
}

-- an object's fields in whole selections
abbrev pub once_collected : Collector → List ℕ → List (Positioned Selection)
    → List (Positioned Field)
once_collected collector object selections = collect_once (setting_by collector) object selections

-- a walk through selections, as many levels of fragments deep as are left
abbrev pub walked : Collector → ℕ → List ℕ → Walk → List (Positioned Selection) → Walk
walked collector left object walk selections =
    once_within (setting_by collector) left object walk selections

-- the selections of sets, one after another
abbrev pub selections_of_all : List SelectionSet → List (Positioned Selection)
selections_of_all sets = flat_map (λ set. (out-SelectionSet set).items) sets

-- what was found is what a walk comes to: the marks say which fragments it entered, and the fields
-- are its
pub record IsAt (fragments : Fragments) (walk : Walk) (found : Found) : Type 0 where
  pub marked : (name : List ℕ) (place : ℕ) → place_of name (names_of fragments) ≡ Some place
      → is_marked found.entered.items place ≡ is_entered name walk
  pub fields_are : all_behind found.fields.items ≡ walk.fields

-- what may still be looked at in the fragments
abbrev pub left_in : Fragments → Found → ℕ
left_in fragments found = unentered (values_of fragments) found.entered.items
