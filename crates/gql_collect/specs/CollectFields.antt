-- CollectFields over a table of types (GraphQL, October 2021, section 6.3.2).
use Rattle.std.specs.Prelude.{◌≡◌, ℕ, List, []}
use Rattle.gql_base.specs.Pairs.{under}
use Rattle.gql_doc.specs.declared.document.Field.{Field}
use Rattle.gql_doc.specs.declared.document.InlineFragment.{InlineFragment}
use Rattle.gql_doc.specs.declared.document.Positioned.{Positioned}
use Rattle.gql_doc.specs.declared.document.Selection.{Selection}
use Rattle.gql_doc.specs.declared.document.Selection.TheOpen.{Selection-F}
use Rattle.gql_doc.specs.declared.document.SelectionSet.{SelectionSet}
use Rattle.gql_schema.specs.Table.{types_of}
use Rattle.gql_schema.specs.TableReading.{has_type}
use Rattle.gql_select.specs.Collected.{Setting, collect, collect_within, fields_of, fields_of_inline}
use Rattle.gql_select.specs.Collected.{fields_of_spread}
use Rattle.gql_collect.specs.declared.collect.Collector.{Collector}

-- what a collector reads sets by; which objects are possible under a field is nothing to it
abbrev pub setting_by : Collector → Setting
setting_by collector = record {
  fragments = collector.fragments.now;
  levels = collector.levels;
  covers = has_type (types_of collector.types.now);
  beneath = λ object name. [];
}

-- a setting reads sets by the fragments, the levels and the types of a collector
pub record ReadsAlike (collector : Collector) (setting : Setting) : Type 0 where
  pub fragments_are : setting.fragments ≡ collector.fragments.now
  pub levels_are : setting.levels ≡ collector.levels
  pub covers_are : setting.covers ≡ has_type (types_of collector.types.now)

-- an object's fields in whole selections
abbrev pub collected : Collector → List ℕ → List (Positioned Selection) → List (Positioned Field)
collected collector object selections = collect (setting_by collector) object selections

module _ (collector : Collector) (left : ℕ) (object : List ℕ) where
  -- an object's fields in selections, as many levels of fragments deep as are left
  abbrev pub fields_within : List (Positioned Selection) → List (Positioned Field)
  fields_within selections = collect_within (setting_by collector) left object selections

  -- the fields that a selection stands for
  abbrev pub fields_here : Selection-F Selection Field InlineFragment SelectionSet
      → List (Positioned Field)
  fields_here selection = fields_of (setting_by collector) object fields_within selection

  -- those of the fragment of a name
  abbrev pub fields_of_name : List ℕ → List (Positioned Field)
  fields_of_name name = fields_of_spread (setting_by collector) object fields_within
      (under name collector.fragments.now)

  -- those of a fragment in place
  abbrev pub fields_of_inline_here : InlineFragment → List (Positioned Field)
  fields_of_inline_here fragment = fields_of_inline (setting_by collector) object fields_within
      fragment
