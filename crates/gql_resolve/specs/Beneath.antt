-- The fields of a field's set, in document order, through fragments in place and known spreads, as
-- often as they stand and whatever their conditions.
use Rattle.std.specs.Prelude.{◌≡◌, ℕ, true, List, [], map, filter, Some}
use Rattle.std.specs.List.{Contains}
use Rattle.std.specs.Str.{bytes_eq}
use Rattle.gql_base.specs.Pairs.{under}
use Rattle.gql_doc.specs.Depth.{Fragments, fragment_set, selections_of}
use Rattle.gql_doc.specs.declared.document.Field.{Field, out-Field}
use Rattle.gql_doc.specs.declared.document.FragmentDefinition.{FragmentDefinition}
use Rattle.gql_doc.specs.declared.document.FragmentSpread.{FragmentSpread}
use Rattle.gql_doc.specs.declared.document.InlineFragment.{InlineFragment, out-InlineFragment}
use Rattle.gql_doc.specs.declared.document.Positioned.{Positioned}
use Rattle.gql_doc.specs.declared.document.Selection.{Selection, out-Selection}
use Rattle.gql_doc.specs.declared.document.Selection.TheOpen.{Selection-F}
use Rattle.gql_request.specs.QueryEnv.{levels_of}
use Rattle.gql_request.specs.declared.query_env.QueryEnv.{QueryEnv}
use Rattle.gql_select.specs.Collected.{Setting, collect_within}

-- a field as it stands in a query
pub record Seen : Type 0 where
  pub field : Field
  pub env : QueryEnv

-- what the fields of sets are read by: every condition lets every object in
abbrev pub setting_of : QueryEnv → Setting
setting_of env =
    record {
      fragments = env.fragments;
      levels = levels_of env;
      covers = λ condition object. true;
      beneath = λ object name. [];
    }

-- a field of a query
abbrev pub in_query : QueryEnv → Positioned Field → Seen
in_query env field = record { field = field.node; env = env }

-- the fields in selections, as many levels of fragments deep as are left
abbrev pub fields_within : QueryEnv → ℕ → List (Positioned Selection) → List Seen
fields_within env left selections =
    map (in_query env) (collect_within (setting_of env) left [] selections)

-- the selections of a field's own set
abbrev pub selections_in : Field → List (Positioned Selection)
selections_in field = selections_of (out-Field field).selection_set

-- the fields of a field's set
abbrev pub fields_beneath : Seen → List Seen
fields_beneath seen = fields_within seen.env (levels_of seen.env) (selections_in seen.field)

abbrev pub name_of : Field → List ℕ
name_of field = (out-Field field).name.node

-- the fields of a name
abbrev pub named : List ℕ → List Seen → List Seen
named name fields = filter (λ seen. bytes_eq (name_of seen.field) name) fields

-- That a field of a name stands in selections: as one of them, or in the set of a fragment in place
-- or of one that is spread and known, whatever their conditions. No levels are counted.
module _ (fragments : Fragments) (name : List ℕ) where
  pub data Stands : List (Positioned Selection) → Type 0 where
    as_field : (selections : List (Positioned Selection)) (selection : Positioned Selection)
        (field : Positioned Field) → Contains selections selection
        → out-Selection selection.node ≡ Selection-F.Field field → name_of field.node ≡ name
        → Stands selections
    in_place : (selections : List (Positioned Selection)) (selection : Positioned Selection)
        (fragment : Positioned InlineFragment) → Contains selections selection
        → out-Selection selection.node ≡ Selection-F.InlineFragment fragment
        → Stands (selections_of (out-InlineFragment fragment.node).selection_set)
        → Stands selections
    by_spread : (selections : List (Positioned Selection)) (selection : Positioned Selection)
        (spread : Positioned FragmentSpread) (fragment : Positioned FragmentDefinition)
        → Contains selections selection
        → out-Selection selection.node ≡ Selection-F.FragmentSpread spread
        → under spread.node.fragment_name.node fragments ≡ Some fragment
        → Stands (selections_of (fragment_set fragment)) → Stands selections
