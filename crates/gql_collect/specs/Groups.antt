-- Occurrences of fields in groups, each of one key.
use Rattle.std.specs.Prelude.{ℕ, List, [], ◌∷◌, Option, Some, None, map}
use Rattle.std.specs.List.{zip}
use Rattle.gql_base.specs.Pairs.{names_of}
use Rattle.gql_doc.specs.Depth.{selections_of}
use Rattle.gql_doc.specs.declared.document.Field.{Field, out-Field}
use Rattle.gql_doc.specs.declared.document.Positioned.{Positioned}
use Rattle.gql_doc.specs.declared.document.Selection.{Selection}
use Rattle.gql_select.specs.Documents.{both, with_others}
use Rattle.gql_select.specs.Behind.{all_behind}
use Rattle.gql_collect.specs.declared.group.Group.{Group}

-- the one field that stands for a group
abbrev pub united : Group → Positioned Field
united group = with_others group.first.now (all_behind group.more.items)

-- the selections of a field
abbrev pub own_items : Field → List (Positioned Selection)
own_items field = selections_of (out-Field field).selection_set

-- the field that stands for a first occurrence and others, where there are others
abbrev pub item_among : Positioned Field → List (Positioned Field) → Option Field
item_among field [] = None
item_among field (other ∷ others) = Some (with_others (both field other) others).node

-- the field that stands for a group of several occurrences
abbrev pub item_of : Group → Option Field
item_of group = item_among group.first.now (all_behind group.more.items)

-- the fields of groups under their keys
abbrev pub under_names : List (List ℕ) → List Group → List (List ℕ × Positioned Field)
under_names names groups = zip names (map united groups)

-- the same, where each key stands once
abbrev pub under_keys : List (List ℕ × Unit {0}) → List Group → List (List ℕ × Positioned Field)
under_keys keys groups = under_names (names_of keys) groups
