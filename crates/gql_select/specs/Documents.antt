-- How a document's sets are read: occurrences are fields at their places, and one field stands for
-- all of a key.
use Rattle.std.specs.Prelude.{ℕ, List, [], ◌∷◌, ◌++◌}
use Rattle.gql_doc.specs.Document.{key_of}
use Rattle.gql_doc.specs.declared.document.Field.{Field, out-Field, roll-Field}
use Rattle.gql_doc.specs.declared.document.Positioned.{Positioned}
use Rattle.gql_doc.specs.declared.document.Selection.{Selection}
use Rattle.gql_doc.specs.declared.document.SelectionSet.{roll-SelectionSet}
use Rattle.gql_select.specs.Alike.{alike, name_of}
use Rattle.gql_select.specs.Collected.{Setting, collect, own_selections}
use Rattle.gql_select.specs.Grouped.{Beneath, Placing}
use Rattle.gql_select.specs.Reading.{Reading}

-- a field with these selections for its own
abbrev pub with_selections : Field → List (Positioned Selection) → Field
with_selections field selections =
    roll-Field (record (out-Field field) {
      selection_set =
          record {
            pos = (out-Field field).selection_set.pos;
            node = roll-SelectionSet (record { items = selections });
          };
    })

-- the first of two occurrences, with the second's selections after its own
abbrev pub both : Positioned Field → Positioned Field → Positioned Field
both f g =
    record { pos = f.pos; node = with_selections f.node (own_selections f ++ own_selections g) }

-- an occurrence with the selections of others after its own
abbrev pub with_others : Positioned Field → List (Positioned Field) → Positioned Field
with_others field [] = field
with_others field (other ∷ others) = with_others (both field other) others

-- how the sets of a document are read
abbrev pub reading : Setting → Reading (List ℕ) (Positioned Field) (Positioned Selection)
reading setting = record {
  fields = collect setting;
  key = λ f. (key_of f.node).node;
  set = own_selections;
  both = both;
  alike = alike;
  objects = λ object f. setting.beneath object (name_of f);
}

-- how the fields of a document become places, by the place of each on an object
abbrev pub placing_by : {P Pl : Type 0} → Setting
    → (List ℕ → P → Positioned Field → Beneath (List ℕ) P Pl → Pl)
    → Placing (List ℕ) P (Positioned Field) (Positioned Selection) Pl
placing_by setting place = record { reading = reading setting; place = place }
