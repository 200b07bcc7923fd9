-- A whole mutation, computed from a document to its response and its last world. The world is one number.
use Rattle.std.proofs.Common.{rules, ◌≡◌, ℕ, pos, true, false, ◌+◌, ◌==◌, List, [], ◌∷◌, Some, None, unwrap_or, ap, ◌∙◌}
use Rattle.std.specs.Prelude.{codes, if◌then◌else◌, option_and_then}
use Rattle.gql_base.specs.Kinds.{unsigned_number_of}
use Rattle.gql_base.specs.Pairs.{under, values_of}
use Rattle.gql_base.specs.declared.type_ref.TypeRef.{TypeRef, the_lemmas as type_lemmas}
use Rattle.gql_base.specs.declared.type_ref.TypeRef.TheVariants as ref
use Rattle.gql_base.specs.declared.value.Value.{the_lemmas as value_lemmas}
use Rattle.gql_base.specs.declared.value.Value.TheVariants as value
use Rattle.gql_doc.specs.declared.document.DocValue.{the_lemmas as doc_lemmas}
use Rattle.gql_doc.specs.declared.document.DocValue.TheVariants as doc
use Rattle.gql_doc.specs.declared.document.Field.{Field, out-Field, roll-Field}
use Rattle.gql_doc.specs.declared.document.InlineFragment.{out-InlineFragment, roll-InlineFragment}
use Rattle.gql_doc.specs.declared.document.Positioned.{Positioned}
use Rattle.gql_doc.specs.declared.document.Selection.{out-Selection, Selection}
use Rattle.gql_doc.specs.declared.document.Selection.TheBlock.{shown-the_row-SelectionSet-items-2-0}
use denote.Hole.Carrier.{out, roll, shown, hidden}
use Rattle.gql_meaning.specs.Counted.{answers_asked, count_as, total}
use Rattle.gql_collect.specs.DeclaredFields.{declared_reading}
use Rattle.gql_collect.specs.Execution.{Execution, setting_in}
use Rattle.gql_meaning.specs.Responses.{Asked, Members, placed as place_of, response_merged, world_after, world_left, Written}
use Rattle.gql_meaning.specs.Served.{Served}
use Rattle.gql_request.specs.declared.response.Response.{Response}
use Rattle.gql_place.specs.declared.place.Place.{Place}
use Rattle.gql_place.specs.declared.place.Tree.{the_lemmas as tree_lemmas}
use Rattle.gql_place.specs.declared.shape.Shape.{the_lemmas as shape_lemmas}
use Rattle.gql_resolve.specs.Call.{Call}
use Rattle.gql_resolve.specs.declared.answer.Answer.{Answer}
use Rattle.gql_resolve.specs.declared.field_value.FieldValue.{FieldValue, the_lemmas as given_lemmas}
use Rattle.gql_resolve.specs.declared.field_value.FieldValue.TheVariants as kind
use Rattle.gql_schema.specs.TableReading.{TypeTable}
use Rattle.gql_schema.specs.declared.scalar_rule.ScalarRule.TheVariants as rules_of
use Rattle.gql_schema.specs.declared.schema_type.SchemaType.TheVariants as types
use Rattle.gql_select.specs.Grouped.{Mutating, serial_grouped, world_behind}
use Rattle.gql_select.specs.Kept.{kept}
use Rattle.gql_select.specs.Reading.{merged}
use Rattle.gql_meaning.proofs.Written.{answered_by, argument, at, given_field, gives_number, keeps_field, leaf, object_of, over_table, placed, response, Selections, set}

abbrev int_type : TypeRef
int_type = ref.Named (codes "Int")

-- `Mutation { bump(by: Int): Int, cell: Int }`
abbrev cells_table : TypeTable
cells_table =
    (codes "Int", types.Scalar (record { name = codes "Int"; rule = rules_of.Int }))
    ∷ object_of (codes "Mutation") []
    ((codes "bump", record { name = codes "bump"; ty = int_type; resolver = 1; arguments = (codes "by", record { name = codes "by"; ty = int_type; default = None }) ∷ [] })
    ∷ answered_by 2 (codes "cell") int_type ∷ [])
    ∷ []

abbrev cells : Execution
cells = over_table cells_table []

-- by how much the cell is raised
abbrev by : Call ℕ → ℕ
by call = unwrap_or (option_and_then unsigned_number_of (under (codes "by") call.arguments)) 1

-- the cell after a call: `bump` raises it
abbrev effect : Call ℕ → ℕ → ℕ
effect call cell = if call.resolver == 1 then cell + by call else cell

-- `bump` answers the raised cell, and `cell` the cell
abbrev answer : Call ℕ → ℕ → Answer ℕ
answer call cell = gives_number (pos (effect call cell))

-- mutation { bump(by:1) x:bump(by:2) bump(by:1) cell }
abbrev bumps : Selections
bumps =
    given_field 12 None (codes "bump") (argument (codes "by") (doc.Number (pos 1)) ∷ []) (set 12 [])
    ∷ given_field 23 (Some (placed 23 (codes "x"))) (codes "bump") (argument (codes "by") (doc.Number (pos 2)) ∷ []) (set 23 [])
    ∷ given_field 36 None (codes "bump") (argument (codes "by") (doc.Number (pos 1)) ∷ []) (set 36 []) ∷ leaf 47 (codes "cell") ∷ []

abbrev bumping : Asked ℕ
bumping = record { object = codes "Mutation"; parent = kind.Own 0; selections = bumps }

-- the mutation as it is written, and what serves it: the cell is 0 before it
abbrev written : Written ℕ
written = record { execution = cells; mutates = true; pos = at 1; asked = bumping }

abbrev served : Served ℕ ℕ
served = record { answer = answer; effect = effect; world = 0 }

kept_bumps : kept cells.known bumps ≡ bumps
kept_bumps = search (rules, keeps_field) depth 12

-- how the mutation is answered, without looking for `@skip` and `@include`
abbrev bumping_cells : Mutating (List ℕ) (FieldValue ℕ) (Positioned Field) (Positioned Selection) Place ℕ
bumping_cells = record {
  reading = declared_reading cells (setting_in cells);
  effect = world_after cells effect bumping;
  root = λ cell. place_of cells true (λ call. answer call cell);
  place = λ cell. place_of cells false (λ call. answer call cell);
}

-- the members of what is left of the selections, so read; 3 levels of sets stand under the root's
abbrev members : Selections → Members
members left = serial_grouped bumping_cells 3 (codes "Mutation") (kind.Own 0) left 0

abbrev bumped : Response
bumped = record {
  result = value.Object ((codes "bump", value.Number (pos 1)) ∷ (codes "x", value.Number (pos 3)) ∷ (codes "cell", value.Number (pos 3)) ∷ []);
  extensions = [];
  errors = [];
  headers = [];
}

-- the doubled key is answered once, and each key sees the world after those before it
doubled_roots : response_merged served written ≡ bumped
unfolding out-Selection out-Field out-InlineFragment roll-Field roll-InlineFragment out roll shown-the_row-SelectionSet-items-2-0 shown hidden
doubled_roots = ap (λ left. response (members left)) kept_bumps
    ∙ search (rules, doc_lemmas, type_lemmas, shape_lemmas, given_lemmas, value_lemmas, tree_lemmas)

last_cell : world_left served written ≡ 3
unfolding out-Selection out-Field out-InlineFragment roll-Field roll-InlineFragment out roll shown-the_row-SelectionSet-items-2-0 shown hidden
last_cell =
    ap
    (λ left. world_behind (world_after cells effect bumping) 0
    (merged (declared_reading cells (setting_in cells)) ((declared_reading cells (setting_in cells)).fields (codes "Mutation") left))) kept_bumps
    ∙ search (rules, doc_lemmas, value_lemmas)

-- the same, with numbers in the stead of places
abbrev counting_cells : Mutating (List ℕ) (FieldValue ℕ) (Positioned Field) (Positioned Selection) ℕ ℕ
counting_cells = record {
  reading = declared_reading cells (setting_in cells);
  effect = world_after cells effect bumping;
  root = λ cell. count_as cells (λ call. answer call cell) true;
  place = λ cell. count_as cells (λ call. answer call cell) false;
}

-- three answers are asked: those of `bump`, of `x` and of `cell`
bumps_count : answers_asked served written ≡ 3
unfolding out-Selection out-Field out-InlineFragment roll-Field roll-InlineFragment out roll shown-the_row-SelectionSet-items-2-0 shown hidden
bumps_count =
    ap (λ left. total (values_of (serial_grouped counting_cells 3 (codes "Mutation") (kind.Own 0) left 0))) kept_bumps
    ∙ search (rules, doc_lemmas, type_lemmas, shape_lemmas, given_lemmas, value_lemmas)
