-- Whole queries, computed from a document to its response.
use Rattle.std.proofs.Common.{rules, ◌≡◌, ℕ, pos, List, [], ◌∷◌, true, Some, None, Ok, refl, ◌∙◌}
use Rattle.std.specs.Prelude.{codes}
use Rattle.gql_base.specs.declared.error.Error.{Error}
use Rattle.gql_base.specs.declared.path_segment.PathSegment.TheVariants.{Field, Index}
use Rattle.gql_base.specs.declared.type_ref.TypeRef.{TypeRef, the_lemmas as type_lemmas}
use Rattle.gql_base.specs.declared.type_ref.TypeRef.TheVariants as ref
use Rattle.gql_base.specs.declared.value.Value.{Value, the_lemmas as value_lemmas}
use Rattle.gql_base.specs.declared.value.Value.TheVariants as value
use Rattle.gql_doc.specs.declared.document.Field.{out-Field, roll-Field}
use Rattle.gql_doc.specs.declared.document.InlineFragment.{out-InlineFragment, roll-InlineFragment}
use Rattle.gql_doc.specs.declared.document.Selection.{out-Selection}
use Rattle.gql_doc.specs.declared.document.Selection.TheBlock.{shown-the_row-SelectionSet-items-2-0}
use denote.Hole.Carrier.{out, roll, shown, hidden}
use Rattle.gql_collect.specs.Execution.{Execution}
use Rattle.gql_meaning.specs.Completion.{no_value}
use Rattle.gql_place.specs.Faults.{located}
use Rattle.gql_place.specs.declared.place.Tree.{the_lemmas as tree_lemmas}
use Rattle.gql_place.specs.declared.shape.Shape.{the_lemmas as shape_lemmas}
use Rattle.gql_request.specs.declared.header_op.HeaderOp.{HeaderOp}
use Rattle.gql_request.specs.declared.response.Response.{Response}
use Rattle.gql_resolve.specs.declared.answer.Answer.{Answer}
use Rattle.gql_resolve.specs.declared.field_value.FieldValue.{the_lemmas as given_lemmas}
use Rattle.gql_resolve.specs.declared.field_value.FieldValue.TheVariants as kind
use Rattle.gql_schema.specs.TableReading.{TypeTable}
use Rattle.gql_schema.specs.declared.scalar_rule.ScalarRule.TheVariants as rules_of
use Rattle.gql_schema.specs.declared.schema_type.SchemaType.{SchemaType}
use Rattle.gql_schema.specs.declared.schema_type.SchemaType.TheVariants as types
use Rattle.gql_meaning.proofs.Written.{answered_by, apart_is, apart_response, at, count, count_is, fails, field, given_field, gives, gives_null, gives_number, keeps_field, leaf, merged_is, merged_response, object_of, over_table, placed, Selections, set}

abbrev int : List ℕ × SchemaType
int = (codes "Int", types.Scalar (record { name = codes "Int"; rule = rules_of.Int }))

abbrev int_type : TypeRef
int_type = ref.Named (codes "Int")

abbrev obj_type : TypeRef
obj_type = ref.Named (codes "Obj")

abbrev bad : Error
bad = record { message = codes "bad"; extensions = None }

abbrev number : ℕ → Value
number n = value.Number (pos n)

-- `{ o { x } o { y } }`, where `o` is null, `x` is 1 and `y` fails: the two occurrences are one object
abbrev doubled_table : TypeTable
doubled_table =
    int ∷ object_of (codes "Query") [] (answered_by 1 (codes "o") obj_type ∷ [])
    ∷ object_of (codes "Obj") [] (answered_by 2 (codes "x") int_type ∷ answered_by 3 (codes "y") int_type ∷ []) ∷ []

abbrev doubled_answers : List (Answer ℕ)
doubled_answers = gives_null ∷ gives_null ∷ gives_number (pos 1) ∷ fails bad ∷ []

abbrev doubled : Selections
doubled = field 3 (codes "o") (set 5 (leaf 7 (codes "x") ∷ [])) ∷ field 11 (codes "o") (set 13 (leaf 15 (codes "y") ∷ [])) ∷ []

abbrev doubled_due : Response
doubled_due = record {
  result = value.Object ((codes "o", value.Object ((codes "x", number 1) ∷ (codes "y", value.Null) ∷ [])) ∷ []);
  extensions = [];
  errors = located (at 15) (Field (codes "o") ∷ Field (codes "y") ∷ []) bad ∷ [];
  headers = [];
}

doubled_key : merged_response (over_table doubled_table []) doubled_answers doubled ≡ doubled_due
unfolding out-Selection out-Field out-InlineFragment roll-Field roll-InlineFragment out roll shown-the_row-SelectionSet-items-2-0 shown hidden
doubled_key = merged_is (over_table doubled_table []) doubled_answers doubled doubled refl (search (rules, keeps_field) depth 12)
    ∙ search (rules, type_lemmas, shape_lemmas, given_lemmas, value_lemmas, tree_lemmas)

doubled_key_apart : apart_response (over_table doubled_table []) doubled_answers doubled ≡ doubled_due
unfolding out-Selection out-Field out-InlineFragment roll-Field roll-InlineFragment out roll shown-the_row-SelectionSet-items-2-0 shown hidden
doubled_key_apart = apart_is (over_table doubled_table []) doubled_answers doubled doubled refl (search (rules, keeps_field) depth 12)
    ∙ search (rules, type_lemmas, shape_lemmas, given_lemmas, value_lemmas, tree_lemmas)

-- three answers are asked: those of `o`, of `x` and of `y`
doubled_count : count (over_table doubled_table []) doubled_answers doubled ≡ 3
unfolding out-Selection out-Field out-InlineFragment roll-Field roll-InlineFragment out roll shown-the_row-SelectionSet-items-2-0 shown hidden
doubled_count = count_is (over_table doubled_table []) doubled_answers doubled doubled refl (search (rules, keeps_field) depth 12)
    ∙ search (rules, type_lemmas, shape_lemmas, given_lemmas, value_lemmas)

-- `{ m { a } m { b } }`, where `m` is a list of a list of two objects: they are united item by item
abbrev nested_table : TypeTable
nested_table =
    int ∷ object_of (codes "Query") [] (answered_by 1 (codes "m") (ref.List (ref.List obj_type)) ∷ [])
    ∷ object_of (codes "Obj") [] (answered_by 2 (codes "a") int_type ∷ answered_by 3 (codes "b") int_type ∷ []) ∷ []

abbrev nested_answers : List (Answer ℕ)
nested_answers =
    gives_null ∷ gives (kind.Value (value.List (value.List (value.Object [] ∷ value.Object [] ∷ []) ∷ []))) ∷ gives_number (pos 1) ∷ gives_number (pos 2) ∷ []

abbrev nested : Selections
nested = field 3 (codes "m") (set 5 (leaf 7 (codes "a") ∷ [])) ∷ field 11 (codes "m") (set 13 (leaf 15 (codes "b") ∷ [])) ∷ []

abbrev both_members : Value
both_members = value.Object ((codes "a", number 1) ∷ (codes "b", number 2) ∷ [])

abbrev nested_due : Response
nested_due = record {
  result = value.Object ((codes "m", value.List (value.List (both_members ∷ both_members ∷ []) ∷ [])) ∷ []);
  extensions = [];
  errors = [];
  headers = [];
}

nested_lists : merged_response (over_table nested_table []) nested_answers nested ≡ nested_due
unfolding out-Selection out-Field out-InlineFragment roll-Field roll-InlineFragment out roll shown-the_row-SelectionSet-items-2-0 shown hidden
nested_lists = merged_is (over_table nested_table []) nested_answers nested nested refl (search (rules, keeps_field) depth 12)
    ∙ search (rules, type_lemmas, shape_lemmas, given_lemmas, value_lemmas, tree_lemmas)

nested_lists_apart : apart_response (over_table nested_table []) nested_answers nested ≡ nested_due
unfolding out-Selection out-Field out-InlineFragment roll-Field roll-InlineFragment out roll shown-the_row-SelectionSet-items-2-0 shown hidden
nested_lists_apart = apart_is (over_table nested_table []) nested_answers nested nested refl (search (rules, keeps_field) depth 12)
    ∙ search (rules, type_lemmas, shape_lemmas, given_lemmas, value_lemmas, tree_lemmas)

-- `{ o { x y } }`, where both fields may not be null and fail: the object is null, and both errors are told
abbrev failing_table : TypeTable
failing_table =
    int ∷ object_of (codes "Query") [] (answered_by 1 (codes "o") obj_type ∷ [])
    ∷ object_of (codes "Obj") [] (answered_by 2 (codes "x") (ref.NonNull int_type) ∷ answered_by 3 (codes "y") (ref.NonNull int_type) ∷ []) ∷ []

abbrev other_bad : Error
other_bad = record { message = codes "other"; extensions = None }

abbrev failing_answers : List (Answer ℕ)
failing_answers = gives_null ∷ gives_null ∷ fails bad ∷ fails other_bad ∷ []

abbrev failing : Selections
failing = field 3 (codes "o") (set 5 (leaf 7 (codes "x") ∷ leaf 9 (codes "y") ∷ [])) ∷ []

abbrev failing_due : Response
failing_due = record {
  result = value.Object ((codes "o", value.Null) ∷ []);
  extensions = [];
  errors =
      located (at 7) (Field (codes "o") ∷ Field (codes "x") ∷ []) bad
      ∷ located (at 9) (Field (codes "o") ∷ Field (codes "y") ∷ []) other_bad ∷ [];
  headers = [];
}

null_is_raised : merged_response (over_table failing_table []) failing_answers failing ≡ failing_due
unfolding out-Selection out-Field out-InlineFragment roll-Field roll-InlineFragment out roll shown-the_row-SelectionSet-items-2-0 shown hidden
null_is_raised = merged_is (over_table failing_table []) failing_answers failing failing refl (search (rules, keeps_field) depth 12)
    ∙ search (rules, type_lemmas, shape_lemmas, given_lemmas, value_lemmas, tree_lemmas)

-- `{ o { y } o { y } }`, where `o` is a list of two objects and `y` may not be null and fails: each item is null, and each error is
-- told once
abbrev items_table : TypeTable
items_table =
    int ∷ object_of (codes "Query") [] (answered_by 1 (codes "o") (ref.List obj_type) ∷ [])
    ∷ object_of (codes "Obj") [] (answered_by 2 (codes "y") (ref.NonNull int_type) ∷ []) ∷ []

abbrev items_answers : List (Answer ℕ)
items_answers = gives_null ∷ gives (kind.Value (value.List (value.Object [] ∷ value.Object [] ∷ []))) ∷ fails bad ∷ []

abbrev items : Selections
items = field 3 (codes "o") (set 5 (leaf 7 (codes "y") ∷ [])) ∷ field 11 (codes "o") (set 13 (leaf 15 (codes "y") ∷ [])) ∷ []

abbrev items_due : Response
items_due = record {
  result = value.Object ((codes "o", value.List (value.Null ∷ value.Null ∷ [])) ∷ []);
  extensions = [];
  errors =
      located (at 7) (Field (codes "o") ∷ Index 0 ∷ Field (codes "y") ∷ []) bad
      ∷ located (at 7) (Field (codes "o") ∷ Index 1 ∷ Field (codes "y") ∷ []) bad ∷ [];
  headers = [];
}

null_items : merged_response (over_table items_table []) items_answers items ≡ items_due
unfolding out-Selection out-Field out-InlineFragment roll-Field roll-InlineFragment out roll shown-the_row-SelectionSet-items-2-0 shown hidden
null_items = merged_is (over_table items_table []) items_answers items items refl (search (rules, keeps_field) depth 12)
    ∙ search (rules, type_lemmas, shape_lemmas, given_lemmas, value_lemmas, tree_lemmas)

null_items_apart : apart_response (over_table items_table []) items_answers items ≡ items_due
unfolding out-Selection out-Field out-InlineFragment roll-Field roll-InlineFragment out roll shown-the_row-SelectionSet-items-2-0 shown hidden
null_items_apart = apart_is (over_table items_table []) items_answers items items refl (search (rules, keeps_field) depth 12)
    ∙ search (rules, type_lemmas, shape_lemmas, given_lemmas, value_lemmas, tree_lemmas)

-- `{ values }` of the type `[Int!]` with 1, null and 3: the list is null
abbrev values_table : TypeTable
values_table = int ∷ object_of (codes "Query") [] (answered_by 1 (codes "values") (ref.List (ref.NonNull int_type)) ∷ []) ∷ []

abbrev values_answers : List (Answer ℕ)
values_answers = gives_null ∷ gives (kind.Value (value.List (number 1 ∷ value.Null ∷ number 3 ∷ []))) ∷ []

abbrev values : Selections
values = leaf 3 (codes "values") ∷ []

abbrev wanting : Error
wanting = record { message = no_value; extensions = None }

abbrev values_due : Response
values_due = record {
  result = value.Object ((codes "values", value.Null) ∷ []);
  extensions = [];
  errors = located (at 3) (Field (codes "values") ∷ Index 1 ∷ []) wanting ∷ [];
  headers = [];
}

null_item_in_non_null : merged_response (over_table values_table []) values_answers values ≡ values_due
unfolding out-Selection out-Field out-InlineFragment roll-Field roll-InlineFragment out roll shown-the_row-SelectionSet-items-2-0 shown hidden
null_item_in_non_null = merged_is (over_table values_table []) values_answers values values refl (search (rules, keeps_field) depth 12)
    ∙ search (rules, type_lemmas, shape_lemmas, given_lemmas, value_lemmas, tree_lemmas)

-- `{ valueA }` of the type `Int!` without a value: there is no data
abbrev lone_table : TypeTable
lone_table = int ∷ object_of (codes "Query") [] (answered_by 1 (codes "valueA") (ref.NonNull int_type) ∷ []) ∷ []

abbrev no_answers : List (Answer ℕ)
no_answers = gives_null ∷ record { result = Ok None; added = []; headers = [] } ∷ []

abbrev lone : Selections
lone = leaf 3 (codes "valueA") ∷ []

abbrev lone_due : Response
lone_due = record { result = value.Null; extensions = []; errors = located (at 3) (Field (codes "valueA") ∷ []) wanting ∷ []; headers = [] }

null_at_the_root : merged_response (over_table lone_table []) no_answers lone ≡ lone_due
unfolding out-Selection out-Field out-InlineFragment roll-Field roll-InlineFragment out roll shown-the_row-SelectionSet-items-2-0 shown hidden
null_at_the_root = merged_is (over_table lone_table []) no_answers lone lone refl (search (rules, keeps_field) depth 12)
    ∙ search (rules, type_lemmas, shape_lemmas, given_lemmas, value_lemmas, tree_lemmas)

-- `{ a }` with an error beside its value: the error is told, and the value stays
abbrev added_table : TypeTable
added_table = int ∷ object_of (codes "Query") [] (answered_by 1 (codes "a") int_type ∷ []) ∷ []

abbrev added_answers : List (Answer ℕ)
added_answers = gives_null ∷ record (gives_number (pos 1)) { added = bad ∷ [] } ∷ []

abbrev numbered_answers : List (Answer ℕ)
numbered_answers = gives_null ∷ gives_number (pos 1) ∷ []

abbrev added : Selections
added = leaf 3 (codes "a") ∷ []

abbrev added_due : Response
added_due = record { result = value.Object ((codes "a", number 1) ∷ []); extensions = []; errors = located (at 3) (Field (codes "a") ∷ []) bad ∷ []; headers = [] }

added_error : merged_response (over_table added_table []) added_answers added ≡ added_due
unfolding out-Selection out-Field out-InlineFragment roll-Field roll-InlineFragment out roll shown-the_row-SelectionSet-items-2-0 shown hidden
added_error = merged_is (over_table added_table []) added_answers added added refl (search (rules, keeps_field) depth 12)
    ∙ search (rules, type_lemmas, shape_lemmas, given_lemmas, value_lemmas, tree_lemmas)

-- `{ lost a }`, of which no type has `lost`: it is no member (admission lets no such query through)
abbrev lost : Selections
lost = leaf 3 (codes "lost") ∷ leaf 8 (codes "a") ∷ []

abbrev lost_due : Response
lost_due = record { result = value.Object ((codes "a", number 1) ∷ []); extensions = []; errors = []; headers = [] }

unknown_field : merged_response (over_table added_table []) numbered_answers lost ≡ lost_due
unfolding out-Selection out-Field out-InlineFragment roll-Field roll-InlineFragment out roll shown-the_row-SelectionSet-items-2-0 shown hidden
unknown_field = merged_is (over_table added_table []) numbered_answers lost lost refl (search (rules, keeps_field) depth 12)
    ∙ search (rules, type_lemmas, shape_lemmas, given_lemmas, value_lemmas, tree_lemmas)

unknown_field_apart : apart_response (over_table added_table []) numbered_answers lost ≡ lost_due
unfolding out-Selection out-Field out-InlineFragment roll-Field roll-InlineFragment out roll shown-the_row-SelectionSet-items-2-0 shown hidden
unknown_field_apart = apart_is (over_table added_table []) numbered_answers lost lost refl (search (rules, keeps_field) depth 12)
    ∙ search (rules, type_lemmas, shape_lemmas, given_lemmas, value_lemmas, tree_lemmas)

-- one answer is asked: that of `a`
unknown_field_count : count (over_table added_table []) numbered_answers lost ≡ 1
unfolding out-Selection out-Field out-InlineFragment roll-Field roll-InlineFragment out roll shown-the_row-SelectionSet-items-2-0 shown hidden
unknown_field_count = count_is (over_table added_table []) numbered_answers lost lost refl (search (rules, keeps_field) depth 12)
    ∙ search (rules, type_lemmas, shape_lemmas, given_lemmas, value_lemmas)

-- `{ a: lost a }`: of the two under one key the declared one counts, with its place
abbrev shadowed : Selections
shadowed = given_field 3 (Some (placed 3 (codes "a"))) (codes "lost") [] (set 3 []) ∷ leaf 11 (codes "a") ∷ []

abbrev shadowed_due : Response
shadowed_due = record {
  result = value.Object ((codes "a", number 1) ∷ []);
  extensions = [];
  errors = located (at 11) (Field (codes "a") ∷ []) bad ∷ [];
  headers = [];
}

unknown_under_a_key : merged_response (over_table added_table []) added_answers shadowed ≡ shadowed_due
unfolding out-Selection out-Field out-InlineFragment roll-Field roll-InlineFragment out roll shown-the_row-SelectionSet-items-2-0 shown hidden
unknown_under_a_key = merged_is (over_table added_table []) added_answers shadowed shadowed refl (search (rules, keeps_field) depth 12)
    ∙ search (rules, type_lemmas, shape_lemmas, given_lemmas, value_lemmas, tree_lemmas)

-- in introspection-only mode each field is a member, without a value
abbrev introspecting : Execution
introspecting = record (over_table added_table []) { only_introspection = true }

abbrev introspected_due : Response
introspected_due = record {
  result = value.Object ((codes "lost", value.Null) ∷ (codes "a", value.Null) ∷ []);
  extensions = [];
  errors = [];
  headers = [];
}

unknown_in_introspection : merged_response introspecting numbered_answers lost ≡ introspected_due
unfolding out-Selection out-Field out-InlineFragment roll-Field roll-InlineFragment out roll shown-the_row-SelectionSet-items-2-0 shown hidden
unknown_in_introspection = merged_is introspecting numbered_answers lost lost refl (search (rules, keeps_field) depth 12)
    ∙ search (rules, type_lemmas, shape_lemmas, given_lemmas, value_lemmas, tree_lemmas)

-- `{ o { x } }`, where `o` and `x` touch headers and `x` may not be null and fails: the object is null, and its headers are touched all
-- the same
module _ (one other : HeaderOp) where
  abbrev touching_answers : List (Answer ℕ)
  touching_answers = gives_null ∷ record gives_null { headers = one ∷ [] } ∷ record (fails bad) { headers = other ∷ [] } ∷ []

  abbrev touching : Selections
  touching = field 3 (codes "o") (set 5 (leaf 7 (codes "x") ∷ [])) ∷ []

  abbrev touching_due : Response
  touching_due = record {
    result = value.Object ((codes "o", value.Null) ∷ []);
    extensions = [];
    errors = located (at 7) (Field (codes "o") ∷ Field (codes "x") ∷ []) bad ∷ [];
    headers = one ∷ other ∷ [];
  }

  nulled_headers : merged_response (over_table failing_table []) touching_answers touching ≡ touching_due
  unfolding out-Selection out-Field out-InlineFragment roll-Field roll-InlineFragment out roll shown-the_row-SelectionSet-items-2-0 shown hidden
  nulled_headers = merged_is (over_table failing_table []) touching_answers touching touching refl (search (rules, keeps_field) depth 12)
      ∙ search (rules, type_lemmas, shape_lemmas, given_lemmas, value_lemmas, tree_lemmas)
