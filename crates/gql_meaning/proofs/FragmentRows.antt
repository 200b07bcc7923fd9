-- Whole queries with fragments, on interfaces and unions, with `__typename` and with directives, computed from a document to its response.
use Rattle.std.proofs.Common.{rules, ◌≡◌, ℕ, pos, true, List, [], ◌∷◌, Some, None, refl, ◌∙◌}
use Rattle.std.specs.Prelude.{codes}
use Rattle.gql_base.specs.declared.error.Error.{Error}
use Rattle.gql_base.specs.declared.path_segment.PathSegment.TheVariants.{Field}
use Rattle.gql_base.specs.declared.type_ref.TypeRef.{TypeRef, the_lemmas as type_lemmas}
use Rattle.gql_base.specs.declared.type_ref.TypeRef.TheVariants as ref
use Rattle.gql_base.specs.declared.value.Value.{Value, the_lemmas as value_lemmas}
use Rattle.gql_base.specs.declared.value.Value.TheVariants as value
use Rattle.gql_doc.specs.Depth.{Fragments}
use Rattle.gql_doc.specs.declared.document.Directive.{Directive}
use Rattle.gql_doc.specs.declared.document.DocValue.{the_lemmas as doc_lemmas}
use Rattle.gql_doc.specs.declared.document.DocValue.TheVariants as doc
use Rattle.gql_doc.specs.declared.document.Field.{out-Field, roll-Field}
use Rattle.gql_doc.specs.declared.document.InlineFragment.{out-InlineFragment, roll-InlineFragment}
use Rattle.gql_doc.specs.declared.document.Positioned.{Positioned}
use Rattle.gql_doc.specs.declared.document.Selection.{out-Selection}
use Rattle.gql_doc.specs.declared.document.Selection.TheBlock.{shown-the_row-SelectionSet-items-2-0}
use Rattle.gql_doc.specs.declared.document.VariableDefinition.{VariableDefinition}
use denote.Hole.Carrier.{out, roll, shown, hidden}
use Rattle.gql_meaning.specs.Completion.{union_texts}
use Rattle.gql_collect.specs.Execution.{Execution}
use Rattle.gql_place.specs.Faults.{located}
use Rattle.gql_place.specs.declared.place.Tree.{the_lemmas as tree_lemmas}
use Rattle.gql_place.specs.declared.shape.Shape.{the_lemmas as shape_lemmas}
use Rattle.gql_request.specs.declared.response.Response.{Response}
use Rattle.gql_resolve.specs.declared.answer.Answer.{Answer}
use Rattle.gql_resolve.specs.declared.field_value.FieldValue.{the_lemmas as given_lemmas}
use Rattle.gql_resolve.specs.declared.field_value.FieldValue.TheVariants as kind
use Rattle.gql_schema.specs.TableReading.{TypeTable}
use Rattle.gql_schema.specs.declared.scalar_rule.ScalarRule.TheVariants as rules_of
use Rattle.gql_schema.specs.declared.schema_type.SchemaType.{SchemaType}
use Rattle.gql_schema.specs.declared.schema_type.SchemaType.TheVariants as types
use Rattle.gql_select.specs.Constants.{variable_value}
use Rattle.gql_meaning.proofs.Written.{answered_by, argument, directed, directed_goes, directed_stays, field, fragment_on, fragment_stays, gives, gives_null, gives_number, at, keeps_field, keeps_on, keeps_spread, leaf, merged_is, merged_response, object_of, on, over_table, placed, Selections, set, spread}

abbrev int : List ℕ × SchemaType
int = (codes "Int", types.Scalar (record { name = codes "Int"; rule = rules_of.Int }))

abbrev int_type : TypeRef
int_type = ref.Named (codes "Int")

abbrev number : ℕ → Value
number n = value.Number (pos n)

-- the response with this value alone
abbrev data_alone : List (List ℕ × Value) → Response
data_alone members = record { result = value.Object members; extensions = []; errors = []; headers = [] }

-- `Query { value: Int, other: Int }` with 100 and 200
abbrev plain_table : TypeTable
plain_table = int ∷ object_of (codes "Query") [] (answered_by 1 (codes "value") int_type ∷ answered_by 2 (codes "other") int_type ∷ []) ∷ []

abbrev plain_answers : List (Answer ℕ)
plain_answers = gives_null ∷ gives_number (pos 100) ∷ gives_number (pos 200) ∷ []

-- { value }
abbrev plain : Selections
plain = leaf 29 (codes "value") ∷ []

-- an object `A` with the field `a`, and one `B` with `b`; `A` implements the interface `I` and is in the union `U`
abbrev kinds_table : TypeTable
kinds_table =
    int
    ∷ object_of (codes "Query") []
    (answered_by 1 (codes "o") (ref.Named (codes "A")) ∷ answered_by 2 (codes "i") (ref.Named (codes "I"))
    ∷ answered_by 3 (codes "u") (ref.NonNull (ref.Named (codes "U"))) ∷ [])
    ∷ object_of (codes "A") (codes "I" ∷ []) (answered_by 4 (codes "a") int_type ∷ []) ∷ object_of (codes "B") [] (answered_by 5 (codes "b") int_type ∷ [])
    ∷ (codes "I", types.Interface (record { name = codes "I"; fields = [] })) ∷ (codes "U", types.Union (record { name = codes "U"; members = codes "A" ∷ [] }))
    ∷ []

-- null for `o`, an `A` for `i`, a `B` for `u`, 1 for `a` and 2 for `b`
abbrev kinds_answers : List (Answer ℕ)
kinds_answers =
    gives_null ∷ gives_null ∷ gives (kind.WithType (kind.Own 7) (codes "A")) ∷ gives (kind.WithType (kind.Own 8) (codes "B")) ∷ gives_number (pos 1)
    ∷ gives_number (pos 2) ∷ []

-- { o { ... on U { ... on A { a } } } }: a fragment on a union that holds the object is entered
abbrev in_union : Selections
in_union = field 3 (codes "o") (set 5 (on 7 (codes "U") (set 16 (on 18 (codes "A") (set 27 (leaf 29 (codes "a") ∷ [])) ∷ [])) ∷ [])) ∷ []

fragment_on_a_union : merged_response (over_table kinds_table []) kinds_answers in_union ≡ data_alone ((codes "o", value.Object ((codes "a", number 1) ∷ [])) ∷ [])
unfolding out-Selection out-Field out-InlineFragment roll-Field roll-InlineFragment out roll shown-the_row-SelectionSet-items-2-0 shown hidden
fragment_on_a_union = merged_is (over_table kinds_table []) kinds_answers in_union in_union refl (search (rules, keeps_field, keeps_on) depth 12)
    ∙ search (rules, type_lemmas, shape_lemmas, given_lemmas, value_lemmas, tree_lemmas)

-- { i { __typename ... on I { a } ... on B { b } } }: the fragment on the interface is entered, and the one on the other object isn't
abbrev on_interface : Selections
on_interface =
    field 3 (codes "i")
    (set 5
    (leaf 7 (codes "__typename") ∷ on 18 (codes "I") (set 27 (leaf 29 (codes "a") ∷ [])) ∷ on 33 (codes "B") (set 42 (leaf 44 (codes "b") ∷ [])) ∷ []))
    ∷ []

abbrev shown_a : List (List ℕ × Value)
shown_a = (codes "__typename", value.String (codes "A")) ∷ (codes "a", number 1) ∷ []

fragment_on_an_interface : merged_response (over_table kinds_table []) kinds_answers on_interface ≡ data_alone ((codes "i", value.Object shown_a) ∷ [])
unfolding out-Selection out-Field out-InlineFragment roll-Field roll-InlineFragment out roll shown-the_row-SelectionSet-items-2-0 shown hidden
fragment_on_an_interface = merged_is (over_table kinds_table []) kinds_answers on_interface on_interface refl (search (rules, keeps_field, keeps_on) depth 12)
    ∙ search (rules, type_lemmas, shape_lemmas, given_lemmas, value_lemmas, tree_lemmas)

-- { u { ... on A { a } } }: the union hasn't the object that stands there, and may not be null
abbrev of_union : Selections
of_union = field 3 (codes "u") (set 5 (on 7 (codes "A") (set 16 (leaf 18 (codes "a") ∷ [])) ∷ [])) ∷ []

abbrev foreign : Error
foreign = record { message = (union_texts (codes "U")).foreign (codes "B"); extensions = None }

abbrev foreign_due : Response
foreign_due = record { result = value.Null; extensions = []; errors = located (at 3) (Field (codes "u") ∷ []) foreign ∷ []; headers = [] }

foreign_object : merged_response (over_table kinds_table []) kinds_answers of_union ≡ foreign_due
unfolding out-Selection out-Field out-InlineFragment roll-Field roll-InlineFragment out roll shown-the_row-SelectionSet-items-2-0 shown hidden
foreign_object = merged_is (over_table kinds_table []) kinds_answers of_union of_union refl (search (rules, keeps_field, keeps_on) depth 12)
    ∙ search (rules, type_lemmas, shape_lemmas, given_lemmas, value_lemmas, tree_lemmas)

-- { o { ...Parts a } } fragment Parts on A { __typename a }: the fragment is entered, and the doubled key is one
abbrev with_parts : Selections
with_parts = field 3 (codes "o") (set 5 (spread 7 (codes "Parts") ∷ leaf 16 (codes "a") ∷ [])) ∷ []

abbrev parts : Fragments
parts = fragment_on 22 (codes "Parts") (codes "A") (set 42 (leaf 44 (codes "__typename") ∷ leaf 55 (codes "a") ∷ [])) ∷ []

named_fragment : merged_response (over_table kinds_table parts) kinds_answers with_parts ≡ data_alone ((codes "o", value.Object shown_a) ∷ [])
unfolding out-Selection out-Field out-InlineFragment roll-Field roll-InlineFragment out roll shown-the_row-SelectionSet-items-2-0 shown hidden
named_fragment = merged_is (over_table kinds_table parts) kinds_answers with_parts with_parts (search (rules, fragment_stays, keeps_field) depth 12) (search (rules, keeps_field, keeps_spread) depth 12)
    ∙ search (rules, type_lemmas, shape_lemmas, given_lemmas, value_lemmas, tree_lemmas)

-- query($v: Boolean = true) { o @skip(if: $v) { .. } i @include(if: $v) }, on fields without sets: the default counts
abbrev v_definition : Positioned VariableDefinition
v_definition = placed 7 (record {
  name = placed 7 (codes "v");
  var_type = placed 11 (ref.Named (codes "Boolean"));
  directives = [];
  default = Some (placed 21 (value.Boolean true));
})

abbrev by_default : Execution
by_default = record (over_table plain_table []) { known = variable_value [] (v_definition ∷ []) }

abbrev if_v : List ℕ → List (Positioned Directive)
if_v name = placed 35 (record { name = placed 35 name; arguments = argument (codes "if") (doc.Variable (codes "v")) ∷ [] }) ∷ []

abbrev with_directives : Selections
with_directives = directed 29 (codes "value") (if_v (codes "include")) ∷ directed 52 (codes "other") (if_v (codes "skip")) ∷ []

directives : merged_response by_default plain_answers with_directives ≡ data_alone ((codes "value", number 100) ∷ [])
unfolding out-Selection out-Field out-InlineFragment roll-Field roll-InlineFragment out roll shown-the_row-SelectionSet-items-2-0 shown hidden
directives = merged_is by_default plain_answers with_directives plain refl
    (directed_stays by_default.known 29 (codes "value") (if_v (codes "include")) (directed 52 (codes "other") (if_v (codes "skip")) ∷ []) [] (search (rules, doc_lemmas, value_lemmas)) refl
    (directed_goes by_default.known 52 (codes "other") (if_v (codes "skip")) [] [] (search (rules, doc_lemmas, value_lemmas)) refl))
    ∙ search (rules, type_lemmas, shape_lemmas, given_lemmas, value_lemmas, tree_lemmas)

-- { __typename value } where only `__typename` is answered
abbrev introspecting : Selections
introspecting = leaf 3 (codes "__typename") ∷ leaf 14 (codes "value") ∷ []

introspection_only : merged_response (record (over_table plain_table []) { only_introspection = true }) plain_answers introspecting ≡ data_alone ((codes "__typename", value.String (codes "Query")) ∷ (codes "value", value.Null) ∷ [])
unfolding out-Selection out-Field out-InlineFragment roll-Field roll-InlineFragment out roll shown-the_row-SelectionSet-items-2-0 shown hidden
introspection_only = merged_is (record (over_table plain_table []) { only_introspection = true }) plain_answers introspecting introspecting refl (search (rules, keeps_field) depth 12)
    ∙ search (rules, type_lemmas, shape_lemmas, given_lemmas, value_lemmas, tree_lemmas)
