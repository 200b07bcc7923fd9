-- Some answers, completed at types of a table, and what fields ask.
use Rattle.std.proofs.Common.{◌++◌, List, map, rules, ◌≡◌, ℕ, pos, Bool, true, false, [], ◌∷◌, Some, None, refl}
use Rattle.std.specs.Fmt.{signed_decimal}
use Rattle.std.specs.Prelude.{codes}
use Rattle.gql_base.specs.declared.type_ref.TypeRef.{the_lemmas as type_lemmas}
use Rattle.gql_base.specs.declared.type_ref.TypeRef.TheVariants as ref
use Rattle.gql_base.specs.declared.value.Value.{Value, the_lemmas as value_lemmas}
use Rattle.gql_base.specs.declared.value.Value.TheVariants as value
use Rattle.gql_base.specs.declared.pos.Pos.{Pos}
use Rattle.gql_meaning.specs.Completion.{completed, fault, no_scalar, no_value, union_texts}
use Rattle.gql_meaning.specs.Outcomes.{absent_outcome, named_outcome}
use Rattle.gql_collect.specs.Execution.{asking, Execution}
use Rattle.gql_meaning.specs.PlaceResponse.{response_at}
use Rattle.gql_meaning.specs.Responses.{Members, root_place}
use Rattle.gql_collect.specs.TableSetting.{setting_of}
use Rattle.gql_base.specs.declared.error.Error.{Error}
use Rattle.gql_base.specs.declared.path_segment.PathSegment.TheVariants.{Field}
use Rattle.gql_place.specs.Answered.{answering}
use Rattle.gql_place.specs.Faults.{located}
use Rattle.gql_place.specs.Filled.{Outcome}
use Rattle.gql_place.specs.Join.{join}
use Rattle.gql_place.specs.declared.place.Tree.{the_lemmas as tree_lemmas}
use Rattle.gql_place.specs.declared.shape.Shape.{Shape, the_lemmas as shape_lemmas}
use Rattle.gql_select.specs.Grouped.{grouped, respond}
use Rattle.gql_select.specs.Reading.{Reading}
use Rattle.std.specs.Str.{bytes_eq}
use Rattle.gql_place.specs.declared.shape.Shape.TheVariants as shape
use Rattle.gql_resolve.specs.declared.field_value.FieldValue.{FieldValue, the_lemmas as given_lemmas}
use Rattle.gql_resolve.specs.declared.field_value.FieldValue.TheVariants as kind
use Rattle.gql_resolve.specs.Call.{Call}
use Rattle.gql_resolve.specs.declared.answer.Answer.{Answer}
use Rattle.gql_schema.specs.TableReading.{TypeTable}
use Rattle.gql_schema.specs.declared.scalar_rule.ScalarRule.TheVariants as rules_of
use Rattle.gql_schema.specs.declared.schema_type.SchemaType.TheVariants as types

-- objects `A` and `B`, of which `A` implements the interface `I` and alone is in the union `U`
abbrev table : TypeTable
table =
    (codes "Int", types.Scalar (record { name = codes "Int"; rule = rules_of.Int }))
    ∷ (codes "ID", types.Scalar (record { name = codes "ID"; rule = rules_of.Id }))
    ∷ (codes "E", types.Enum (record { name = codes "E"; items = codes "ON" ∷ [] }))
    ∷ (codes "A", types.Object (record { name = codes "A"; fields = []; interfaces = codes "I" ∷ []; keys = [] }))
    ∷ (codes "B", types.Object (record { name = codes "B"; fields = []; interfaces = []; keys = [] }))
    ∷ (codes "I", types.Interface (record { name = codes "I"; fields = [] }))
    ∷ (codes "U", types.Union (record { name = codes "U"; members = codes "A" ∷ [] }))
    ∷ []

-- a value of the resolver's own kind, in one variant of the type `U`
abbrev own : FieldValue ℕ
own = kind.Own 7

-- no value at a nullable type is absent, and at a non-null one a fault
none_at_int : completed {V = ℕ} table (ref.Named (codes "Int")) None ≡ shape.Absent
none_at_int = search (rules, type_lemmas, shape_lemmas)

none_at_non_null : completed {V = ℕ} table (ref.NonNull (ref.Named (codes "Int"))) None ≡ fault no_value
none_at_non_null = search (rules, type_lemmas, shape_lemmas)

-- a number of the type `ID` is shown as its text
number_at_id : completed {V = ℕ} table (ref.Named (codes "ID")) (Some (kind.Value (value.Number (pos 12)))) ≡ shape.Leaf (value.String (signed_decimal (pos 12)))
number_at_id = search (rules, type_lemmas, shape_lemmas, given_lemmas, value_lemmas)

-- a value of the resolver's own kind is no scalar
own_at_int : completed {V = ℕ} table (ref.Named (codes "Int")) (Some own) ≡ fault (no_scalar (codes "Int"))
own_at_int = search (rules, type_lemmas, shape_lemmas, given_lemmas, value_lemmas)

-- an item of an enum may be given as a string, and comes to the item
string_at_enum : completed {V = ℕ} table (ref.Named (codes "E")) (Some (kind.Value (value.String (codes "ON")))) ≡ shape.Leaf (value.Enum (codes "ON"))
string_at_enum = search (rules, type_lemmas, shape_lemmas, given_lemmas, value_lemmas)

-- null is the value of an object too
null_at_object : completed {V = ℕ} table (ref.Named (codes "A")) (Some (kind.Value value.Null)) ≡ shape.Object (codes "A") (kind.Value value.Null)
null_at_object = search (rules, type_lemmas, shape_lemmas, given_lemmas, value_lemmas)

-- an interface comes to an object that implements it, and an object in the wrong union is a fault
named_at_interface : completed {V = ℕ} table (ref.Named (codes "I")) (Some (kind.WithType own (codes "A"))) ≡ shape.Object (codes "A") own
named_at_interface = search (rules, type_lemmas, shape_lemmas, given_lemmas, value_lemmas)

foreign_at_union : completed {V = ℕ} table (ref.Named (codes "U")) (Some (kind.WithType own (codes "B"))) ≡ fault ((union_texts (codes "U")).foreign (codes "B"))
foreign_at_union = search (rules, type_lemmas, shape_lemmas, given_lemmas, value_lemmas)

-- a null among non-null numbers is a fault at its own place
list_of_numbers :
    completed {V = ℕ} table (ref.List (ref.NonNull (ref.Named (codes "Int"))))
    (Some (kind.Value (value.List (value.Number (pos 1) ∷ value.Null ∷ []))))
    ≡ shape.List true (shape.Leaf (value.Number (pos 1)) ∷ fault no_value ∷ [])
list_of_numbers = search (rules, type_lemmas, shape_lemmas, given_lemmas, value_lemmas)

-- a condition on the union lets its member in
union_covers : (setting_of (record { table = table; entities = None }) [] 1).covers (codes "U") (codes "A") ≡ true
union_covers = refl

union_covers_no_other : (setting_of (record { table = table; entities = None }) [] 1).covers (codes "U") (codes "B") ≡ false
union_covers_no_other = refl

-- a query of `{ __typename n }` on an object `Q` with the field `n: Int!`
abbrev query_table : TypeTable
query_table =
    (codes "Int", types.Scalar (record { name = codes "Int"; rule = rules_of.Int }))
    ∷ (
      codes "Q",
      types.Object (record {
        name = codes "Q";
        fields = (codes "n", record { name = codes "n"; ty = ref.NonNull (ref.Named (codes "Int")); resolver = 4; arguments = [] }) ∷ [];
        interfaces = [];
        keys = [];
      }),
    )
    ∷ []

abbrev execution : Bool → Execution
execution only = record {
  schema = record { table = query_table; entities = Some (record { root = codes "Q"; resolver = 9 }) };
  fragments = [];
  levels = 2;
  known = λ name. value.Null;
  layers = [];
  only_introspection = only;
}

-- a field asks the resolver that it is declared with, at its own type
asks_its_resolver :
    asking false (execution false) (codes "Q") own (codes "n") []
    ≡ Some (record { call = record { is_root = false; resolver = 4; parent = own; arguments = []; layers = [] }; ty = ref.NonNull (ref.Named (codes "Int")) })
asks_its_resolver = refl

-- `__typename` asks nothing, and is the name of the object
typename_asks_nothing : asking false (execution false) (codes "Q") own (codes "__typename") [] ≡ None
typename_asks_nothing = refl

typename_is_the_name : (answer : Call ℕ → Answer ℕ)
    → (named_outcome false (execution false) answer (codes "Q") own (codes "__typename") []).shape ≡ shape.Leaf (value.String (codes "Q"))
typename_is_the_name answer = refl

-- in introspection-only mode it is answered all the same, and the other field is absent
typename_in_introspection : (answer : Call ℕ → Answer ℕ)
    → (named_outcome false (execution true) answer (codes "Q") own (codes "__typename") []).shape ≡ shape.Leaf (value.String (codes "Q"))
typename_in_introspection answer = refl

absent_in_introspection : (answer : Call ℕ → Answer ℕ) → named_outcome false (execution true) answer (codes "Q") own (codes "n") [] ≡ absent_outcome
absent_in_introspection answer = refl

-- the query root has the field of entities, where they are on, and other objects haven't
asks_for_entities :
    asking false (execution false) (codes "Q") own (codes "_entities") []
    ≡ Some (record {
      call = record { is_root = false; resolver = 9; parent = own; arguments = []; layers = [] };
      ty = ref.NonNull (ref.List (ref.Named (codes "_Entity")));
    })
asks_for_entities = refl

no_entities_elsewhere : asking false (execution false) (codes "A") own (codes "_entities") [] ≡ None
no_entities_elsewhere = refl

-- The query `{ o { x } o { y } }`: `o` is an object, `x` is 1, and `y` fails and may be null.

data Occurrence : Type 0 where
  o_first : Occurrence
  o_second : Occurrence
  x_alone : Occurrence
  y_alone : Occurrence

abbrev set_of : Occurrence → List Occurrence
set_of o_first = x_alone ∷ []
set_of o_second = y_alone ∷ []
set_of _ = []

abbrev key_at : Occurrence → List ℕ
key_at o_first = codes "o"
key_at o_second = codes "o"
key_at x_alone = codes "x"
key_at y_alone = codes "y"

abbrev doubled : Reading ℕ (Occurrence × List Occurrence) Occurrence
doubled = record {
  fields = λ object set. map (λ occurrence. (occurrence, set_of occurrence)) set;
  key = λ f. key_at f.0;
  set = λ f. f.1;
  both = λ f g. (f.0, f.1 ++ g.1);
  alike = λ f g. bytes_eq (key_at f.0) (key_at g.0);
  objects = λ object f. [];
}

abbrev place : Pos
place = record { line = 1; column = 3 }

abbrev bad : Error
bad = record { message = codes "bad"; extensions = None }

abbrev shape_at : Occurrence → Shape ℕ ℕ
shape_at x_alone = shape.Leaf (value.Number (pos 1))
shape_at y_alone = shape.Fault bad
shape_at _ = shape.Object 0 0

abbrev comes : ℕ → ℕ → Occurrence × List Occurrence → Outcome ℕ ℕ
comes object parent f = record { non_null = false; added = []; headers = []; shape = shape_at f.0 }

abbrev merged_members : Members
merged_members = grouped (answering doubled (λ f. place) comes) 2 0 0 (o_first ∷ o_second ∷ [])

abbrev apart_members : Members
apart_members = respond (answering doubled (λ f. place) comes) join 2 0 0 (o_first ∷ o_second ∷ [])

abbrev data_due : Value
data_due = value.Object ((codes "o", value.Object ((codes "x", value.Number (pos 1)) ∷ (codes "y", value.Null) ∷ [])) ∷ [])

-- one object stands under the doubled key, with the fields of both sets
doubled_merged : (response_at (root_place place merged_members)).result ≡ data_due
doubled_merged = search (rules, shape_lemmas, tree_lemmas)

doubled_apart : (response_at (root_place place apart_members)).result ≡ data_due
doubled_apart = search (rules, shape_lemmas, tree_lemmas)

-- the error is told once, at its path
doubled_told : (response_at (root_place place merged_members)).errors ≡ located place (Field (codes "o") ∷ Field (codes "y") ∷ []) bad ∷ []
doubled_told = search (rules, shape_lemmas, tree_lemmas)

doubled_told_apart : (response_at (root_place place apart_members)).errors ≡ located place (Field (codes "o") ∷ Field (codes "y") ∷ []) bad ∷ []
doubled_told_apart = search (rules, shape_lemmas, tree_lemmas)
