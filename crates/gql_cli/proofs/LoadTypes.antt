-- The types that the bench of `load` comes to, and that they are sound.
use Rattle.std.proofs.Common.{rules, ◌≡◌, ℕ, zero, suc, true, false, List, [], ◌∷◌, codes, Some, None, slice_get, sym, subst}
use Rattle.gql_base.specs.Pairs.{values_of}
use Rattle.gql_base.specs.declared.type_ref.TypeRef.{the_lemmas as type_lemmas, TypeRef}
use Rattle.gql_base.specs.declared.type_ref.TypeRef.TheVariants as refs
use Rattle.gql_base.specs.declared.value.Value.{the_lemmas as value_lemmas}
use Rattle.gql_schema.specs.Faults.{fault_of}
use Rattle.gql_schema.specs.Scalar.{new_scalar}
use Rattle.gql_schema.specs.Sound.{ContainsItself, IsFaultOf, IsSound}
use Rattle.gql_schema.specs.TableReading.{TypeTable}
use Rattle.gql_schema.specs.declared.field.Field.{Field}
use Rattle.gql_schema.specs.declared.scalar_rule.ScalarRule.{ScalarRule}
use Rattle.gql_schema.specs.declared.scalar_rule.ScalarRule.TheVariants as scalars
use Rattle.gql_schema.specs.declared.schema_type.SchemaType.{SchemaType}
use Rattle.gql_schema.specs.declared.schema_type.SchemaType.TheVariants as types

abbrev field : List ℕ → TypeRef → ℕ → List ℕ × Field
field name ty resolver = (name, record { name = name; ty = ty; resolver = resolver; arguments = [] })

abbrev object : List ℕ → List (List ℕ × Field) → SchemaType
object name fields = types.Object (record { name = name; fields = fields; interfaces = []; keys = [] })

abbrev scalar : List ℕ → ScalarRule → SchemaType
scalar name rule = types.Scalar (new_scalar name rule)

abbrev query : SchemaType
query = object (codes "Query") (field (codes "rows") (refs.NonNull (refs.List (refs.NonNull (refs.Named (codes "Row"))))) 0 ∷ [])

abbrev row : SchemaType
row =
    object (codes "Row")
    (field (codes "id") (refs.NonNull (refs.Named (codes "Int"))) 1 ∷ field (codes "tag") (refs.Named (codes "String")) 2 ∷ [])

-- both objects, and the scalars of every schema
abbrev pub load_table : TypeTable
load_table =
    (codes "Query", query) ∷ (codes "Row", row) ∷ (codes "Int", scalar (codes "Int") scalars.Int) ∷ (codes "String", scalar (codes "String") scalars.Text)
    ∷ (codes "Boolean", scalar (codes "Boolean") scalars.Bool) ∷ (codes "ID", scalar (codes "ID") scalars.Id) ∷ []

query-free : fault_of load_table false query ≡ None
query-free = search (rules, value_lemmas, type_lemmas)

row-free : fault_of load_table false row ≡ None
row-free = search (rules, value_lemmas, type_lemmas)

int-free : fault_of load_table false (scalar (codes "Int") scalars.Int) ≡ None
int-free = search (rules, value_lemmas, type_lemmas)

string-free : fault_of load_table false (scalar (codes "String") scalars.Text) ≡ None
string-free = search (rules, value_lemmas, type_lemmas)

boolean-free : fault_of load_table false (scalar (codes "Boolean") scalars.Bool) ≡ None
boolean-free = search (rules, value_lemmas, type_lemmas)

id-free : fault_of load_table false (scalar (codes "ID") scalars.Id) ≡ None
id-free = search (rules, value_lemmas, type_lemmas)

-- a type that isn't an input object and that has no fault
faultless : (ty : SchemaType) → (ContainsItself load_table ty → ⊥) → fault_of load_table false ty ≡ None → IsFaultOf load_table ty None
faultless ty apart none = record {
  contains = false;
  decides = ((λ is. absurd (no-truth is)), λ contains. absurd (apart contains));
  is = sym none;
}
  where
    no-truth : false ≡ true → ⊥
    no-truth is = cc

-- the type at a place is such a one
free-as : (one ty : SchemaType) → Some one ≡ Some ty → IsFaultOf load_table one None → IsFaultOf load_table ty None
free-as one ty at free = let same : one ≡ ty = cc in subst (λ t. IsFaultOf load_table t None) same free

free-at : (place : ℕ) (ty : SchemaType) → slice_get (values_of load_table) place ≡ Some ty → IsFaultOf load_table ty None
free-at zero ty at = free-as query ty at (faultless query (λ none. none) query-free)
free-at (suc zero) ty at = free-as row ty at (faultless row (λ none. none) row-free)
free-at (suc (suc zero)) ty at = free-as _ ty at (faultless _ (λ none. none) int-free)
free-at (suc (suc (suc zero))) ty at = free-as _ ty at (faultless _ (λ none. none) string-free)
free-at (suc (suc (suc (suc zero)))) ty at = free-as _ ty at (faultless _ (λ none. none) boolean-free)
free-at (suc (suc (suc (suc (suc zero))))) ty at = free-as _ ty at (faultless _ (λ none. none) id-free)
free-at (suc (suc (suc (suc (suc (suc place)))))) ty at = let wrong : None ≡ Some ty = at in cc

-- no place of the table is at fault
pub load_table_is_sound : IsSound load_table
load_table_is_sound place within ty at = free-at place ty at
