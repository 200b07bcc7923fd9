-- Types that are names or lists of names, by what they are made of.
use Rattle.std.proofs.Common.{◌≡◌, ℕ, Bool, true, not, List, Result, Option, Some, None, ap, subst, sym, ◌∙◌}
use Rattle.std.specs.Prelude.{IfSome}
use Rattle.gql_base.specs.Pairs.{under}
use Rattle.gql_base.specs.TypeRef.{innermost, is_nullable}
use Rattle.gql_base.specs.declared.error.Error.{Error}
use Rattle.gql_base.specs.declared.type_ref.TypeRef.{TypeRef}
use Rattle.gql_base.specs.declared.type_ref.TypeRef.TheVariants as ref
use Rattle.gql_meaning.specs.Completion.{shape_of}
use Rattle.gql_resolve.specs.declared.field_value.FieldValue.{FieldValue}
use Rattle.gql_schema.specs.TableReading.{is_known_object, TypeTable}
use Rattle.gql_schema.specs.declared.schema_type.SchemaType.{SchemaType}
use Rattle.gql_complete.specs.ObjectLists.{GivesList, IsListing, IsNamed, items_given, list_of_names, non_null_list, non_null_name, objects_in, of_name}
use Rattle.gql_complete.proofs.ObjectListLemmas.{objects_listed}

-- a name is one
pub name_here : (ty : TypeRef) (name : List ℕ) → ty ≡ ref.Named name → IsNamed ty
name_here ty name is = subst IsNamed (sym is) (of_name name)

-- and so is one that is non-null
pub name_inside : (ty inner got : TypeRef) → ty ≡ ref.NonNull inner → got ≡ inner → IsNamed got → IsNamed ty
name_inside ty inner got is same named = subst IsNamed (sym (is ∙ ap ref.NonNull (sym same))) (non_null_name got named)

-- a list of names is one
pub names_here : (result : Option Bool) (ty inner got : TypeRef) → ty ≡ ref.List inner → got ≡ inner
    → IfSome result (λ non_null. IsNamed got × (non_null ≡ not (is_nullable got))) → IfSome result (λ non_null. IsListing non_null ty)
names_here None ty inner got is same named = tt
names_here (Some non_null) ty inner got is same named =
    subst (IsListing non_null) (sym (is ∙ ap ref.List (sym same))) (list_of_names got named.0 named.1)

-- and so is one that is non-null
pub names_inside : (result : Option Bool) (ty inner got : TypeRef) → ty ≡ ref.NonNull inner → got ≡ inner
    → IfSome result (λ non_null. IsListing non_null got) → IfSome result (λ non_null. IsListing non_null ty)
names_inside None ty inner got is same listing = tt
names_inside (Some non_null) ty inner got is same listing =
    subst (IsListing non_null) (sym (is ∙ ap ref.NonNull (sym same))) (non_null_list got listing)

-- a result that is a list of objects, where its type was looked up
pub list_known : {V : Type 0} (result : Option Bool) (table : TypeTable) (name : List ℕ) (found : Option SchemaType) (b : Bool) (ty : TypeRef)
    (outcome : Result (Option (FieldValue V)) Error) → b ≡ is_known_object found → b ≡ true → found ≡ under name table → name ≡ innermost ty → GivesList outcome
    → IfSome result (λ non_null. IsListing non_null ty) → IfSome result (λ non_null. shape_of table ty outcome ≡ objects_in name non_null (items_given outcome))
list_known None table name found b ty outcome same true_is there is gives listing = tt
list_known {V = V} (Some non_null) table name found b ty outcome same true_is there is gives listing =
    objects_listed V table name (ap is_known_object (sym there) ∙ sym same ∙ true_is) non_null ty outcome listing is gives
