-- Which types may stand where an interface promises another (GraphQL, October 2021, section 3.6,
-- "Type Validation").
use Rattle.std.specs.Prelude.{ℕ, Bool, false, List}
use Rattle.gql_base.specs.declared.type_ref.TypeRef.{TypeRef, out-TypeRef}
use Rattle.gql_base.specs.declared.type_ref.TypeRef.TheOpen.{TypeRef-F}
use Rattle.gql_base.specs.declared.type_ref.TypeRef.TheFolds.{fold-TypeRef}
use Rattle.gql_schema.specs.Fits.{nullable_of}
use Rattle.gql_schema.specs.TableReading.{TypeTable, has_type}

-- a name is covariant to itself, and the name of an object to an interface or union that has the
-- object
abbrev pub named_covariant : TypeTable → List ℕ → TypeRef-F TypeRef → Bool
named_covariant table name (TypeRef-F.Named promised) = has_type table promised name
named_covariant table name _ = false

abbrev pub list_covariant : (TypeRef → Bool) → TypeRef-F TypeRef → Bool
list_covariant inner (TypeRef-F.List promised) = inner promised
list_covariant inner _ = false

-- one level of a type, with what the types inside are covariant to
abbrev pub covariant_step : TypeTable → TypeRef-F (TypeRef → Bool) → TypeRef → Bool
covariant_step table (TypeRef-F.Named name) promised =
    named_covariant table name (out-TypeRef promised)
covariant_step table (TypeRef-F.NonNull inner) promised = inner (nullable_of promised)
covariant_step table (TypeRef-F.List inner) promised = list_covariant inner (out-TypeRef promised)

-- whether a type is covariant to one that is promised: equal, or non-null over a covariant type, or
-- lists of covariant types, or an object that the promised interface or union has
abbrev pub is_covariant : TypeTable → TypeRef → TypeRef → Bool
is_covariant table = fold-TypeRef (TypeRef → Bool) (covariant_step table)
