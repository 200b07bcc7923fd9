-- Types as they are referred to (GraphQL, October 2021, section 2.11).
use Rattle.std.specs.Prelude.{ℕ, Bool, true, false, List, ◌++◌, codes}
use Rattle.gql_base.specs.declared.type_ref.TypeRef.{TypeRef, out-TypeRef}
use Rattle.gql_base.specs.declared.type_ref.TypeRef.TheOpen.{TypeRef-F}
use Rattle.gql_base.specs.declared.type_ref.TypeRef.TheFolds.{fold-TypeRef}

-- the text of one level, with that of the type inside in its place
abbrev pub type_text_step : TypeRef-F (List ℕ) → List ℕ
type_text_step (TypeRef-F.Named name) = name
type_text_step (TypeRef-F.NonNull text) = text ++ codes "!"
type_text_step (TypeRef-F.List text) = codes "[" ++ (text ++ codes "]")

abbrev pub type_text : TypeRef → List ℕ
type_text = fold-TypeRef (List ℕ) type_text_step

-- the name that stands innermost
abbrev pub innermost_step : TypeRef-F (List ℕ) → List ℕ
innermost_step (TypeRef-F.Named name) = name
innermost_step (TypeRef-F.NonNull name) = name
innermost_step (TypeRef-F.List name) = name

abbrev pub innermost : TypeRef → List ℕ
innermost = fold-TypeRef (List ℕ) innermost_step

-- whether null is a value of the type: it isn't where the type is non-null
abbrev pub nullable_here : TypeRef-F TypeRef → Bool
nullable_here (TypeRef-F.Named name) = true
nullable_here (TypeRef-F.NonNull inner) = false
nullable_here (TypeRef-F.List inner) = true

abbrev pub is_nullable : TypeRef → Bool
is_nullable ty = nullable_here (out-TypeRef ty)
