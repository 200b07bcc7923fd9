-- Sets that nest within so many levels, as their fields are collected, and fields whose sets nest
-- within those of a request.
use Rattle.std.specs.Prelude.{◌≡◌, ℕ, zero, suc, List, []}
use Rattle.std.specs.List.{AllByRecursion}
use Rattle.gql_doc.specs.Depth.{field_set}
use Rattle.gql_doc.specs.declared.document.Field.{Field}
use Rattle.gql_doc.specs.declared.document.Positioned.{Positioned}
use Rattle.gql_doc.specs.declared.document.Selection.{Selection}
use Rattle.gql_request.specs.QueryEnv.{NestsIn}
use Rattle.gql_request.specs.declared.query_env.QueryEnv.{QueryEnv}
use Rattle.gql_select.specs.Collected.{collect, own_selections, Setting}

-- no object has fields in the selections more levels deep than these
abbrev pub IsWithin : Setting → ℕ → List (Positioned Selection) → Type 0
IsWithin setting zero selections = (object : List ℕ) → collect setting object selections ≡ []
IsWithin setting (suc n) selections = (object : List ℕ)
    → AllByRecursion (λ field. IsWithin setting n (own_selections field))
    (collect setting object selections)

-- the set of each field nests within the levels of a request
abbrev pub AllNest : QueryEnv → List (Positioned Field) → Type 0
AllNest env fields = AllByRecursion (λ field. NestsIn env (field_set field)) fields
