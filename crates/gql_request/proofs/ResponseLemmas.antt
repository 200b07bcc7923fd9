-- The extensions of a response that are there.
use Rattle.std.proofs.Common.{◌≡◌, ℕ, List, [], ◌∷◌, ◌++◌, length, codes, Some, refl}
use Rattle.gql_base.specs.ErrorJson.{extensions_member}
use Rattle.gql_base.specs.Json.{json}
use Rattle.gql_base.specs.declared.value.Value.{Value}
use Rattle.gql_base.specs.declared.value.Value.TheVariants.{Object}

pub extensions_there : (pairs : List (List ℕ × Value)) → (length pairs ≡ 0 → ⊥)
    → extensions_member (Some pairs) ≡ codes ",\"extensions\":" ++ json (Object pairs)
extensions_there [] some = absurd (some refl)
extensions_there (pair ∷ others) some = refl
