-- Lists of items under their names.
use Rattle.std.specs.Prelude.{◌≡◌, ℕ, List, map}
use Rattle.gql_base.specs.Pairs.{names_of}

-- each item stands under its own name
abbrev pub IsKeyed : {T : Type 0} → (T → List ℕ) → List (List ℕ × T) → Type 0
IsKeyed name ps = names_of ps ≡ map (λ p. name p.1) ps
