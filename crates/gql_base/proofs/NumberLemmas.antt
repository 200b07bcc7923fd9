-- What a reading of a whole number says of it.
use Rattle.std.proofs.Common.{◌≡◌, ℤ, Bool, true, false, Option, Some, None, is_some, refl, ap, ◌∙◌}
use Rattle.std.specs.Prelude.{if◌then◌else◌}
use Rattle.gql_base.specs.Number.{int32_of, is_int32}

there : (number : ℤ) → is_some (int32_of number) ≡ is_int32 number
there number =
    let P : Bool → Type 0 = λ b. is_some (if b then Some number else None) ≡ b in
    elim (is_int32 number) as P [ true ↦ refl | false ↦ refl ]

-- a number is read as one of 32 bits exactly where it is one
pub int32_there : (number : ℤ) (found : Option ℤ) (told : Bool) → found ≡ int32_of number → told ≡ is_some found → told ≡ is_int32 number
int32_there number found told read is = is ∙ ap is_some read ∙ there number
